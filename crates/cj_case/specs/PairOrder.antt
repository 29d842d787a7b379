-- Where elements of a list belong: by pair, and within a pair by tick.
use Rattle.std.specs.Prelude.{◌≡◌, ◌≤◌, List, AllPairs}
use Rattle.cj_base.specs.declared.tick.Tick.{Tick}
use Rattle.cj_case.specs.declared.pair.Pair.{Pair}

-- p is of an earlier pair than q, or of the same pair and no later
pub record IsUpTo (p q : Pair × Tick) : Type 0 where
  pub first_object : p.0.a ≤ q.0.a
  pub second_object : p.0.a ≡ q.0.a → p.0.b ≤ q.0.b
  pub tick : p.0.a ≡ q.0.a → p.0.b ≡ q.0.b → p.1.micros ≤ q.1.micros

-- each element belongs no later than those behind it
abbrev pub AreInOrderBy : {X : Type 0} → (X → Pair × Tick) → List X → Type 0
AreInOrderBy place xs = AllPairs (λ x y. IsUpTo (place x) (place y)) xs
