-- Weights: what each item of a list counts for.
use Rattle.std.specs.Prelude.{ℕ, ◌+◌, List, [], ◌∷◌}
use Rattle.std.proofs.Common.{cond, eqb, leb}
use Rattle.cj_case.specs.declared.cell.Cell.{Cell}

-- what all items weigh together
abbrev pub weigh : {X : Type 0} → (X → ℕ) → List X → ℕ
weigh f [] = 0
weigh f (x ∷ xs) = f x + weigh f xs

-- one for each cell of the objects a and b that has this tick
abbrev pub has : ℕ → ℕ → ℕ → Cell → ℕ
has a b m c = cond (eqb c.pair.a a) (cond (eqb c.pair.b b) (cond (leb c.first.micros m) (cond (leb m c.last.micros) 1 0) 0) 0) 0
