-- Encounters whose spans split the common ticks of every pair that is looked at, or of those that are not unchanged; and what stays so of the others.
use Rattle.std.specs.Prelude.{◌≡◌, ℕ, ◌<◌, ◌↔◌, true, false, List, Any}
use Rattle.cj_hermite.specs.Distance.{IsNear, IsFar, IsInBand}
use Rattle.cj_case.specs.PlainProblems.{PlainProblem, threshold_of}
use Rattle.cj_case.specs.Unchanged.{is_object, is_unchanged}
use Rattle.cj_hermite.specs.ObjectsAtTicks.{IsCommonOf, OfObjectsAt}
use Rattle.cj_case.specs.declared.kind.Kind.TheVariants.{Near, Undecided}
use Rattle.cj_case.specs.Leaves.{PlainLeaf}
use Rattle.cj_meet.specs.Spans.{LiesInSpan}

-- The spans of these encounters split the common ticks of every pair of objects a and b with a primary. A span holds such ticks only.
pub record SplitsTicks (case : PlainProblem) (encounters : List (List PlainLeaf)) : Type 0 where
  -- at each tick of a near span the distance is at most the pair's threshold
  pub near : (a b m : ℕ) → Any (LiesInSpan Near a b m) encounters
      → IsCommonOf case a b m × OfObjectsAt case a b m (λ c d. IsNear c d (threshold_of case a b) m)
  -- at each tick of an undecided span it is within one millimetre of it
  pub undecided : (a b m : ℕ) → Any (LiesInSpan Undecided a b m) encounters
      → IsCommonOf case a b m × OfObjectsAt case a b m (λ c d. IsInBand c d (threshold_of case a b) m)
  -- at a common tick that is in no span it is more
  pub outside : (a b m : ℕ) → IsCommonOf case a b m → ¬ Any (LiesInSpan Near a b m) encounters → ¬ Any (LiesInSpan Undecided a b m) encounters
      → OfObjectsAt case a b m (λ c d. IsFar c d (threshold_of case a b) m)

-- The spans of these encounters split the common ticks of every pair of objects of the new case with a primary that is not unchanged. A span
-- holds such ticks only.
pub record SplitsChangedTicks (old new : PlainProblem) (encounters : List (List PlainLeaf)) : Type 0 where
  pub near : (a b m : ℕ) → Any (LiesInSpan Near a b m) encounters
      → IsCommonOf new a b m × OfObjectsAt new a b m (λ c d. IsNear c d (threshold_of new a b) m)
  pub undecided : (a b m : ℕ) → Any (LiesInSpan Undecided a b m) encounters
      → IsCommonOf new a b m × OfObjectsAt new a b m (λ c d. IsInBand c d (threshold_of new a b) m)
  pub outside : (a b m : ℕ) → is_unchanged old new (a, b) ≡ false → IsCommonOf new a b m
      → ¬ Any (LiesInSpan Near a b m) encounters → ¬ Any (LiesInSpan Undecided a b m) encounters
      → OfObjectsAt new a b m (λ c d. IsFar c d (threshold_of new a b) m)

-- what is so of the objects p and q of the old case at each tick is so of the objects a and b of the new one
pub record StaysSo (old new : PlainProblem) (p q a b : ℕ) : Type 0 where
  pub common : (m : ℕ) → IsCommonOf old p q m ↔ IsCommonOf new a b m
  pub near : (m : ℕ) → OfObjectsAt old p q m (λ c d. IsNear c d (threshold_of old p q) m) → OfObjectsAt new a b m (λ c d. IsNear c d (threshold_of new a b) m)
  pub undecided : (m : ℕ) → OfObjectsAt old p q m (λ c d. IsInBand c d (threshold_of old p q) m)
      → OfObjectsAt new a b m (λ c d. IsInBand c d (threshold_of new a b) m)
  pub far : (m : ℕ) → OfObjectsAt old p q m (λ c d. IsFar c d (threshold_of old p q) m) → OfObjectsAt new a b m (λ c d. IsFar c d (threshold_of new a b) m)

-- so what is known of a pair of the old case stays true of the unchanged pair that it is in the new one
abbrev pub StillSo : PlainProblem → PlainProblem → Type 0
StillSo old new = (p q a b : ℕ) → p < q → a < b → is_object old new p a ≡ true → is_object old new q b ≡ true → StaysSo old new p q a b
