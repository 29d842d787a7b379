-- One-thread lists that are true.
use Rattle.std.specs.Prelude.{◌≡◌, ℕ, Bool, true, All, Any}
use Rattle.cj_case.specs.PlainProblems.{PlainProblem}
use Rattle.cj_case.specs.Leaves.{IsTickOf}
use Rattle.cj_case.specs.Order.{AreInOrder}
use Rattle.cj_case.specs.Slots.{slot_of}
use Rattle.cj_hermite.specs.ObjectsAtTicks.{IsCommonOf}
use Rattle.cj_hermite.specs.Roots.{KeepPieces}
use Rattle.cj_cells.specs.Lists.{IsSound, list_of}

-- What the one-thread list of the candidates by a test says of its case. Each leaf is true at each of its ticks, each common tick of a candidate lies in
-- a leaf of that pair, they are in order of pair and time, and over each leaf both its objects are in one piece.
pub record IsTrueList (candidate : ℕ → ℕ → ℕ → Bool) (case : PlainProblem) : Type 0 where
  pub sound : All (IsSound case) (list_of candidate case)
  pub complete : (a b m : ℕ) → IsCommonOf case a b m → candidate a b (slot_of case.first m) ≡ true → Any (IsTickOf a b m) (list_of candidate case)
  pub ordered : AreInOrder (list_of candidate case)
  pub pieces : All (λ s. KeepPieces case s.a s.b s.first s.last) (list_of candidate case)
