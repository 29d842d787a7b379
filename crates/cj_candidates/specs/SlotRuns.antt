-- What is found in some slots.
use Rattle.std.specs.Prelude.{◌≡◌, ℕ, ◌<◌, ◌≤◌, List, length, min, true, vec_len, Result, IfOk, IsErrOf}
use Rattle.std.specs.List.{AllPairs, flat_map, list_all, range_with_len, sum_by}
use Rattle.std.specs.List.Sorted.{IsPermutation}
use Rattle.cj_case.specs.PlainProblems.{PlainProblem}
use Rattle.cj_case.specs.Cells.{PlainCell, IsRootUpTo}
use Rattle.cj_hermite.specs.Roots.{roots_in_slot}
use Rattle.cj_case.specs.declared.cell.Cell.{Cell}
use Rattle.cj_case.specs.Cells.{plain_cells}
use Rattle.cj_cells.specs.declared.refine_error.RefineError.{RefineError}
use Rattle.cj_cells.specs.declared.refine_error.RefineError.TheVariants.{TooMany}
use Rattle.cj_candidates.specs.declared.slot_run.SlotRun.{SlotRun}
use Rattle.cj_candidates.specs.declared.slot_run.ThreadRun.{ThreadRun}
use Rattle.cj_candidates.specs.declared.ground.Ground.{Ground}
use Rattle.cj_candidates.specs.SoughtPairs.{candidates_of, pairs_sought}
use Rattle.cj_case.specs.Problems.{plain_problem}

-- the pairs that are compared there
abbrev pub sought_in : Ground → List (ℕ × ℕ)
sought_in known = pairs_sought (plain_problem known.problem.now) known.sought

-- the roots of those pairs that are candidates in some slots, slot by slot
abbrev pub roots_at : PlainProblem → List (ℕ × ℕ) → List ℕ → List PlainCell
roots_at case sought slots = flat_map (λ slot. roots_in_slot case slot (candidates_of case sought slot)) slots

-- how many of the pairs are candidates there, summed over the slots
abbrev pub candidates_at : PlainProblem → List (ℕ × ℕ) → List ℕ → ℕ
candidates_at case sought slots = sum_by (λ slot. length (candidates_of case sought slot)) slots

-- those in so many slots from one on
abbrev pub roots_over : PlainProblem → List (ℕ × ℕ) → ℕ → ℕ → List PlainCell
roots_over case sought from count = roots_at case sought (range_with_len from count)

abbrev pub candidates_over : PlainProblem → List (ℕ × ℕ) → ℕ → ℕ → ℕ
candidates_over case sought from count = candidates_at case sought (range_with_len from count)

-- these are found, at most so many, and stand in order of pair and tick
pub record IsFound (case : PlainProblem) (sought : List (ℕ × ℕ)) (from count limit : ℕ) (run : SlotRun) : Type 0 where
  pub roots : IsPermutation (roots_over case sought from count) (plain_cells run.roots.items)
  pub ordered : AllPairs IsRootUpTo (plain_cells run.roots.items)
  pub few : vec_len run.roots ≤ limit
  pub touching : run.touching ≡ candidates_over case sought from count

-- they are found, or there are more, or memory ran out
pub record AreSought (case : PlainProblem) (sought : List (ℕ × ℕ)) (from count limit : ℕ) (result : Result SlotRun RefineError) : Type 0 where
  pub too_many : IsErrOf result TooMany → limit < length (roots_over case sought from count)
  pub found : IfOk result (IsFound case sought from count limit)

-- a thread has found these in some slots: all of them, in whatever order, or no more than there are
pub record IsFoundIn (case : PlainProblem) (sought : List (ℕ × ℕ)) (slots : List ℕ) (run : ThreadRun) : Type 0 where
  pub few : length run.roots.items ≤ length (roots_at case sought slots)
  pub roots : run.whole ≡ true → IsPermutation (roots_at case sought slots) (plain_cells run.roots.items)
  pub touching : run.whole ≡ true → run.touching ≡ min (candidates_at case sought slots) 18_446_744_073_709_551_615

-- the roots of several runs, one run behind another
abbrev pub roots_listed : List ThreadRun → List Cell
roots_listed runs = flat_map (λ run. run.roots.items) runs

-- how many candidates they have counted together, or the greatest number that there is
abbrev pub candidates_counted : List ThreadRun → ℕ
candidates_counted runs = min (sum_by (λ run. run.touching) runs) 18_446_744_073_709_551_615

-- none of them was stopped
abbrev pub AreWhole : List ThreadRun → Type 0
AreWhole runs = list_all (λ run. run.whole) runs ≡ true

-- threads have found these in some slots
pub record AreFoundIn (case : PlainProblem) (sought : List (ℕ × ℕ)) (slots : List ℕ) (runs : List ThreadRun) : Type 0 where
  pub few : length (roots_listed runs) ≤ length (roots_at case sought slots)
  pub roots : AreWhole runs → IsPermutation (roots_at case sought slots) (plain_cells (roots_listed runs))
  pub touching : AreWhole runs → candidates_counted runs ≡ min (candidates_at case sought slots) 18_446_744_073_709_551_615
