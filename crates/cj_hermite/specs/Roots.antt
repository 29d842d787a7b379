-- Roots: for each pair of objects, the runs of ticks of a slot at which each of both is in one piece; and those of all candidates.
use Rattle.std.specs.Prelude.{ℕ, ◌≡◌, ◌≤◌, Bool, true, is_some, if◌then◌else◌, List, [], map, filter, length, Option}
use Rattle.std.specs.List.{flat_map, range_with_len}
use Rattle.cj_case.specs.Pairs.{pairs_of}
use Rattle.cj_case.specs.PlainProblems.{PlainProblem}
use Rattle.cj_hermite.specs.ObjectsAtTicks.{number_at}
use Rattle.cj_case.specs.Slots.{slot_first, slot_last, slot_count}
use Rattle.cj_hermite.specs.CommonRuns.{Run, runs_between, both}
use Rattle.cj_case.specs.Cells.{PlainCell}

-- the numbers of the pieces in which the objects a and b are at a tick, where both have a state
abbrev pub numbers_at : PlainProblem → ℕ → ℕ → ℕ → Option (ℕ × ℕ)
numbers_at case a b m = both (number_at case a m) (number_at case b m)

-- from first to last each of the objects a and b is in one piece
pub record KeepPieces (case : PlainProblem) (a b first last : ℕ) : Type 0 where
  pub same : (m : ℕ) → first ≤ m → m ≤ last → numbers_at case a b m ≡ numbers_at case a b first
  pub nodes : is_some (numbers_at case a b first) ≡ true

abbrev pub root_of_run : ℕ → ℕ → Run → PlainCell
root_of_run a b run = record { a = a; b = b; first = run.first; last = run.last }

-- the roots of the objects a and b from first to last
unfoldable pub roots_between : PlainProblem → ℕ → ℕ → ℕ → ℕ → List PlainCell
roots_between case a b first last = map (root_of_run a b) (runs_between (numbers_at case a b) first last)

-- the roots of the objects a and b in a slot
abbrev pub roots_in : PlainProblem → ℕ → ℕ → ℕ → List PlainCell
roots_in case slot a b = roots_between case a b (slot_first case.first slot) (slot_last case.first case.last slot)

-- the roots of these pairs in a slot
abbrev pub roots_in_slot : PlainProblem → ℕ → List (ℕ × ℕ) → List PlainCell
roots_in_slot case slot pairs = flat_map (λ pair. roots_in case slot pair.0 pair.1) pairs

-- the slots of a window, in order
abbrev pub slots_of : PlainProblem → List ℕ
slots_of case = range_with_len 0 (slot_count case.first case.last)

-- the roots of all candidates, in order of pair and time
unfoldable pub roots_of : (ℕ → ℕ → ℕ → Bool) → PlainProblem → List PlainCell
roots_of candidate case =
    flat_map (λ pair. flat_map (λ slot. if candidate pair.0 pair.1 slot then roots_in case slot pair.0 pair.1 else []) (slots_of case))
    (pairs_of (length case.tracks))

-- the same roots slot by slot, in each slot in order of pair and time
unfoldable pub roots_by_slot : (ℕ → ℕ → ℕ → Bool) → PlainProblem → List PlainCell
roots_by_slot candidate case =
    flat_map (λ slot. roots_in_slot case slot (filter (λ pair. candidate pair.0 pair.1 slot) (pairs_of (length case.tracks)))) (slots_of case)
