-- Candidates: in each slot the pairs with a primary whose shells are not parted and whose boxes touch.
use Rattle.std.specs.Prelude.{ℕ, Bool, ◌&&◌, not, List, map, filter, length, Option}
use Rattle.cj_case.specs.PlainProblems.{PlainProblem}
use Rattle.cj_case.specs.Pairs.{pairs_of}
use Rattle.cj_case.specs.Unchanged.{is_unchanged}
use Rattle.cj_case.specs.Slots.{slot_first, slot_last}
use Rattle.cj_case.specs.declared.shells.Shell.{Shell}
use Rattle.cj_bezier.specs.Shells.{shell_of, keeps_between}
use Rattle.cj_case.specs.Boxes.{PlainBox}
use Rattle.cj_bezier.specs.SlotBoxes.{box_of, touch_between}

-- the shells of all objects in the window
unfoldable pub shells_of : PlainProblem → List (Option Shell)
shells_of case = map (λ e. shell_of e case.first case.last) case.tracks

-- the boxes of all objects in a slot
unfoldable pub boxes_in : PlainProblem → ℕ → List (Option PlainBox)
boxes_in case slot = map (λ e. box_of e (slot_first case.first slot) (slot_last case.first case.last slot)) case.tracks

-- a pair has a primary, and its shells are not parted
abbrev pub is_kept : PlainProblem → ℕ × ℕ → Bool
is_kept case = keeps_between case.primaries case.threshold case.sizes (shells_of case)

-- the boxes of a pair touch in a slot
abbrev pub is_touching : PlainProblem → ℕ → ℕ × ℕ → Bool
is_touching case slot = touch_between case.threshold case.sizes (boxes_in case slot)

-- a pair is a candidate in a slot, by these shells and these boxes in each slot: it has a primary, its shells are not parted, and its boxes touch
abbrev pub candidate_by : PlainProblem → List (Option Shell) → (ℕ → List (Option PlainBox)) → ℕ → ℕ → ℕ → Bool
candidate_by case shells boxes a b slot =
    keeps_between case.primaries case.threshold case.sizes shells (a, b) && touch_between case.threshold case.sizes (boxes slot) (a, b)

-- by the shells and boxes of its objects
unfoldable pub is_candidate : PlainProblem → ℕ → ℕ → ℕ → Bool
is_candidate case = candidate_by case (shells_of case) (boxes_in case)

-- a pair is a candidate of the new case in a slot, and is not unchanged
unfoldable pub is_candidate_anew : PlainProblem → PlainProblem → ℕ → ℕ → ℕ → Bool
is_candidate_anew old new a b slot = not (is_unchanged old new (a, b)) && is_candidate new a b slot

-- a pair of the new case is kept, and is unchanged
abbrev pub is_kept_unchanged : PlainProblem → PlainProblem → ℕ × ℕ → Bool
is_kept_unchanged old new pair = is_kept new pair && is_unchanged old new pair

-- the pairs that are kept, in order
abbrev pub pairs_kept : PlainProblem → List (ℕ × ℕ)
pairs_kept case = filter (is_kept case) (pairs_of (length case.tracks))

-- the candidates of a slot, in order
abbrev pub candidate_pairs : PlainProblem → ℕ → List (ℕ × ℕ)
candidate_pairs case slot = filter (λ pair. is_candidate case pair.0 pair.1 slot) (pairs_of (length case.tracks))
