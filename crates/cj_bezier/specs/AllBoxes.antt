-- The boxes of all objects in all slots.
use Rattle.std.specs.Prelude.{ℕ, List, map, Option}
use Rattle.std.specs.List.{range_with_len}
use Rattle.cj_track.specs.PlainTracks.{PlainTrack}
use Rattle.cj_case.specs.PlainProblems.{PlainProblem}
use Rattle.cj_case.specs.Slots.{slot_first, slot_last, slot_count}
use Rattle.cj_case.specs.Boxes.{PlainBox}
use Rattle.cj_bezier.specs.SlotBoxes.{box_of}

-- the boxes of an object in the first n slots of a window
abbrev pub boxes_over : PlainTrack → ℕ → ℕ → ℕ → List (Option PlainBox)
boxes_over e first last n = map (λ slot. box_of e (slot_first first slot) (slot_last first last slot)) (range_with_len 0 n)

-- the boxes of all objects in each slot, a row for each object
unfoldable pub boxes_of : PlainProblem → List (List (Option PlainBox))
boxes_of case = map (λ e. boxes_over e case.first case.last (slot_count case.first case.last)) case.tracks
