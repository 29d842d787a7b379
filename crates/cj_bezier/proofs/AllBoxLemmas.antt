-- The boxes of all objects in all slots: how many rows there are and of which length, and where a box stands.
use Rattle.std.proofs.Common.{◌≡◌, ℕ, List, length, map, Option, Some, None, refl, sym, ap, ◌∙◌}
use Rattle.std.specs.Prelude.{option_map, option_and_then, slice_get}
use Rattle.std.specs.List.{range_with_len}
use Rattle.std.proofs.lemmas.List.{length-map}
use Rattle.std.proofs.lemmas.List.FromFn.{length-range_with_len}
use Rattle.std.proofs.lemmas.Option.{slice_get-map}
use Rattle.cj_track.specs.PlainTracks.{PlainTrack}
use Rattle.cj_case.specs.PlainProblems.{PlainProblem}
use Rattle.cj_case.specs.Slots.{slot_first, slot_last, slot_count}
use Rattle.cj_case.specs.Tables.{value_at}
use Rattle.cj_case.specs.declared.axis_box.AxisBox.{AxisBox}
use Rattle.cj_case.specs.Boxes.{PlainBox, plain_boxes, plain_box, plain_rows}
use Rattle.cj_bezier.specs.AllBoxes.{boxes_of, boxes_over}
use Rattle.cj_bezier.specs.SlotBoxes.{box_of}

pub row_length : (e : PlainTrack) (first last n : ℕ) → length (boxes_over e first last n) ≡ n
row_length e first last n = length-map (range_with_len 0 n) (λ slot. box_of e (slot_first first slot) (slot_last first last slot)) ∙ length-range_with_len 0 n

-- a row for each object
pub rows_count : (case : PlainProblem) (rows : List (List (Option AxisBox))) → plain_rows rows ≡ boxes_of case → length rows ≡ length case.tracks
unfolding boxes_of
rows_count case rows same =
    sym (length-map rows plain_boxes) ∙ ap (λ (bs : List (List (Option PlainBox))). length bs) same
    ∙ length-map case.tracks (λ e. boxes_over e case.first case.last (slot_count case.first case.last))

-- the value at a place of rows, as they are seen
pub seen_at : (rows : List (List (Option AxisBox))) (object slot : ℕ) → value_at (plain_rows rows) object slot ≡ option_map (option_map plain_box) (value_at rows object slot)
seen_at rows object slot = ap (λ o. option_and_then (λ row. slice_get row slot) o) (slice_get-map plain_boxes rows object) ∙ go (slice_get rows object)
  where
    go : (o : Option (List (Option AxisBox))) → option_and_then (λ row. slice_get row slot) (option_map plain_boxes o) ≡ option_map (option_map plain_box) (option_and_then (λ row. slice_get row slot) o)
    go None = refl
    go (Some row) = slice_get-map (option_map plain_box) row slot
