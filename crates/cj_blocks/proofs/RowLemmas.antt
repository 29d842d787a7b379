-- The boxes of one object among those of all.
use Rattle.std.proofs.Common.{◌≡◌, ℕ, Bool, List, map, Option, Some, sym, ap, ◌∙◌}
use Rattle.std.specs.Prelude.{option_map, option_and_then, slice_get}
use Rattle.std.specs.List.{filter_map, list_all, range_with_len}
use Rattle.std.proofs.lemmas.Option.{slice_get-map}
use Rattle.cj_case.specs.declared.axis_box.AxisBox.{AxisBox}
use Rattle.cj_case.specs.Boxes.{PlainBox, plain_box, plain_boxes, plain_rows}
use Rattle.cj_case.proofs.TableLemmas.{value_in_row}
use Rattle.cj_bezier.specs.SlotBoxes.{reaches_in}
use Rattle.cj_blocks.specs.Blocks.{single_in, touches_only_as}
use Rattle.cj_blocks.specs.BoxRows.{box_at, round_all}

-- the boxes of an object are those in its row
in_own_row : (rows : List (List (Option AxisBox))) (object slot : ℕ) (row : List (Option AxisBox)) → slice_get rows object ≡ Some row
    → box_at (plain_rows rows) object slot ≡ reaches_in (plain_boxes row) slot
in_own_row rows object slot row is =
    ap (λ (o : Option (Option PlainBox)). option_and_then (λ b. b) o)
    (value_in_row (plain_rows rows) object slot (plain_boxes row) (slice_get-map plain_boxes rows object ∙ ap (λ (o : Option (List (Option AxisBox))). option_map plain_boxes o) is))

pub row_boxes : (rows : List (List (Option AxisBox))) (object : ℕ) (row : List (Option AxisBox)) → slice_get rows object ≡ Some row → box_at (plain_rows rows) object ≡ reaches_in (plain_boxes row)
row_boxes rows object row is = λ j slot. in_own_row rows object slot row is j

-- the box round those of an object is that round those in its row
pub own_round : (rows : List (List (Option AxisBox))) (object : ℕ) (row : List (Option AxisBox)) (first count : ℕ) (round : Option AxisBox) → slice_get rows object ≡ Some row
    → option_map plain_box round ≡ round_all (map (reaches_in (plain_boxes row)) (range_with_len first count))
    → option_map plain_box round ≡ round_all (map (box_at (plain_rows rows) object) (range_with_len first count))
own_round rows object row first count round is found =
    found ∙ ap (λ (f : ℕ → Option PlainBox). round_all (map f (range_with_len first count))) (sym (row_boxes rows object row is))

-- what is asked of two rows is asked of both objects
pub own_test : (rows others : List (List (Option AxisBox))) (object partner : ℕ) (own other : List (Option AxisBox)) (thr : ℕ) (round : Option PlainBox) (slots : List ℕ) (test : Bool)
    → slice_get rows object ≡ Some own → slice_get others partner ≡ Some other
    → test ≡ list_all (λ slot. touches_only_as thr round (reaches_in (plain_boxes own) slot) (reaches_in (plain_boxes other) slot)) slots
    → test ≡ list_all (λ slot. touches_only_as thr round (box_at (plain_rows rows) object slot) (box_at (plain_rows others) partner slot)) slots
own_test rows others object partner own other thr round slots test is there found =
    let f = row_boxes rows object own is in
    let g = row_boxes others partner other there in
    found ∙ sym (λ i. list_all (λ slot. touches_only_as thr round (f i slot) (g i slot)) slots)

-- the single boxes of an object are those of its row
pub own_singles : (rows : List (List (Option AxisBox))) (object : ℕ) (row : List (Option AxisBox)) (first count : ℕ) → slice_get rows object ≡ Some row
    → filter_map (single_in (λ _. reaches_in (plain_boxes row)) object) (range_with_len first count) ≡ filter_map (single_in (box_at (plain_rows rows)) object) (range_with_len first count)
own_singles rows object row first count is =
    ap (λ (f : ℕ → Option PlainBox). filter_map (single_in (λ _. f) object) (range_with_len first count)) (sym (row_boxes rows object row is))
