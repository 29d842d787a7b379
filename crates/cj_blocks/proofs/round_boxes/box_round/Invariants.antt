use Rattle.std.proofs.Common.{◌≡◌, ◌-◌, ◌<◌, map, Some}
use Rattle.std.specs.List.{range_with_len}
use Rattle.cj_case.specs.Boxes.{plain_box, plain_boxes}
use Rattle.cj_bezier.specs.SlotBoxes.{reaches_in}
use Rattle.cj_blocks.specs.BoxRows.{round_all}
use Rattle.cj_blocks.proofs.round_boxes.box_round.Given as goal

abbrev pub invariant-loop-slot : goal.invariant-loop-slot
invariant-loop-slot l = record {
  later : l.fn.slots.first < l.slot;
  round : Some (plain_box l.round) ≡ round_all (map (reaches_in (plain_boxes l.row)) (range_with_len l.fn.slots.first (l.slot - l.fn.slots.first)));
}
