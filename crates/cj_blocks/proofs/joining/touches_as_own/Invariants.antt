use Rattle.std.proofs.Common.{◌≡◌, ◌-◌, ◌≤◌, true, option_map}
use Rattle.std.specs.List.{list_all, range_with_len}
use Rattle.cj_case.specs.Boxes.{plain_box, plain_boxes}
use Rattle.cj_blocks.specs.Blocks.{touches_only_as}
use Rattle.cj_bezier.specs.SlotBoxes.{reaches_in}
use Rattle.cj_blocks.proofs.joining.touches_as_own.Given as goal

abbrev pub invariant-loop-slot : goal.invariant-loop-slot
invariant-loop-slot l = record {
  later : l.fn.slots.first ≤ l.slot;
  so_far : list_all (λ slot. touches_only_as l.thr (option_map plain_box l.round) (reaches_in (plain_boxes l.own) slot) (reaches_in (plain_boxes l.other) slot))
      (range_with_len l.fn.slots.first (l.slot - l.fn.slots.first)) ≡ true;
}
