use Rattle.std.proofs.Common.{◌≡◌, ◌-◌, ◌≤◌, ◌++◌, map}
use Rattle.std.specs.List.{filter_map, range_with_len}
use Rattle.cj_case.specs.Boxes.{plain_boxes}
use Rattle.cj_blocks.specs.Blocks.{single_in}
use Rattle.cj_bezier.specs.SlotBoxes.{reaches_in}
use Rattle.cj_blocks.specs.Listed.{plain_block}
use Rattle.cj_blocks.proofs.listing.append_singles.Given as goal

abbrev pub invariant-loop-slot : goal.invariant-loop-slot
invariant-loop-slot l = record {
  later : l.fn.slots.first ≤ l.slot;
  blocks : map plain_block l.blocks.items
      ≡ map plain_block l.initial.blocks.items ++ filter_map (single_in (λ _. reaches_in (plain_boxes l.row)) l.object) (range_with_len l.fn.slots.first (l.slot - l.fn.slots.first));
}
