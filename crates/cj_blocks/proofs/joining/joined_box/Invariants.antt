use Rattle.std.proofs.Common.{◌≡◌, true, option_map, take}
use Rattle.std.specs.List.{list_all, range_with_len}
use Rattle.cj_case.specs.Pairs.{objects_of}
use Rattle.cj_case.specs.Boxes.{plain_box, plain_rows}
use Rattle.cj_blocks.specs.Blocks.{touches_as_own}
use Rattle.cj_blocks.specs.BoxRows.{box_at}
use Rattle.cj_blocks.proofs.joining.joined_box.Given as goal

abbrev pub invariant-loop-pair : goal.invariant-loop-pair
invariant-loop-pair l =
    list_all (λ pair. touches_as_own l.thr l.sizes (box_at (plain_rows l.boxes.rows)) (box_at (plain_rows l.current.rows)) l.object (range_with_len l.slots.first l.slots.count)
    (option_map plain_box l.round) (objects_of pair)) (take l.pair-index l.pairs) ≡ true
