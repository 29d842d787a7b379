use Rattle.std.proofs.Common.{◌≡◌, map}
use Rattle.std.specs.List.{range_with_len}
use Rattle.cj_case.specs.Boxes.{plain_boxes}
use Rattle.cj_checker.specs.ListedBoxes.{table_of}
use Rattle.cj_checker.proofs.rounds.fill.Given as goal

abbrev pub invariant-loop-object : goal.invariant-loop-object
invariant-loop-object l = plain_boxes l.boxes.items ≡ map (table_of l.listed l.slot) (range_with_len 0 l.object)
