use Rattle.std.proofs.Common.{◌≡◌, map, filter, take}
use Rattle.cj_case.specs.Pairs.{objects_of}
use Rattle.cj_bezier.specs.SlotBoxes.{touch_between}
use Rattle.cj_case.specs.Boxes.{plain_boxes}
use Rattle.cj_candidates.proofs.touching.touching_one_by_one.Given as goal

abbrev pub invariant-loop-pair : goal.invariant-loop-pair
invariant-loop-pair l = map objects_of l.some.items ≡ filter (touch_between l.thr l.sizes (plain_boxes l.boxes)) (map objects_of (take l.pair-index l.pairs))
