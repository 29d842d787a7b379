use Rattle.std.proofs.Common.{◌≡◌, map, filter, take}
use Rattle.cj_case.specs.Pairs.{objects_of}
use Rattle.cj_candidates.specs.SoughtPairs.{is_listed}
use Rattle.cj_candidates.proofs.touching.in_list.Given as goal

abbrev pub invariant-loop-pair : goal.invariant-loop-pair
invariant-loop-pair l = map objects_of l.some.items ≡ filter (is_listed (map objects_of l.list)) (map objects_of (take l.pair-index l.pairs))
