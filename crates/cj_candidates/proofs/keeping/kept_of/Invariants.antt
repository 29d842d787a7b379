use Rattle.std.proofs.Common.{◌≡◌, map, filter, take}
use Rattle.cj_case.specs.Pairs.{objects_of}
use Rattle.cj_sieve.specs.Among.{keeps_among}
use Rattle.cj_candidates.proofs.keeping.kept_of.Given as goal

abbrev pub invariant-loop-pair : goal.invariant-loop-pair
invariant-loop-pair l = map objects_of l.kept.items ≡ filter (keeps_among l.objects) (map objects_of (take l.pair-index l.pairs))
