use Rattle.std.proofs.Common.{◌≡◌, map, filter, length}
use Rattle.std.specs.List.{flat_map, range_with_len}
use Rattle.cj_case.specs.Pairs.{objects_of}
use Rattle.cj_case.proofs.PairLemmas.{pairs_from}
use Rattle.cj_sieve.specs.Among.{keeps_among}
use Rattle.cj_sieve.proofs.pair_filter.list_kept.Given as goal

abbrev pub invariant-loop-a : goal.invariant-loop-a
invariant-loop-a l = map objects_of l.pairs.items ≡ filter (keeps_among l.objects) (flat_map (pairs_from (length l.objects.shells.now)) (range_with_len 0 l.a))
