use Rattle.std.proofs.Common.{◌≡◌, ◌++◌, map, filter}
use Rattle.cj_case.specs.Pairs.{objects_of}
use Rattle.cj_case.proofs.PairLemmas.{row_to}
use Rattle.cj_sieve.specs.Among.{keeps_among}
use Rattle.cj_sieve.proofs.pair_filter.append_row.Given as goal

abbrev pub invariant-loop-b : goal.invariant-loop-b
invariant-loop-b l = map objects_of l.pairs.items ≡ map objects_of l.initial.pairs.items ++ filter (keeps_among l.objects) (row_to l.a l.b)
