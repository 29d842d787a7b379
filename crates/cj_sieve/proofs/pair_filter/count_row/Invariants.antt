use Rattle.std.proofs.Common.{◌≡◌, ◌≤◌, filter, length}
use Rattle.cj_case.proofs.PairLemmas.{row_to}
use Rattle.cj_sieve.specs.Among.{keeps_among}
use Rattle.cj_sieve.proofs.pair_filter.count_row.Given as goal

abbrev pub invariant-loop-b : goal.invariant-loop-b
invariant-loop-b l = record {
  counted : l.count ≡ length (filter (keeps_among l.objects) (row_to l.a l.b));
  few : l.count ≤ l.b;
}
