use Rattle.std.proofs.Common.{◌≡◌, ◌*◌, ◌≤◌, take}
use Rattle.std.specs.List.{sum}
use Rattle.cj_sieve.proofs.pair_filter.sum_of.Given as goal

abbrev pub invariant-loop-count : goal.invariant-loop-count
invariant-loop-count l = record {
  so_far : l.sum ≡ sum (take l.count-index l.counts);
  few : l.sum ≤ l.count-index * 65_535;
}
