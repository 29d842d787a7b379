use Rattle.std.proofs.Common.{ℕ, ◌<◌, ◌≤◌, ◌^◌}
use Rattle.std.specs.Prelude.{slice_index}
use Rattle.cj_grid.specs.Sweeps.{IsNoLonger}
use Rattle.cj_grid.proofs.reaches.longest_along.Given as goal

abbrev pub invariant-loop-object : goal.invariant-loop-object
invariant-loop-object l = record {
  value : (k : ℕ) → k < l.object-index → IsNoLonger l.objects l.axis l.longest (slice_index l.some k);
  few : l.longest ≤ 10 ^ 20;
}
