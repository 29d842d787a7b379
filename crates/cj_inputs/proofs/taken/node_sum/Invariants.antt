use Rattle.std.proofs.Common.{◌≡◌, ◌≤◌, take}
use Rattle.cj_case.specs.CaseLimits.{node_total}
use Rattle.cj_inputs.proofs.taken.node_sum.Given as goal

abbrev pub invariant-loop-track : goal.invariant-loop-track
invariant-loop-track l = record {
  counted : l.count ≡ node_total (take l.track-index l.tracks);
  many : l.track-index ≤ l.count;
}
