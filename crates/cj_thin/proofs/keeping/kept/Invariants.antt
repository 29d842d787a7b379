use Rattle.std.proofs.Common.{◌≡◌, ◌-◌, ◌≤◌, ◌++◌, length, map, drop}
use Rattle.cj_track.specs.Tracks.{plain_node}
use Rattle.cj_thin.specs.Thinned as spec
use Rattle.cj_thin.proofs.keeping.kept.Given as goal

-- what is kept so far, then what is kept of those that are left, is the whole
abbrev pub invariant-loop-at : goal.invariant-loop-at
invariant-loop-at l = record {
  told : map plain_node l.kept.items ++ spec.kept (l.e) (map plain_node (drop l.at l.nodes)) ≡ spec.kept (l.e) (map plain_node l.nodes);
  within : l.at ≤ length l.nodes;
}

abbrev pub decreases-loop-at : goal.decreases-loop-at
decreases-loop-at l = length l.nodes - l.at
