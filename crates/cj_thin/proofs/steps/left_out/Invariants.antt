use Rattle.std.proofs.Common.{◌≡◌, ◌+◌, ◌-◌, ◌≤◌, length, map}
use Rattle.cj_track.specs.Tracks.{plain_node}
use Rattle.cj_interval.specs.Passing.{least_from}
use Rattle.cj_thin.specs.Thinned as spec
use Rattle.cj_thin.proofs.steps.left_out.Given as goal

-- the first step that is not allowed is behind those that were tried
abbrev pub invariant-loop-count : goal.invariant-loop-count
invariant-loop-count l = record {
  tried : least_from (length l.behind - 1 - l.count) (l.count + 1) (spec.is_refused l.e (plain_node l.from) (map plain_node l.behind))
      ≡ least_from (length l.behind - 1) 1 (spec.is_refused l.e (plain_node l.from) (map plain_node l.behind));
  within : l.count ≤ length l.behind;
}

abbrev pub decreases-loop-count : goal.decreases-loop-count
decreases-loop-count l = length l.behind - l.count
