use Rattle.std.proofs.Common.{◌≡◌, ◌≤◌, ◌+◌, ◌-◌}
use Rattle.cj_track.specs.Tracks.{plain_track}
use Rattle.cj_hermite.specs.CommonRuns.{runs_between, both_numbers}
use Rattle.cj_hermite.proofs.common_runs.next_common_pieces.Given as goal

-- no common run begins before the tick that is reached
abbrev pub invariant-loop-x : goal.invariant-loop-x
invariant-loop-x l = record {
  reached : l.fn.from.micros ≤ l.at.micros;
  same : runs_between (both_numbers (plain_track l.a) (plain_track l.b)) l.fn.from.micros l.last.micros ≡ runs_between (both_numbers (plain_track l.a) (plain_track l.b)) l.at.micros l.last.micros;
}

abbrev pub decreases-loop-x : goal.decreases-loop-x
decreases-loop-x l = l.last.micros + 1 - l.at.micros
