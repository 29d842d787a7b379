use Rattle.std.proofs.Common.{◌≡◌, ◌-◌, ◌≤◌}
use Rattle.cj_track.specs.Tracks.{plain_track}
use Rattle.cj_coverage.specs.Coverage.{HasAll}
use Rattle.cj_coverage.proofs.stretches.gone_on.Given as goal

abbrev pub invariant-loop-longest : goal.invariant-loop-longest
invariant-loop-longest l = record {
  first : l.longest.first.micros ≡ l.fn.stretch.first.micros;
  longer : l.fn.stretch.last.micros ≤ l.longest.last.micros;
  all : HasAll (plain_track l.track) l.longest.first.micros l.longest.last.micros;
}

abbrev pub decreases-loop-longest : goal.decreases-loop-longest
decreases-loop-longest l = l.last.micros - l.longest.last.micros
