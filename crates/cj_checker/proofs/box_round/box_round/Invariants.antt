use Rattle.std.proofs.Common.{◌-◌}
use Rattle.cj_track.specs.Tracks.{plain_track}
use Rattle.cj_checker.specs.Walks.{IsWalk}
use Rattle.cj_checker.proofs.RowLemmas.{IsBoxUpTo}
use Rattle.cj_checker.proofs.box_round.box_round.Given as goal

abbrev pub invariant-loop-part : goal.invariant-loop-part
invariant-loop-part l = record {
  area : IsBoxUpTo (plain_track l.course.track.now) l.ticks.first.micros l.part.last.micros l.ticks.last.micros l.area;
  walks : IsWalk l.course l.walk;
}

abbrev pub decreases-loop-part : goal.decreases-loop-part
decreases-loop-part l = l.ticks.last.micros - l.part.last.micros
