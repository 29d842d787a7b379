use Rattle.std.proofs.Common.{◌-◌}
use Rattle.cj_track.specs.Tracks.{plain_track}
use Rattle.cj_bezier.specs.Hulls.{axes_of}
use Rattle.cj_case.specs.Boxes.{plain_box}
use Rattle.cj_checker.specs.Tests.{is_hull_in}
use Rattle.cj_checker.specs.Walks.{IsWalk}
use Rattle.cj_checker.proofs.HullLemmas.{IsMetUpTo}
use Rattle.cj_checker.proofs.hulls_inside.are_hulls_in.Given as goal

abbrev pub invariant-loop-part : goal.invariant-loop-part
invariant-loop-part l = record {
  walks : IsWalk l.course l.walk;
  met : IsMetUpTo (is_hull_in (plain_box l.area)) (plain_track l.course.track.now) l.ticks.first.micros l.part.last.micros l.ticks.last.micros (axes_of l.part.hull.points);
}

abbrev pub decreases-loop-part : goal.decreases-loop-part
decreases-loop-part l = l.ticks.last.micros - l.part.last.micros
