use Rattle.std.proofs.Common.{◌≡◌, ◌++◌}
use Rattle.cj_track.specs.Tracks.{plain_track}
use Rattle.cj_case.specs.Boxes.{plain_boxes}
use Rattle.cj_bezier.specs.AllBoxes.{boxes_over}
use Rattle.cj_checker.specs.Walks.{IsWalk}
use Rattle.cj_checker.proofs.rows.append_boxes.Given as goal

abbrev pub invariant-loop-slot : goal.invariant-loop-slot
invariant-loop-slot l =
    let window = l.course.problem.now.window in
    record {
      boxes : plain_boxes l.boxes.items ≡ plain_boxes l.initial.boxes.items ++ boxes_over (plain_track l.course.track.now) window.first.micros window.last.micros l.slot;
      walks : IsWalk l.course l.walk;
    }
