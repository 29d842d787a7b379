use Rattle.std.proofs.Common.{◌≡◌, ◌++◌}
use Rattle.cj_track.specs.Tracks.{plain_track}
use Rattle.cj_case.specs.Boxes.{plain_boxes}
use Rattle.cj_bezier.specs.AllBoxes.{boxes_over}
use Rattle.cj_walk.specs.TrackWalks.{IsWalk}
use Rattle.cj_candidates.specs.MeasuredObjects.{IsInOwnBoxes}
use Rattle.cj_candidates.proofs.objects_measured.append_boxes.Given as goal

abbrev pub invariant-loop-slot : goal.invariant-loop-slot
invariant-loop-slot l =
    let walk = l.initial.walk in
    record {
      value : plain_boxes l.boxes.items ≡ plain_boxes l.initial.boxes.items ++ boxes_over (plain_track walk.track.now) walk.window.first.micros walk.window.last.micros l.slot;
      hold : IsInOwnBoxes walk.window.first.micros walk.window.last.micros l.slot (plain_track walk.track.now);
      walks : IsWalk l.walk;
      track : l.walk.track.now ≡ walk.track.now;
      window : l.walk.window ≡ walk.window;
    }
