use Rattle.std.proofs.Common.{◌≡◌, ◌-◌}
use Rattle.cj_track.specs.Tracks.{plain_track}
use Rattle.cj_walk.specs.TrackWalks.{IsWalk}
use Rattle.cj_grid.proofs.TrackBoxLemmas.{IsBoxUpTo}
use Rattle.cj_grid.proofs.track_box.box_round.Given as goal

abbrev pub invariant-loop-part : goal.invariant-loop-part
invariant-loop-part l = record {
  area : IsBoxUpTo (plain_track l.initial.walk.track.now) l.window.first.micros l.part.last.micros l.window.last.micros l.area;
  walks : IsWalk l.walk;
  track : l.walk.track.now ≡ l.initial.walk.track.now;
  window : l.walk.window ≡ l.initial.walk.window;
}

abbrev pub decreases-loop-part : goal.decreases-loop-part
decreases-loop-part l = l.window.last.micros - l.part.last.micros
