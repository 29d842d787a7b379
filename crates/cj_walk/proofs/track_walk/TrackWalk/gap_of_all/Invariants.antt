use Rattle.std.proofs.Common.{◌≡◌, ◌-◌}
use Rattle.cj_walk.specs.TrackWalks.{IsWalk}
use Rattle.cj_walk.proofs.track_walk.TrackWalk.gap_of_all.Given as goal

abbrev pub invariant-loop : goal.invariant-loop
invariant-loop l = record {
  walks : IsWalk l.self;
  track : l.self.track.now ≡ l.initial.self.track.now;
  window : l.self.window ≡ l.initial.self.window;
}

abbrev pub decreases-loop : goal.decreases-loop
decreases-loop l = l.self.window.last.micros - l.self.part.last.micros
