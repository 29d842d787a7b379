use Rattle.std.proofs.Common.{◌≡◌, ◌-◌}
use Rattle.cj_walk.specs.TrackWalks.{IsWalk}
use Rattle.cj_walk.proofs.track_walk.TrackWalk.go_to.Given as goal

abbrev pub invariant-loop-self : goal.invariant-loop-self
invariant-loop-self l = record {
  walks : IsWalk l.self;
  track : l.self.track.now ≡ l.initial.self.track.now;
  window : l.self.window ≡ l.initial.self.window;
}

abbrev pub decreases-loop-self : goal.decreases-loop-self
decreases-loop-self l = l.self.window.last.micros - l.self.part.last.micros
