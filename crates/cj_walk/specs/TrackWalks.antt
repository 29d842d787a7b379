-- Walks along a track, for its shell and for its boxes.
use Rattle.std.specs.Prelude.{◌≤◌}
use Rattle.cj_track.specs.Tracks.{plain_track}
use Rattle.cj_bezier.specs.FirstParts.{IsFirstPart}
use Rattle.cj_bezier.specs.Gaps.{terms_of}
use Rattle.cj_walk.specs.declared.track_walk.TrackWalk.{TrackWalk}
use Rattle.cj_walk.specs.JoinedGaps.{IsGapUpTo}

-- a walk is at the first part from a tick of its window on, and its gap is that of all parts so far
pub record IsWalk (walk : TrackWalk) : Type 0 where
  pub begun : walk.window.first.micros ≤ walk.from.micros
  pub later : walk.from.micros ≤ walk.part.last.micros
  pub first : IsFirstPart (plain_track walk.track.now) walk.from.micros walk.window.last.micros walk.part
  pub round : IsGapUpTo (plain_track walk.track.now) walk.window.first.micros walk.part.last.micros walk.window.last.micros (terms_of walk.gap.terms)
