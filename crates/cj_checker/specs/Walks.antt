-- Walks along a track, for the shell that is listed for an object and for its boxes.
use Rattle.std.specs.Prelude.{◌≡◌, ◌+◌, ◌≤◌, ◌&&◌}
use Rattle.std.specs.List.{list_all}
use Rattle.cj_track.specs.Tracks.{plain_track}
use Rattle.cj_bezier.specs.FirstParts.{IsFirstPart}
use Rattle.cj_bezier.specs.Parts.{hulls_of}
use Rattle.cj_checker.specs.declared.course.Course.{Course}
use Rattle.cj_checker.specs.declared.walk.Walk.{Walk}
use Rattle.cj_checker.specs.Tests.{shows_radii}

-- a walk along a course is at a part, and the hulls in the window show the radii exactly where those so far do and those behind do
pub record IsWalk (course : Course) (walk : Walk) : Type 0 where
  pub later : walk.from.micros ≤ walk.part.last.micros
  pub within : walk.part.last.micros ≤ course.problem.now.window.last.micros
  pub first : IsFirstPart (plain_track course.track.now) walk.from.micros course.problem.now.window.last.micros walk.part
  pub shown : list_all (shows_radii course.shell) (hulls_of (plain_track course.track.now) course.problem.now.window.first.micros course.problem.now.window.last.micros)
      ≡ (walk.shown && list_all (shows_radii course.shell) (hulls_of (plain_track course.track.now) (walk.part.last.micros + 1) course.problem.now.window.last.micros))
