use Rattle.std.proofs.Common.{arith}
use Rattle.cj_track.specs.Tracks.{plain_track}
use Rattle.cj_bezier.specs.Hulls.{axes_of}
use Rattle.cj_checker.specs.Tests.{shows_radii}
use Rattle.cj_checker.proofs.HullLemmas.{some_hull}
use Rattle.cj_checker.proofs.WalkLemmas.{first_passes}
use Rattle.cj_checker.proofs.walk.Walk.new.Goals as goal

pub returns-clause-some : goal.returns-clause-some
returns-clause-some c =
    let e = plain_track c.args.course.now.track.now in
    let window = c.args.course.now.problem.now.window in
    let part = c.in_ok-part.part in
    let told = c.in_ok-part.ensures in
    some_hull e window.first.micros window.last.micros (axes_of part.hull.points) _ (told.first window.last.micros told.within (omega arith))

pub returns-clause-walks : goal.returns-clause-walks
returns-clause-walks c =
    let course = c.args.course.now in
    let e = plain_track course.track.now in
    let window = course.problem.now.window in
    let part = c.in_ok-part.part in
    let told = c.in_ok-part.ensures in
    record {
      later = told.later;
      within = told.within;
      first = told.first;
      shown = first_passes (shows_radii course.shell) e window.first.micros part.last.micros window.last.micros (axes_of part.hull.points) c.shows_radii-shown.result
          (told.first window.last.micros told.within (omega arith)) c.shows_radii-shown.ensures;
    }
