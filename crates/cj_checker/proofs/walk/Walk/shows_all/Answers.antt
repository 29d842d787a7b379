use Rattle.std.proofs.Common.{◌+◌}
use Rattle.cj_track.specs.Tracks.{plain_track}
use Rattle.cj_checker.specs.Tests.{shows_radii}
use Rattle.cj_checker.proofs.WalkLemmas.{last_passes}
use Rattle.cj_checker.proofs.walk.Walk.shows_all.Goals as goal

pub returns-then-not-advance : goal.returns-then-not-advance
returns-then-not-advance c =
    let course = c.args.course.now in
    let walk = c.advance.new.self in
    let told = c.advance.ensures in
    let walks = told.walks in
    last_passes _ walk.shown (shows_radii course.shell) (plain_track course.track.now) (walk.part.last.micros + 1) course.problem.now.window.last.micros walks.shown (told.ended c.if-not-advance.true)
