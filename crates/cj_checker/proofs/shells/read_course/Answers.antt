use Rattle.std.proofs.Common.{◌≡◌, ◌∙◌, ◌&&◌, true, false, sym}
use Rattle.std.specs.List.{list_all}
use Rattle.cj_track.specs.Tracks.{plain_track}
use Rattle.cj_bezier.specs.Parts.{hulls_of}
use Rattle.cj_checker.specs.Tests.{has_state_between, shows_radii}
use Rattle.cj_checker.proofs.TestLemmas.{state_none, state_some}
use Rattle.cj_checker.proofs.shells.read_course.Goals as goal

pub returns-in_err-walk-clause-none : goal.returns-in_err-walk-clause-none
returns-in_err-walk-clause-none c =
    let course = c.args.course.now in
    let window = course.problem.now.window in
    let e = plain_track course.track.now in
    let all = list_all (shows_radii course.shell) (hulls_of e window.first.micros window.last.micros) in
    let none = state_none e window.first.micros window.last.micros c.in_err-walk.ensures.none in
    let fails : (has_state_between e window.first.micros window.last.micros && all) ≡ false = λ j. none j && all in
    rw c.from_residual.ensures fails

pub returns-then-shows_all-clause-some : goal.returns-then-shows_all-clause-some
returns-then-shows_all-clause-some c =
    let course = c.args.course.now in
    let window = course.problem.now.window in
    let e = plain_track course.track.now in
    let some = state_some e window.first.micros window.last.micros c.in_ok-walk.ensures.some in
    let all : list_all (shows_radii course.shell) (hulls_of e window.first.micros window.last.micros) ≡ true = sym c.shows_all.ensures ∙ c.if-shows_all.true in
    λ j. some j && all j

pub returns-else-shows_all-clause-none : goal.returns-else-shows_all-clause-none
returns-else-shows_all-clause-none c =
    let course = c.args.course.now in
    let window = course.problem.now.window in
    let e = plain_track course.track.now in
    let some = state_some e window.first.micros window.last.micros c.in_ok-walk.ensures.some in
    let all : list_all (shows_radii course.shell) (hulls_of e window.first.micros window.last.micros) ≡ false = sym c.shows_all.ensures ∙ c.if-shows_all.false in
    λ j. some j && all j

pub returns-then-shows_all-clause-place : goal.returns-then-shows_all-clause-place
returns-then-shows_all-clause-place c = c.read_on-more.ensures.place

pub returns-then-shows_all-clause-on : goal.returns-then-shows_all-clause-on
returns-then-shows_all-clause-on c = c.read_on-more.ensures.on

pub read_on-more-requires : goal.read_on-more-requires
read_on-more-requires c = record { object = c.requires.object; place = c.requires.place; walks = c.in_ok-walk.ensures.walks }
