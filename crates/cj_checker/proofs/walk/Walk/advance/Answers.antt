use Rattle.std.proofs.Common.{◌≡◌, ◌+◌, ◌&&◌, arith, sym, ◌∙◌}
use Rattle.std.specs.List.{list_all}
use Rattle.cj_track.specs.Tracks.{plain_track}
use Rattle.cj_bezier.specs.Hulls.{axes_of}
use Rattle.cj_bezier.specs.Parts.{hulls_of}
use Rattle.cj_checker.specs.Tests.{shows_radii}
use Rattle.cj_checker.proofs.WalkLemmas.{next_passes}
use Rattle.cj_checker.proofs.walk.Walk.advance.Goals as goal
use Rattle.cj_checker.proofs.walk.Walk.advance.Goals.{else-self, then-self}

pub returns-then-last-self-clause-ended : goal.returns-then-last-self-clause-ended
returns-then-last-self-clause-ended c is m after before = absurd (omega arith)

pub returns-clause-walks : goal.returns-clause-walks
returns-clause-walks c =
    let course = c.args.course.now in
    let e = plain_track course.track.now in
    let window = course.problem.now.window in
    let walk = c.args.self.now in
    let part = c.in-Some.part in
    let told = c.in-Some.ensures in
    let shows = shows_radii course.shell (axes_of part.hull.points) in
    let shown : c.if-self.self ≡ (walk.shown && shows) = elim c.if-self.branch [
      | then-self w ↦ w.self-is ∙ (w.shows_radii-self.ensures ∙ (λ j. sym w.if-self.true j && shows))
      | else-self w ↦ w.self-is ∙ (w.if-self.false ∙ (λ j. sym w.if-self.false j && shows))
    ] in
    record {
      later = told.later;
      within = told.within;
      first = told.first;
      shown = next_passes (list_all (shows_radii course.shell) (hulls_of e window.first.micros window.last.micros)) walk.shown c.if-self.self (shows_radii course.shell) e
          (walk.part.last.micros + 1) part.last.micros window.last.micros (axes_of part.hull.points) c.requires.shown (told.first window.last.micros told.within (omega arith)) shown;
    }
