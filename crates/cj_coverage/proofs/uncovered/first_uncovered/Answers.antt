use Rattle.std.proofs.Common.{sym}
use Rattle.cj_track.specs.Tracks.{plain_track}
use Rattle.cj_coverage.proofs.UncoveredLemmas.{none_empty, none_found, one_found}
use Rattle.cj_coverage.proofs.uncovered.first_uncovered.Goals as goal

pub returns-then-window : goal.returns-then-window
returns-then-window c = sym (none_empty (plain_track c.args.track.now) c.args.window.first.micros c.args.window.last.micros c.if-window.true)

pub returns-in-None : goal.returns-in-None
returns-in-None c = sym (none_found (plain_track c.args.track.now) c.args.window c.if-window.false c.in-None.ensures)

pub returns-in-Some : goal.returns-in-Some
returns-in-Some c =
    let told = c.first_outside.ensures in
    one_found (plain_track c.args.track.now) c.args.window c.in-Some.span c.first_outside.result c.if-window.false c.in-Some.ensures told.before told.behind told.none
