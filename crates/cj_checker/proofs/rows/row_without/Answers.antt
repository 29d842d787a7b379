use Rattle.std.proofs.Common.{◌≡◌, ◌∙◌, true, false, sym, ap}
use Rattle.std.specs.Prelude.{None, not}
use Rattle.cj_track.specs.Tracks.{plain_track}
use Rattle.cj_case.specs.Boxes.{plain_boxes}
use Rattle.cj_checker.specs.Tests.{has_state_between}
use Rattle.cj_checker.proofs.RowLemmas.{nones_from, row_not_shown, row_shown_by}
use Rattle.cj_checker.proofs.TestLemmas.{decides_none}
use Rattle.cj_checker.proofs.rows.row_without.Goals as goal

pub returns-then-has_state : goal.returns-then-has_state
returns-then-has_state c =
    let window = c.args.window in
    row_not_shown (plain_track c.args.track.now) window.first.micros window.last.micros c.args.slots None (ap not (sym c.has_state.ensures ∙ c.if-has_state.true))

pub returns : goal.returns
returns c =
    let window = c.args.window in
    let e = plain_track c.args.track.now in
    let fits : not (has_state_between e window.first.micros window.last.micros) ≡ true = ap not (sym c.has_state.ensures ∙ c.if-has_state.false) in
    let none = (decides_none e window.first.micros window.last.micros).0 fits in
    row_shown_by e window.first.micros window.last.micros c.args.slots None (plain_boxes c.resize.new.self.items) fits
    (nones_from e window.first.micros window.last.micros c.args.slots _ c.in_ok-boxes.boxes.items c.resize.new.self.items none c.in_ok-boxes.ensures.items c.in_ok-boxes.ensures.len
    c.in_ok-resize.ensures.items)
