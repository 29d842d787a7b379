use Rattle.std.proofs.Common.{◌≡◌, ◌∙◌, ◌&&◌, ◌++◌, true, false, List, Option, Some, ap, sym}
use Rattle.std.specs.List.{list_all}
use Rattle.cj_track.specs.Tracks.{plain_track}
use Rattle.cj_case.specs.declared.axis_box.AxisBox.{AxisBox}
use Rattle.cj_case.specs.Boxes.{plain_boxes}
use Rattle.cj_bezier.specs.AllBoxes.{boxes_over}
use Rattle.cj_bezier.specs.Parts.{hulls_of}
use Rattle.cj_checker.specs.Tests.{shows_radii}
use Rattle.cj_checker.proofs.RowLemmas.{row_not_shown, row_shown_by}
use Rattle.cj_checker.proofs.TestLemmas.{state_none, state_some}
use Rattle.cj_checker.proofs.rows.row_in_shell.Goals as goal

pub returns-in_default : goal.returns-in_default
returns-in_default c =
    let course = c.args.course.now in
    let window = course.problem.now.window in
    let e = plain_track course.track.now in
    let all = list_all (shows_radii course.shell) (hulls_of e window.first.micros window.last.micros) in
    let none = state_none e window.first.micros window.last.micros c.in_default.ensures.none in
    row_not_shown e window.first.micros window.last.micros c.args.slots (Some course.shell) (λ j. none j && all)

pub returns-then-shows_all : goal.returns-then-shows_all
returns-then-shows_all c =
    let course = c.args.course.now in
    let window = course.problem.now.window in
    let e = plain_track course.track.now in
    let some = state_some e window.first.micros window.last.micros c.in-Some.ensures.some in
    let all : list_all (shows_radii course.shell) (hulls_of e window.first.micros window.last.micros) ≡ true = sym c.shows_all.ensures ∙ c.if-shows_all.true in
    row_shown_by e window.first.micros window.last.micros c.args.slots (Some course.shell) (plain_boxes c.append_boxes.new.boxes.items) (λ j. some j && all j)
    (c.in_ok-append_boxes.ensures.boxes
    ∙ ap (λ (bs : List (Option AxisBox)). plain_boxes bs ++ boxes_over e window.first.micros window.last.micros c.args.slots) c.in_ok-boxes.ensures.items)

pub returns-else-shows_all : goal.returns-else-shows_all
returns-else-shows_all c =
    let course = c.args.course.now in
    let window = course.problem.now.window in
    let e = plain_track course.track.now in
    let some = state_some e window.first.micros window.last.micros c.in-Some.ensures.some in
    let all : list_all (shows_radii course.shell) (hulls_of e window.first.micros window.last.micros) ≡ false = sym c.shows_all.ensures ∙ c.if-shows_all.false in
    row_not_shown e window.first.micros window.last.micros c.args.slots (Some course.shell) (λ j. some j && all j)
