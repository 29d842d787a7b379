use Rattle.std.proofs.Common.{◌≡◌, ℕ, ◌+◌, ◌++◌, length, None, Some, ap, rules, sym, ◌∙◌}
use Rattle.std.specs.Vec.{vec_len}
use Rattle.std.proofs.lemmas.Result.{err_from_is_err_and}
use Rattle.cj_track.specs.Tracks.{plain_track}
use Rattle.cj_bezier.specs.Shells.{shell_of}
use Rattle.cj_case.specs.Boxes.{plain_boxes}
use Rattle.cj_bezier.specs.AllBoxes.{boxes_over}
use Rattle.cj_bezier.proofs.BoxRoundLemmas.{box_none}
use Rattle.cj_bezier.proofs.ShellRoundLemmas.{shell_none}
use Rattle.cj_candidates.specs.MeasuredObjects.{IsInOwnShell, IsInOwnBoxes}
use Rattle.cj_candidates.proofs.NoStateLemmas.{filled_up, none_in_slot}
use Rattle.cj_candidates.proofs.ObjectLemmas.{in_own_box, in_own_shell, same_for}
use Rattle.cj_candidates.proofs.objects_measured.measure.Goals as goal

pub returns-in_default-clause-shell : goal.returns-in_default-clause-shell
returns-in_default-clause-shell c = sym (shell_none (plain_track c.args.track.now) c.args.window.first.micros c.args.window.last.micros c.in_default.ensures.none)

pub returns-in_default-clause-in_shell : goal.returns-in_default-clause-in_shell
returns-in_default-clause-in_shell c = in_own_shell _ _ _ None (returns-in_default-clause-shell c) c.in_default.ensures.none tt

pub returns-in_default-clause-boxes : goal.returns-in_default-clause-boxes
returns-in_default-clause-boxes c =
    let counted : vec_len c.args.boxes.now ≡ length c.args.boxes.now.items = search rules in
    let len : c.len.result ≡ vec_len c.args.boxes.now = c.len.ensures in
    filled_up (plain_track c.args.track.now) c.args.window.first.micros c.args.window.last.micros c.args.slots (c.len.result + c.args.slots) (vec_len c.args.boxes.now)
    c.args.boxes.now.items c.resize.new.self.items c.in_default.ensures.none counted (ap (λ (n : ℕ). n + c.args.slots) len) c.in_ok-resize.ensures.items

pub returns-in_default-clause-in_boxes : goal.returns-in_default-clause-in_boxes
returns-in_default-clause-in_boxes c slot lt =
    let none = none_in_slot _ _ _ slot c.in_default.ensures.none in
    in_own_box _ _ _ None (sym (box_none _ _ _ none)) none tt

pub returns-in_err-resize : goal.returns-in_err-resize
returns-in_err-resize c =
    let failed = (err_from_is_err_and c.from_residual.result c.from_residual.ensures.1).1 in
    record { shell = rw failed tt; in_shell = rw failed tt; boxes = rw failed tt; in_boxes = rw failed tt }

pub returns-in_err-append_boxes : goal.returns-in_err-append_boxes
returns-in_err-append_boxes c =
    let failed = (err_from_is_err_and c.from_residual-in_err-append_boxes.result c.from_residual-in_err-append_boxes.ensures.1).1 in
    record { shell = rw failed tt; in_shell = rw failed tt; boxes = rw failed tt; in_boxes = rw failed tt }

pub returns-clause-shell : goal.returns-clause-shell
returns-clause-shell c =
    let track = c.in_ok-append_boxes.ensures.track ∙ c.in-Some.ensures.track in
    let window = c.in_ok-append_boxes.ensures.window ∙ c.in-Some.ensures.window in
    c.shell.ensures.exact ∙ (λ i. shell_of (plain_track (track i)) (window i).first.micros (window i).last.micros)

pub returns-clause-in_shell : goal.returns-clause-in_shell
returns-clause-in_shell c =
    let walk = c.append_boxes.new.walk in
    let first = walk.window.first.micros in
    let last = walk.window.last.micros in
    same_for (λ t w. IsInOwnShell w.first.micros w.last.micros (plain_track t)) walk.track.now c.args.track.now walk.window c.args.window
    (c.in_ok-append_boxes.ensures.track ∙ c.in-Some.ensures.track) (c.in_ok-append_boxes.ensures.window ∙ c.in-Some.ensures.window)
    (in_own_shell (plain_track walk.track.now) first last (Some c.shell.result) c.shell.ensures.exact tt c.shell.ensures.holds)

pub returns-clause-boxes : goal.returns-clause-boxes
returns-clause-boxes c =
    let track = c.in-Some.ensures.track in
    let window = c.in-Some.ensures.window in
    c.in_ok-append_boxes.ensures.value
    ∙ (λ i. plain_boxes c.args.boxes.now.items ++ boxes_over (plain_track (track i)) (window i).first.micros (window i).last.micros c.args.slots)

pub returns-clause-in_boxes : goal.returns-clause-in_boxes
returns-clause-in_boxes c =
    same_for (λ t w. IsInOwnBoxes w.first.micros w.last.micros c.args.slots (plain_track t)) c.in-Some.walk.track.now c.args.track.now
    c.in-Some.walk.window c.args.window
    c.in-Some.ensures.track c.in-Some.ensures.window c.in_ok-append_boxes.ensures.hold
