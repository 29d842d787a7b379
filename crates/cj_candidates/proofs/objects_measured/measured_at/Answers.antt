use Rattle.std.proofs.Common.{Option, ℕ, subst}
use Rattle.std.proofs.lemmas.Option.{slice_get_within}
use Rattle.std.specs.Prelude.{IfSome}
use Rattle.cj_case.specs.Boxes.{plain_boxes}
use Rattle.cj_track.specs.Tracks.{plain_track}
use Rattle.cj_candidates.specs.MeasuredObjects.{IsMeasuredAt}
use Rattle.cj_candidates.proofs.MeasuredLemmas.{copies_are, row_within}
use Rattle.cj_candidates.proofs.objects_measured.measured_at.Goals as goal

pub copied-requires-clause-shells : goal.copied-requires-clause-shells
copied-requires-clause-shells c =
    let a = c.args in
    let at = subst (λ (o : Option ℕ). IfSome o (IsMeasuredAt (plain_track a.track.now) a.window.first.micros a.window.last.micros a.slots a.from.now)) c.in-Some.is c.requires in
    slice_get_within a.from.now.shells.items c.in-Some.place _ at.shell

pub copied-requires-clause-boxes : goal.copied-requires-clause-boxes
copied-requires-clause-boxes c =
    let a = c.args in
    let at = subst (λ (o : Option ℕ). IfSome o (IsMeasuredAt (plain_track a.track.now) a.window.first.micros a.window.last.micros a.slots a.from.now)) c.in-Some.is c.requires in
    row_within plain_boxes a.from.now.boxes.rows c.in-Some.place _ at.boxes

pub returns-in-Some : goal.returns-in-Some
returns-in-Some c =
    let a = c.args in
    let at = subst (λ (o : Option ℕ). IfSome o (IsMeasuredAt (plain_track a.track.now) a.window.first.micros a.window.last.micros a.slots a.from.now)) c.in-Some.is c.requires in
    copies_are (plain_track a.track.now) a.window.first.micros a.window.last.micros a.slots c.in-Some.place a.from.now c.copied.result at c.copied.ensures.shell c.copied.ensures.boxes
