use Rattle.std.proofs.Common.{Some, ap, sym, ◌∙◌, arith}
use Rattle.std.specs.Prelude.{option_map}
use Rattle.cj_track.specs.Tracks.{plain_track}
use Rattle.cj_case.specs.Boxes.{plain_box}
use Rattle.cj_bezier.specs.SlotBoxes.{box_of}
use Rattle.cj_bezier.proofs.BoxRoundLemmas.{box_none}
use Rattle.cj_checker.proofs.box_round.box_of_hulls.Goals as goal

pub box_round-requires-clause-inside : goal.box_round-requires-clause-inside
box_round-requires-clause-inside c = omega (arith, c.in_ok-ticks.ensures.last)

-- a slot without ticks
pub returns-in_err-ticks-clause-value : goal.returns-in_err-ticks-clause-value
returns-in_err-ticks-clause-value c =
    let before = c.in_err-ticks.ensures.none in
    ap (option_map plain_box) c.from_residual.ensures ∙ sym (box_none _ _ _ (λ m after upto. absurd (omega arith)))

pub returns-in_err-ticks-clause-walks : goal.returns-in_err-ticks-clause-walks
returns-in_err-ticks-clause-walks c = c.requires

pub returns-in_err-area-clause-value : goal.returns-in_err-area-clause-value
returns-in_err-area-clause-value c =
    let e = plain_track c.args.course.now.track.now in
    let first = c.in_ok-ticks.ensures.first in
    let last = c.in_ok-ticks.ensures.last in
    ap (option_map plain_box) c.from_residual-in_err-area.ensures ∙ (c.in_err-area.ensures.value ∙ (λ j. box_of e (first j) (last j)))

pub returns-in_err-area-clause-walks : goal.returns-in_err-area-clause-walks
returns-in_err-area-clause-walks c = c.in_err-area.ensures.walks

pub returns-clause-value : goal.returns-clause-value
returns-clause-value c =
    let e = plain_track c.args.course.now.track.now in
    let first = c.in_ok-ticks.ensures.first in
    let last = c.in_ok-ticks.ensures.last in
    ap Some c.by_corners.ensures ∙ (c.in_ok-area.ensures.value ∙ (λ j. box_of e (first j) (last j)))

pub returns-clause-walks : goal.returns-clause-walks
returns-clause-walks c = c.in_ok-area.ensures.walks
