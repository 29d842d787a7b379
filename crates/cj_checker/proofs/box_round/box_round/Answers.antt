use Rattle.std.proofs.Common.{ap, arith, sym, ◌∙◌}
use Rattle.std.specs.Prelude.{option_map}
use Rattle.cj_track.specs.Tracks.{plain_track}
use Rattle.cj_bezier.specs.Hulls.{axes_of}
use Rattle.cj_bezier.specs.Sizes.{HULL_REACH}
use Rattle.cj_bezier.proofs.BoxRoundLemmas.{box_none}
use Rattle.cj_bezier.specs.JoinedBoxes.{reaches_of_spans}
use Rattle.cj_checker.proofs.RowLemmas.{first_part, one_part_more, no_part_more, last_part}
use Rattle.cj_checker.proofs.box_round.box_round.Goals as goal

pub loop-part-init : goal.loop-part-init
loop-part-init c =
    let part = c.in_ok-part.part in
    let is = c.in_ok-part.ensures in
    let area = c.box_of_hull-area in
    record {
      area = first_part (plain_track c.args.course.now.track.now) c.args.ticks.first.micros part.last.micros c.args.ticks.last.micros (axes_of part.hull.points) area.result
          is.within is.hulls area.ensures.value area.ensures.within;
      walks = is.walks;
    }

pub part_in-requires-in-loop-part : goal.part_in-requires-in-loop-part
part_in-requires-in-loop-part c = record { walks = c.loop-part.invariant.walks; inside = c.requires.inside }

pub loop-part-preserved : goal.loop-part-preserved
loop-part-preserved c =
    let part = c.in-Some.next in
    let is = c.in-Some.ensures in
    let before = c.loop-part.part.last.micros in
    record {
      area = one_part_more (plain_track c.args.course.now.track.now) c.args.ticks.first.micros before part.last.micros c.args.ticks.last.micros (axes_of part.hull.points)
          c.loop-part.area c.box_of_hull.result c.join_boxes-area.result
          c.loop-part.invariant.area is.within is.hulls
          c.box_of_hull.ensures.value c.box_of_hull.ensures.within c.join_boxes-area.ensures.value (c.join_boxes-area.ensures.within HULL_REACH);
      walks = is.walks;
    }

pub loop-part-smaller : goal.loop-part-smaller
loop-part-smaller c = omega (arith, c.in-Some.ensures.later, c.in-Some.ensures.within)

pub returns-in_err-part-clause-value : goal.returns-in_err-part-clause-value
returns-in_err-part-clause-value c = ap (option_map reaches_of_spans) c.from_residual.ensures ∙ sym (box_none _ _ _ c.in_err-part.ensures.none)

pub returns-after-loop-part-clause-value : goal.returns-after-loop-part-clause-value
returns-after-loop-part-clause-value c = last_part _ _ _ _ _ c.loop-part.invariant.area c.loop-part-test.false

pub returns-in_default-clause-value : goal.returns-in_default-clause-value
returns-in_default-clause-value c = no_part_more _ _ _ _ _ c.loop-part.invariant.area c.in_default.ensures.none

pub returns-in_err-part-clause-within : goal.returns-in_err-part-clause-within
returns-in_err-part-clause-within c = rw c.from_residual.ensures tt

pub returns-after-loop-part-clause-within : goal.returns-after-loop-part-clause-within
returns-after-loop-part-clause-within c = c.loop-part.invariant.area.size

pub returns-in_default-clause-within : goal.returns-in_default-clause-within
returns-in_default-clause-within c = c.loop-part.invariant.area.size

pub returns-in_err-part-clause-walks : goal.returns-in_err-part-clause-walks
returns-in_err-part-clause-walks c = c.in_err-part.ensures.walks

pub returns-after-loop-part-clause-walks : goal.returns-after-loop-part-clause-walks
returns-after-loop-part-clause-walks c = c.loop-part.invariant.walks

pub returns-in_default-clause-walks : goal.returns-in_default-clause-walks
returns-in_default-clause-walks c = c.in_default.ensures.walks
