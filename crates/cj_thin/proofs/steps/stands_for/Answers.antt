use Rattle.std.proofs.Common.{◌∙◌, arith}
use Rattle.cj_hermite.specs.Ready.{curve_ready}
use Rattle.cj_hermite.proofs.TrackLemmas.{over_part}
use Rattle.cj_track.specs.Useable.{last_tick}
use Rattle.cj_thin.proofs.StepLemmas.{underway, pieces_more, pieces_end, pieces_all}
use Rattle.cj_thin.proofs.steps.stands_for.Goals as goal

pub between-requires-clause-rises : goal.between-requires-clause-rises
between-requires-clause-rises c =
    let i = c.loop-next.invariant in
    let on = underway c.loop-next.last c.next-item.result c.loop-next.next-index _ c.args.path.now c.loop-next-test.true c.next-item.is i.steps i.to in
    on.step.rises

pub between-requires-clause-short : goal.between-requires-clause-short
between-requires-clause-short c =
    let i = c.loop-next.invariant in
    let on = underway c.loop-next.last c.next-item.result c.loop-next.next-index _ c.args.path.now c.loop-next-test.true c.next-item.is i.steps i.to in
    on.step.short

pub are_near-requires-clause-second_over : goal.are_near-requires-clause-second_over
are_near-requires-clause-second_over c =
    let i = c.loop-next.invariant in
    let last = c.loop-next.last in
    let next = c.next-item.result in
    let from = c.args.from.at.micros in
    let end = last_tick from c.args.path.now in
    let on = underway last next c.loop-next.next-index end c.args.path.now c.loop-next-test.true c.next-item.is i.steps i.to in
    over_part (curve_ready c.args.step.now) from end last.at.micros next.at.micros c.requires.over i.from on.within

pub loop-next-preserved : goal.loop-next-preserved
loop-next-preserved c =
    let i = c.loop-next.invariant in
    let at = c.loop-next.next-index in
    let last = c.loop-next.last in
    let next = c.next-item.result in
    let path = c.args.path.now in
    let from = c.args.from.at.micros in
    let on = underway last next at (last_tick from path) path c.loop-next-test.true c.next-item.is i.steps i.to in
    let up = on.step.rises in
    record {
      told = pieces_more c.args.e at (curve_ready c.ready-piece.result) (curve_ready c.args.step.now) last next path c.are_near.result _ c.loop-next-test.true c.next-item.is
          (c.ready-piece.ensures ∙ c.between.ensures) c.are_near.ensures i.told c.if-not-are_near.false;
      steps = on.steps;
      from = omega (arith, i.from, up);
      to = on.to;
    }

pub returns-then-not-are_near : goal.returns-then-not-are_near
returns-then-not-are_near c =
    let i = c.loop-next.invariant in
    pieces_end c.args.e c.loop-next.next-index (curve_ready c.ready-piece.result) (curve_ready c.args.step.now) c.loop-next.last c.next-item.result c.args.path.now c.are_near.result _
    c.loop-next-test.true c.next-item.is (c.ready-piece.ensures ∙ c.between.ensures) c.are_near.ensures i.told c.if-not-are_near.true

pub returns : goal.returns
returns c = pieces_all c.args.e c.loop-next.next-index (curve_ready c.args.step.now) c.loop-next.last c.args.path.now _ c.loop-next-test.false c.loop-next.invariant.told
