use Rattle.std.proofs.Common.{◌+◌, ap, arith}
use Rattle.std.proofs.lemmas.List.{take_all}
use Rattle.std.proofs.lemmas.List.Sums.{sum_by_more, sum_by-take-le}
use Rattle.cj_slabs.specs.Slabs.{told_by_outcome, told_by_outcomes}
use Rattle.cj_slabs.proofs.joining.are_more_told.Goals as goal

pub loop-outcome-preserved : goal.loop-outcome-preserved
loop-outcome-preserved c =
    let more = sum_by_more told_by_outcome c.args.outcomes.now c.loop-outcome.outcome-index c.outcome-item.result c.loop-outcome-test.true in
    let here = ap told_by_outcome c.outcome-item.is in
    omega (arith, c.told_by-told.ensures, c.loop-outcome.invariant, more, here, c.if-told-room.false)

pub returns-then-told-room : goal.returns-then-told-room
returns-then-told-room c =
    let outcomes = c.args.outcomes.now in
    let i = c.loop-outcome.outcome-index in
    let more = sum_by_more told_by_outcome outcomes i c.outcome-item.result c.loop-outcome-test.true in
    let here = ap told_by_outcome c.outcome-item.is in
    let some = sum_by-take-le told_by_outcome outcomes (i + 1) in
    record {
      yes = λ is. omega (arith, c.told_by-told.ensures, c.loop-outcome.invariant, more, here, some, c.if-told-room.true);
      no = λ is. absurd cc;
    }

pub returns : goal.returns
returns c =
    let all = ap told_by_outcomes (take_all c.loop-outcome.outcome-index c.args.outcomes.now c.loop-outcome-test.false) in
    record {
      yes = λ is. absurd cc;
      no = λ is. omega (arith, c.loop-outcome.invariant, all);
    }
