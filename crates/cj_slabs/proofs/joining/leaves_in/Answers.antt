use Rattle.std.proofs.Common.{◌∙◌, min, ap, arith}
use Rattle.std.proofs.lemmas.List.{take_all}
use Rattle.std.proofs.lemmas.List.Sums.{sum_by_more}
use Rattle.cj_slabs.specs.Slabs.{least, least_of}
use Rattle.cj_slabs.proofs.joining.leaves_in.Goals as goal

pub loop-outcome-preserved : goal.loop-outcome-preserved
loop-outcome-preserved c =
    let more = sum_by_more least c.args.outcomes.now c.loop-outcome.outcome-index c.outcome-item.result c.loop-outcome-test.true in
    let here = ap least c.outcome-item.is in
    omega (arith, c.saturating_add-leaves.ensures, c.leaves_at_least.ensures, c.loop-outcome.invariant, more, here)

pub returns : goal.returns
returns c = c.loop-outcome.invariant ∙ ap (λ (os : _). min (least_of os) 18_446_744_073_709_551_615) (take_all c.loop-outcome.outcome-index c.args.outcomes.now c.loop-outcome-test.false)
