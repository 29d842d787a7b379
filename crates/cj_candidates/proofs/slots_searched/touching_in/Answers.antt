use Rattle.std.proofs.Common.{ap, ◌∙◌, arith}
use Rattle.std.proofs.lemmas.List.{take_all}
use Rattle.std.proofs.lemmas.List.Sums.{sum_by_more}
use Rattle.cj_candidates.specs.declared.slot_run.ThreadRun.{ThreadRun}
use Rattle.cj_candidates.specs.SlotRuns.{candidates_counted}
use Rattle.cj_candidates.proofs.slots_searched.touching_in.Goals as goal

pub loop-run-preserved : goal.loop-run-preserved
loop-run-preserved c =
    let runs = c.args.runs.now in
    let i = c.loop-run.run-index in
    let more = sum_by_more (λ (r : ThreadRun). r.touching) runs i c.run-item.result c.loop-run-test.true in
    let here = ap (λ (r : ThreadRun). r.touching) c.run-item.is in
    omega (arith, c.saturating_add-touching.ensures, c.loop-run.invariant, more, here)

pub returns : goal.returns
returns c = c.loop-run.invariant ∙ ap candidates_counted (take_all c.loop-run.run-index c.args.runs.now c.loop-run-test.false)
