use Rattle.std.proofs.Common.{map, ap, ◌∙◌}
use Rattle.std.proofs.lemmas.List.{take_all}
use Rattle.cj_threads.proofs.RunLemmas.{slices_more}
use Rattle.cj_threads.proofs.merging.slices.Goals as goal

pub loop-run-preserved : goal.loop-run-preserved
loop-run-preserved g c =
    slices_more (λ run. run.items) c.args.runs.now c.loop-run.run-index c.run-item.result c.loop-run.all.items c.push.new.self.items c.as_slice.result
    c.loop-run-test.true c.run-item.is
    c.in_ok-push.ensures.items c.as_slice.ensures.value c.loop-run.invariant

pub returns : goal.returns
returns g c = c.loop-run.invariant ∙ ap (map (λ run. run.items)) (take_all c.loop-run.run-index c.args.runs.now c.loop-run-test.false)
