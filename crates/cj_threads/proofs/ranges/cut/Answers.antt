use Rattle.std.proofs.Common.{◌++◌, List, subst}
use Rattle.std.specs.Borrow.{Bor}
use Rattle.std.specs.List.Sorted.{IsPermutation}
use Rattle.std.proofs.lemmas.List.{take_all}
use Rattle.cj_threads.specs.Runs.{elements_of}
use Rattle.cj_threads.proofs.RunLemmas.{cut_more}
use Rattle.cj_threads.proofs.ranges.cut.Goals as goal

pub loop-run-preserved : goal.loop-run-preserved
loop-run-preserved g c =
    rw (c.in_ok-push.ensures.items, c.in_ok-push-2.ensures.items)
    (cut_more c.loop-run.run-index c.args.runs.now c.loop-run.low.items c.loop-run.high.items c.run-item.result c.halves.result.0 c.halves.result.1
    c.loop-run-test.true c.run-item.is
    c.halves.ensures c.loop-run.invariant)

pub returns : goal.returns
returns g c =
    subst (λ (runs : List (Bor (List g.row.T.Denot))). IsPermutation (elements_of runs) (elements_of c.loop-run.low.items ++ elements_of c.loop-run.high.items))
    (take_all c.loop-run.run-index c.args.runs.now c.loop-run-test.false) c.loop-run.invariant
