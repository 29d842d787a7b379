use Rattle.std.proofs.Common.{refl}
use Rattle.std.proofs.lemmas.List.Sorted.{IsPermutation-trans}
use Rattle.cj_threads.specs.Runs.{elements_of}
use Rattle.cj_threads.proofs.RunLemmas.{items_all, items_grown}
use Rattle.cj_threads.proofs.merging.merge_in_turn.Goals as goal

pub loop-run-preserved : goal.loop-run-preserved
loop-run-preserved g c =
    items_grown (λ run. run.now) c.args.runs.now c.loop-run.run-index c.run-item.result c.loop-run.all.items c.extend_from_slice.new.self.items
    c.run-item.result.now
    c.loop-run-test.true c.run-item.is c.in_ok-extend_from_slice.ensures.items refl c.loop-run.invariant

pub returns-clause-elements : goal.returns-clause-elements
returns-clause-elements g c =
    let so_far = c.loop-run.all.items in
    IsPermutation-trans (elements_of c.args.runs.now) so_far c.put_in_order.new.all.items
    (items_all (λ run. run.now) c.args.runs.now c.loop-run.run-index so_far c.loop-run-test.false c.loop-run.invariant) c.in_ok-put_in_order.ensures.elements

pub returns-clause-ordered : goal.returns-clause-ordered
returns-clause-ordered g c = c.in_ok-put_in_order.ensures.ordered
