use Rattle.std.proofs.Common.{List, Vec, Global, filter, subst}
use Rattle.std.specs.List.Sorted.{IsPermutation}
use Rattle.std.proofs.lemmas.Result.{err_from_is_err_and}
use Rattle.cj_case.specs.PairOrder.{AreInOrderBy}
use Rattle.cj_case.specs.declared.leaf.Leaf.{Leaf}
use Rattle.cj_threads.proofs.DealingLemmas.{both_ok}
use Rattle.cj_slabs.specs.Marks.{AreMarked, is_marked}
use Rattle.cj_slabs.specs.Slabs.{leaves_listed}
use Rattle.cj_slabs.proofs.MarkLemmas.{marks_are}
use Rattle.cj_slabs.proofs.marking.marked.Goals as goal

pub returns-in_err-lists : goal.returns-in_err-lists
returns-in_err-lists g c = λ case is ticks ordered. rw (err_from_is_err_and c.from_residual.result c.from_residual.ensures.1).1 tt

pub returns : goal.returns
returns g c = λ case is ticks ordered.
    let found = c.args.found.now.slabs.items in
    let lists = c.in_ok-lists.lists.items in
    let some = subst (λ (slabs : List (Vec Leaf Global)). IsPermutation (filter is_marked (leaves_listed slabs)) (leaves_listed lists)) c.deref.ensures.value c.in_ok-lists.ensures in
    both_ok c.merge_runs.result (λ all. IsPermutation (leaves_listed lists) all.items) (λ all. AreInOrderBy (λ leaf. (leaf.cell.pair, leaf.cell.first)) all.items) (λ leaves. AreMarked case leaves.items)
    (λ all moved up. marks_are case (leaves_listed found) (leaves_listed lists) all.items is ticks ordered some moved up) c.merge_runs.ensures.elements c.merge_runs.ensures.ordered
