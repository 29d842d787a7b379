use Rattle.std.proofs.Common.{List, subst}
use Rattle.std.specs.Prelude.{All, IfOk, flat_map}
use Rattle.std.specs.Global.{Vec}
use Rattle.std.specs.Borrow.{Bor}
use Rattle.std.specs.List.Sorted.{IsPermutation}
use Rattle.std.proofs.lemmas.List.Sorted.{IsPermutation-trans}
use Rattle.std.proofs.lemmas.Result.{IfOk-weaker}
use Rattle.cj_case.specs.PairOrder.{AreInOrderBy}
use Rattle.cj_threads.specs.Runs.{elements_of, elements_in, AreMerged}
use Rattle.cj_threads.proofs.merging.merge_ranges.Goals as goal

pub returns-clause-elements : goal.returns-clause-elements
returns-clause-elements g c =
    let runs = elements_of c.args.runs.items in
    let ranges = c.in_ok-ranges.ranges.items in
    IfOk-weaker c.merge_each.result (λ (lists : Vec (Vec g.row.T.Denot)). AreMerged g.T.Placed.place_of c.deref.result.now lists.items)
    (λ (lists : Vec (Vec g.row.T.Denot)). IsPermutation runs (flat_map (λ (l : Vec g.row.T.Denot). l.items) lists.items))
    (λ lists merged. IsPermutation-trans runs (elements_in ranges) (flat_map (λ (l : Vec g.row.T.Denot). l.items) lists.items) c.in_ok-ranges.ensures
    (subst (λ (rs : List (Vec (Bor (List g.row.T.Denot)))). IsPermutation (elements_in rs) (flat_map (λ (l : Vec g.row.T.Denot). l.items) lists.items)) c.deref.ensures.value
    merged.elements))
    c.merge_each.ensures

pub returns-clause-ordered : goal.returns-clause-ordered
returns-clause-ordered g c =
    IfOk-weaker c.merge_each.result (λ (lists : Vec (Vec g.row.T.Denot)). AreMerged g.T.Placed.place_of c.deref.result.now lists.items)
    (λ (lists : Vec (Vec g.row.T.Denot)). All (λ (l : Vec g.row.T.Denot). AreInOrderBy g.T.Placed.place_of l.items) lists.items)
    (λ lists merged. merged.ordered) c.merge_each.ensures
