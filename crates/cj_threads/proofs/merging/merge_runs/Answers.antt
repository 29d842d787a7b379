use Rattle.std.proofs.Common.{List, map, ap, subst, ◌∙◌}
use Rattle.std.specs.Prelude.{IfOk, flat_map}
use Rattle.std.specs.Global.{Vec}
use Rattle.std.specs.List.Sorted.{IsPermutation}
use Rattle.std.proofs.lemmas.List.Sorted.{IsPermutation-trans}
use Rattle.std.proofs.lemmas.Result.{IfOk-weaker}
use Rattle.cj_threads.proofs.RunLemmas.{same_elements}
use Rattle.cj_threads.proofs.merging.merge_runs.Goals as goal

pub returns-then-workers-lt2-clause-elements : goal.returns-then-workers-lt2-clause-elements
returns-then-workers-lt2-clause-elements g c =
    let slices = c.deref-then-workers-lt2.result.now in
    let same = ap (map (λ run. run.now)) c.deref-then-workers-lt2.ensures.value ∙ c.in_ok-parts.ensures ∙ ap (map (λ run. run.items)) c.deref.ensures.value in
    subst (λ (xs : List g.row.T.Denot). IfOk c.merge_in_turn.result (λ all. IsPermutation xs all.items))
    (same_elements slices c.args.runs.items (λ run. run.items) same) c.merge_in_turn.ensures.elements

pub returns-clause-elements : goal.returns-clause-elements
returns-clause-elements g c =
    let all_of = flat_map (λ (l : Vec g.row.T.Denot). l.items) in
    let lists = all_of c.in_ok-lists.lists.items in
    let same = c.in_ok-parts.ensures ∙ ap (map (λ run. run.items)) c.deref.ensures.value in
    let merged = subst (λ (xs : List g.row.T.Denot). IsPermutation xs lists)
    (same_elements c.in_ok-parts.parts.items c.args.runs.items (λ run. run.items) same) c.in_ok-lists.ensures.elements in
    IfOk-weaker c.put_together.result (λ all. IsPermutation lists all.items) (λ all. IsPermutation (all_of c.args.runs.items) all.items)
    (λ all here. IsPermutation-trans (all_of c.args.runs.items) lists all.items merged here) c.put_together.ensures.elements
