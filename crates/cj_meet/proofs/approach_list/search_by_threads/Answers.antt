use Rattle.std.proofs.Common.{List, ap, subst, sym, ◌∙◌}
use Rattle.std.specs.List.{flat_map}
use Rattle.std.proofs.lemmas.Result.{IfOk-weaker}
use Rattle.cj_case.specs.Problems.{plain_problem}
use Rattle.cj_case.specs.declared.encounter.Closest.{Closest}
use Rattle.cj_case.specs.Leaves.{plain_leaves}
use Rattle.cj_threads.proofs.DealingLemmas.{all_of_part, parts_together}
use Rattle.cj_meet.specs.ApproachLists.{AreClosest}
use Rattle.cj_meet.specs.Encounters.{Describes}
use Rattle.cj_meet.proofs.ApproachListLemmas.{both_closest, none_closest}
use Rattle.cj_meet.proofs.approach_list.search_by_threads.Goals as goal

pub map_parts-requires-clause-accepts : goal.map_parts-requires-clause-accepts
map_parts-requires-clause-accepts g c = λ _ _ portion is.
    (all_of_part (Describes (plain_leaves c.args.leaves.now)) c.args.encounters.now portion.now c.requires.described is, c.requires.pieces)

pub returns : goal.returns
returns g c =
    let case = plain_problem c.args.problem.now in
    let ss = plain_leaves c.args.leaves.now in
    let lists = c.in_ok-found.found.items in
    let all = flat_map (λ list. list.items) lists in
    let closest = parts_together _ _ (λ es found. AreClosest case ss es (flat_map (λ list. list.items) found)) (none_closest case ss)
    (λ portion rest list others call so_far. both_closest case ss portion.now rest list.items (flat_map (λ list. list.items) others) call.met so_far)
    c.args.encounters.now lists c.in_ok-found.ensures.each in
    IfOk-weaker c.in_one.result _ _
    (λ found is. subst (λ (xs : List Closest). AreClosest case ss c.args.encounters.now xs) (sym (is ∙ ap (flat_map (λ list. list.items)) c.deref.ensures.value)) closest)
    c.in_one.ensures
