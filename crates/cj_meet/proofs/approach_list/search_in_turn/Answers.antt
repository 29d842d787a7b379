use Rattle.std.proofs.Common.{◌<◌, List, length, map, sym, ap, subst, ◌∙◌, arith}
use Rattle.std.proofs.lemmas.List.{take_all}
use Rattle.std.proofs.lemmas.List.Elements.{All-nil}
use Rattle.cj_case.specs.Problems.{plain_problem}
use Rattle.cj_case.specs.declared.encounter.Encounter.{Encounter}
use Rattle.cj_case.specs.Leaves.{plain_leaves}
use Rattle.cj_meet.specs.ApproachLists.{AreClosest}
use Rattle.cj_meet.specs.Closest.{HasNearest, some_closest}
use Rattle.cj_meet.specs.Encounters.{Describes}
use Rattle.cj_meet.proofs.ApproachListLemmas.{keep_in, approaches_more, has_nearest, nearest_one_more}
use Rattle.cj_meet.proofs.approach_list.search_in_turn.Goals as goal

pub loop-encounter-init : goal.loop-encounter-init
loop-encounter-init g c = record { exact = ap (map some_closest) c.in_ok-found.ensures.items; law = All-nil (HasNearest (plain_problem c.args.problem.now)) }

pub closest-requires-clause-described : goal.closest-requires-clause-described
closest-requires-clause-described g c =
    let lt : c.loop-encounter.encounter-index < length c.args.encounters.now = omega arith in
    subst (Describes (plain_leaves c.args.leaves.now)) (sym c.encounter-item.is) (c.requires.described c.loop-encounter.encounter-index c.encounter-item.result lt)

pub closest-requires-clause-pieces : goal.closest-requires-clause-pieces
closest-requires-clause-pieces g c = keep_in (plain_problem c.args.problem.now) (plain_leaves c.args.leaves.now) c.encounter-item.result c.requires.pieces

pub loop-encounter-preserved : goal.loop-encounter-preserved
loop-encounter-preserved g c =
    let case = plain_problem c.args.problem.now in
    let ss = plain_leaves c.args.leaves.now in
    let es = c.args.encounters.now in
    let at = c.loop-encounter.encounter-index in
    let e = c.encounter-item.result in
    let i = c.loop-encounter.invariant in
    let lt : at < length es = omega arith in
    let described = subst (Describes ss) (sym c.encounter-item.is) (c.requires.described at e lt) in
    record {
      exact = ap (map some_closest) c.in_ok-push.ensures.items ∙ approaches_more case ss es at e c.loop-encounter.found.items c.closest.result lt c.encounter-item.is i.exact c.closest.ensures.exact;
      law = nearest_one_more case ss es at e lt c.encounter-item.is i.law (has_nearest case ss e c.closest.result described c.closest.ensures.exact c.closest.ensures.law);
    }

pub returns : goal.returns
returns g c =
    subst (λ (es : List Encounter). AreClosest (plain_problem c.args.problem.now) (plain_leaves c.args.leaves.now) es c.loop-encounter.found.items)
    (take_all c.loop-encounter.encounter-index c.args.encounters.now (omega arith)) c.loop-encounter.invariant
