use Rattle.std.proofs.Common.{◌≡◌, ◌<◌, length, get_or, sym, ap, subst, ◌∙◌, arith, rules}
use Rattle.cj_case.specs.declared.problem.Problem.{Problem}
use Rattle.cj_case.specs.Problems.{plain_problem}
use Rattle.cj_case.specs.declared.encounter.Closest.{Closest}
use Rattle.cj_cdm.specs.Building.{have_covariances}
use Rattle.cj_meet.specs.Closest.{closest_of}
use Rattle.cj_meet.specs.Encounters.{Describes}
use Rattle.cj_report.proofs.EncounterTextLemmas.{approach_at}
use Rattle.cj_outputs.proofs.MessageLemmas.{message_noted, noted_more}
use Rattle.cj_outputs.proofs.messages.note_messages.Goals as goal

pub loop-place-preserved : goal.loop-place-preserved
loop-place-preserved c = λ ss described each.
    let case = plain_problem c.args.problem.now in
    let es = c.args.encounters.now in
    let i = c.loop-place.place in
    let e = c.index-encounters-place.result in
    let x = c.index-closest-place.result in
    let lt : i < length es = omega arith in
    let e_is : e ≡ get_or es i e = search rules in
    let x_is : x ≡ get_or c.args.closest.now i x = search rules in
    let d = subst (Describes ss) (sym e_is) (described i e lt) in
    let at = approach_at (closest_of case) ss es c.args.closest.now i e x lt c.requires.one_each e_is x_is each in
    c.in_ok-push.ensures.items
    ∙ noted_more case ss es i e c.loop-place.noted.items c.has_message.result lt e_is (c.loop-place.invariant ss described each)
    (c.has_message.ensures ∙ ap (λ (p : Problem). have_covariances (plain_problem p) e.pair.a e.pair.b (get_or c.args.closest.now i x).tick.micros) c.in_ok-covariances.ensures
    ∙ ap (λ (y : Closest). have_covariances case e.pair.a e.pair.b y.tick.micros) (sym x_is) ∙ message_noted case ss e x d at)
