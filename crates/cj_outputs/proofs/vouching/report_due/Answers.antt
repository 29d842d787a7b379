use Rattle.std.proofs.Common.{◌∙◌, All, Bool, List, length, ap, sym, subst}
use Rattle.std.proofs.lemmas.Result.{err_from_is_err_and}
use Rattle.cj_case.specs.Problems.{plain_problem}
use Rattle.cj_case.specs.Leaves.{plain_leaves}
use Rattle.cj_case.specs.declared.encounter.Closest.{Closest}
use Rattle.cj_case.specs.declared.encounter.Encounter.{Encounter}
use Rattle.cj_meet.specs.Encounters.{Describes}
use Rattle.cj_outputs.proofs.MessageLemmas.{as_many_closest, as_many_notes}
use Rattle.cj_outputs.proofs.VouchLemmas.{on_ok, report_if_made}
use Rattle.cj_outputs.proofs.vouching.report_due.Goals as goal

pub report_text-requires : goal.report_text-requires
report_text-requires g c =
    let case = plain_problem c.args.problem.now in
    let ss = plain_leaves c.args.leaves.now in
    let met = c.in_ok-met.met in
    let are = c.in_ok-met.ensures.meetings in
    let many = sym (ap (λ (es : List Encounter). length es) c.deref.ensures.value) in
    record {
      described = subst (λ (es : List Encounter). All (Describes ss) es) (sym c.deref.ensures.value) are.encounters.described;
      one_each = ap (λ (xs : List Closest). length xs) c.deref-2.ensures.value ∙ as_many_closest case ss met.encounters.items met.closest.items are.closest ∙ many;
      each_noted = ap (λ (bs : List Bool). length bs) c.deref-3.ensures.value ∙ as_many_notes case ss met.encounters.items met.messages.items are.messages ∙ many;
    }

pub returns : goal.returns
returns g c = record {
  text = report_if_made c.args.tells (plain_problem c.args.problem.now) (plain_leaves c.args.leaves.now) c.in_ok-met.met c.deref.result.now c.deref-2.result.now
      c.deref-3.result.now c.report_text.result c.in_ok-met.ensures.meetings c.deref.ensures.value c.deref-2.ensures.value c.deref-3.ensures.value c.report_text.ensures;
  spans = c.in_ok-met.ensures.spans;
  nearest = on_ok c.report_text.result c.in_ok-met.ensures.nearest;
}

pub returns-in_err-met : goal.returns-in_err-met
returns-in_err-met g c =
    let p = err_from_is_err_and c.from_residual.result c.from_residual.ensures.1 in
    rw p.1 (record { text = tt; spans = c.in_err-met.ensures.spans; nearest = tt })
