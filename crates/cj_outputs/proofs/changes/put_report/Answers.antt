use Rattle.std.proofs.Common.{ℕ, ◌∙◌, All, Bool, List, [], ◌∷◌, length, Ok, ap, sym, subst}
use Rattle.cj_case.specs.Leaves.{plain_leaves}
use Rattle.cj_case.specs.Problems.{plain_problem}
use Rattle.cj_case.specs.declared.encounter.Closest.{Closest}
use Rattle.cj_case.specs.declared.encounter.Encounter.{Encounter}
use Rattle.cj_case.specs.declared.leaf.Leaf.{Leaf}
use Rattle.cj_meet.specs.Encounters.{Describes}
use Rattle.cj_outputs.specs.Findings.{ended}
use Rattle.cj_outputs.specs.Outcome.{Leaves, changed_output}
use Rattle.cj_outputs.proofs.MessageLemmas.{as_many_closest, as_many_notes}
use Rattle.cj_outputs.proofs.ReportTextLemmas.{changes_are}
use Rattle.cj_outputs.proofs.EndLemmas.{nothing_made}
use Rattle.cj_outputs.proofs.changes.put_report.Goals as goal

pub changed_text-requires : goal.changed_text-requires
changed_text-requires g c =
    let changes = c.args.changes.now in
    let met = c.requires.met in
    let case = plain_problem changes.problem in
    let ss = plain_leaves changes.leaves.items in
    let es = changes.met.encounters.items in
    let many = sym (ap (λ (es : List Encounter). length es) c.deref-2.ensures.value) in
    record {
      described = subst (λ (es : List Encounter). All (Describes (plain_leaves c.deref.result.now)) es) (sym c.deref-2.ensures.value)
          (subst (λ (ls : List Leaf). All (Describes (plain_leaves ls)) es) (sym c.deref.ensures.value) met.encounters.described);
      one_each = ap (λ (xs : List Closest). length xs) c.deref-3.ensures.value ∙ as_many_closest case ss es changes.met.closest.items met.closest ∙ many;
      each_noted = ap (λ (bs : List Bool). length bs) c.deref-4.ensures.value ∙ as_many_notes case ss es changes.met.messages.items met.messages ∙ many;
    }

pub returns-clause-leaves : goal.returns-clause-leaves
returns-clause-leaves g c = λ old stood.
    subst (λ (bytes : List ℕ). Leaves (ended c.put.result) (Ok (changed_output bytes ∷ [])) old (g.S.Shelf.outputs c.put.new.shelf))
    (c.deref-5.ensures.value ∙ changes_are c.args.changes.now c.deref.result.now c.deref-2.result.now c.deref-3.result.now c.deref-4.result.now c.in_ok-report.report.items c.requires
    c.deref.ensures.value c.deref-2.ensures.value c.deref-3.ensures.value c.deref-4.ensures.value c.in_ok-report.ensures) (c.put.ensures.leaves old stood)

pub returns-in_err-report : goal.returns-in_err-report
returns-in_err-report g c = nothing_made _ _ _ _ c.from_residual.ensures.1

pub returns-clause-comes : goal.returns-clause-comes
returns-clause-comes g c = c.put.ensures.comes

pub returns-clause-write : goal.returns-clause-write
returns-clause-write g c = c.put.ensures.write

pub returns-clause-later : goal.returns-clause-later
returns-clause-later g c = c.put.ensures.later
