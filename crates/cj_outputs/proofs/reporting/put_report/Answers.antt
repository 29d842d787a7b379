use Rattle.std.proofs.Common.{ℕ, ◌∙◌, All, Bool, List, [], ◌∷◌, length, Ok, ap, sym, subst}
use Rattle.cj_case.specs.Leaves.{plain_leaves}
use Rattle.cj_case.specs.declared.encounter.Closest.{Closest}
use Rattle.cj_case.specs.declared.encounter.Encounter.{Encounter}
use Rattle.cj_case.specs.declared.leaf.Leaf.{Leaf}
use Rattle.cj_meet.specs.Encounters.{Describes}
use Rattle.cj_outputs.specs.Findings.{case_in, ended, met_in}
use Rattle.cj_outputs.specs.Outcome.{Leaves, report_output}
use Rattle.cj_outputs.proofs.MessageLemmas.{as_many_closest, as_many_notes}
use Rattle.cj_outputs.proofs.ReportTextLemmas.{report_is}
use Rattle.cj_outputs.proofs.EndLemmas.{nothing_made}
use Rattle.cj_outputs.proofs.reporting.put_report.Goals as goal

pub report_text-requires : goal.report_text-requires
report_text-requires g c =
    let found = c.args.found.now in
    let case = case_in found in
    let ss = met_in found in
    let es = found.encounters.items in
    let many = sym (ap (λ (es : List Encounter). length es) c.deref.ensures.value) in
    record {
      described = subst (λ (es : List Encounter). All (Describes (plain_leaves c.met.result.now)) es) (sym c.deref.ensures.value)
          (subst (λ (ls : List Leaf). All (Describes (plain_leaves ls)) es) (sym c.met.ensures) c.requires.encounters.described);
      one_each = ap (λ (xs : List Closest). length xs) c.deref-2.ensures.value ∙ as_many_closest case ss es found.closest.items c.requires.closest ∙ many;
      each_noted = ap (λ (bs : List Bool). length bs) c.deref-3.ensures.value ∙ as_many_notes case ss es found.messages.items c.requires.messages ∙ many;
    }

pub returns-clause-leaves : goal.returns-clause-leaves
returns-clause-leaves g c = λ old stood.
    subst (λ (bytes : List ℕ). Leaves (ended c.put.result) (Ok (report_output bytes ∷ [])) old (g.S.Shelf.outputs c.put.new.shelf))
    (c.deref-4.ensures.value ∙ report_is c.args.found.now c.met.result.now c.deref.result.now c.deref-2.result.now c.deref-3.result.now c.in_ok-report.report.items c.requires
    c.met.ensures c.deref.ensures.value c.deref-2.ensures.value c.deref-3.ensures.value c.in_ok-report.ensures) (c.put.ensures.leaves old stood)

pub returns-in_err-report : goal.returns-in_err-report
returns-in_err-report g c = nothing_made _ _ _ _ c.from_residual.ensures.1

pub returns-clause-comes : goal.returns-clause-comes
returns-clause-comes g c = c.put.ensures.comes

pub returns-clause-write : goal.returns-clause-write
returns-clause-write g c = c.put.ensures.write

pub returns-clause-later : goal.returns-clause-later
returns-clause-later g c = c.put.ensures.later
