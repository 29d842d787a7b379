use Rattle.std.proofs.Common.{◌∙◌, List, ◌∷◌, ◌++◌, Result, Ok, Err, [], false, ap, sym, subst}
use Rattle.std.proofs.lemmas.Result.{err_from_is_err_and}
use Rattle.cj_io.specs.declared.file.FileBytes.{FileBytes}
use Rattle.cj_formats.specs.declared.cert_format.CertFormat.{CertFormat}
use Rattle.cj_formats.specs.declared.cert_format.CertFormat.TheVariants.{Full}
use Rattle.cj_formats.specs.declared.cert_version.CertVersion.TheVariants.{One}
use Rattle.cj_case.specs.Problems.{plain_problem}
use Rattle.cj_words.specs.Commands.{plain_selfrun}
use Rattle.cj_status.specs.declared.status.Status.{Status}
use Rattle.cj_status.specs.Steps.{Stops}
use Rattle.cj_cells.specs.Lists.{list_candidates}
use Rattle.cj_outputs.specs.declared.wanted.Wanted.{Wanted}
use Rattle.cj_outputs.specs.Findings.{case_in, outputs_in}
use Rattle.cj_outputs.specs.Messages.{PlainOrigin}
use Rattle.cj_outputs.specs.Outcome.{check_accepted, outputs_within, summary_with, uncovered_told}
use Rattle.cj_report.specs.declared.tells.Tells.{Tells}
use Rattle.cj_screen.proofs.SelfrunLemmas.{comes_of_selfrun, in_full_limited, selfrun_after, selfrun_told, within_limits_of}
use Rattle.cj_screen.proofs.selfruns.selfrun_catalogue.Goals as goal

-- neither sizes nor what objects cover are told
abbrev untold : Tells
untold = record { sizes = false; coverage = false }

-- how its certificate would be written
abbrev in_full : CertFormat
in_full = Full One

-- nothing is made of it here
nobody : PlainOrigin
nobody = record { created = 0; originator = []; relative = false }

pub returns-in_err-found-clause-ends : goal.returns-in_err-found-clause-ends
returns-in_err-found-clause-ends g c =
    let case = plain_problem c.in_ok-problem.problem in
    let cells = c.args.selfrun.now.cells in
    let p = err_from_is_err_and c.from_residual-in_err-found.result c.from_residual-in_err-found.ensures.1 in
    rw (p.1, p.2) (comes_of_selfrun ⊥ (outputs_in nobody) (Err c.in_err-found.field-0.0) (outputs_within cells untold in_full nobody [] case) (λ none. none)
    (subst (λ (due : Result (List FileBytes) Status). Stops ⊥ c.in_err-found.field-0.0 due) (in_full_limited cells c.most_told.result untold One nobody [] case)
    (c.in_err-found.ensures.told nobody)) (within_limits_of cells untold in_full nobody [] case))

pub returns-in_err-found-clause-told : goal.returns-in_err-found-clause-told
returns-in_err-found-clause-told g c =
    let case = plain_problem c.in_ok-problem.problem in
    let selfrun = plain_selfrun c.args.selfrun.now in
    let s = c.in_err-found.field-0.0 in
    let within = selfrun_told selfrun.cells untold in_full nobody [] case (Err s)
    (subst (λ (due : Result (List FileBytes) Status). Stops ⊥ s due) (in_full_limited selfrun.cells c.most_told.result untold One nobody [] case) (c.in_err-found.ensures.told nobody)) tt tt in
    let p = err_from_is_err_and c.from_residual-in_err-found.result c.from_residual-in_err-found.ensures.1 in
    rw (p.1, p.2) (subst (λ (due : Result (List FileBytes) Status). Stops ⊥ s due) (sym (selfrun_after selfrun case c.in_ok-problem.ensures.told)) within)

pub returns-clause-told : goal.returns-clause-told
returns-clause-told g c =
    let case = plain_problem c.in_ok-problem.problem in
    let selfrun = plain_selfrun c.args.selfrun.now in
    selfrun_after selfrun case c.in_ok-problem.ensures.told
    ∙ selfrun_told selfrun.cells untold in_full nobody [] case (Ok c.in_ok-found.found)
    (sym (in_full_limited selfrun.cells c.most_told.result untold One nobody [] case) ∙ c.in_ok-found.ensures.told nobody) (ap plain_problem c.in_ok-found.ensures.same) c.in_ok-found.ensures.found
    ∙ ap (λ (t : Tells). Ok (summary_with (check_accepted ++ uncovered_told t (case_in c.in_ok-found.found)) (case_in c.in_ok-found.found) (list_candidates (case_in c.in_ok-found.found)) ∷ []))
    (sym (ap (λ (w : Wanted). w.tells) c.in_ok-found.ensures.wanted))

pub returns-clause-found : goal.returns-clause-found
returns-clause-found g c =
    let are = c.in_ok-found.ensures.found in
    record {
      lines = are.lines;
      format = are.format;
      few = are.few;
      encounters = are.encounters;
      closest = are.closest;
      messages = are.messages;
      counts = are.counts;
    }
