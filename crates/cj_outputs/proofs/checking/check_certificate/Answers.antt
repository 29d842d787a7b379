use Rattle.std.proofs.Common.{◌∙◌, ℕ, List, [], ◌∷◌, map, Ok, Result, Vec, Global, ap, sym, subst}
use Rattle.std.specs.Prelude.{IfSome, OnOk}
use Rattle.std.proofs.lemmas.Result.{err_from_is_err_and}
use Rattle.cj_io.specs.Faults.{Rose}
use Rattle.cj_io.specs.declared.file.FileBytes.{FileBytes}
use Rattle.cj_case.specs.Leaves.{PlainLeaf}
use Rattle.cj_case.specs.Problems.{plain_problem}
use Rattle.cj_words.specs.Commands.{plain_checking}
use Rattle.cj_case.specs.Order.{AreInOrder}
use Rattle.cj_meet.specs.Closest.{KeepTheirPieces}
use Rattle.cj_cert.specs.Splits.{CellsSplit}
use Rattle.cj_cert.specs.Certificates.{plain_cell_line}
use Rattle.cj_inputs.specs.CheckInputs.{PlainInputs, inputs_asked, plain_inputs}
use Rattle.cj_status.specs.declared.status.Status.{Status}
use Rattle.cj_status.specs.Steps.{◌>>=◌, Gives}
use Rattle.cj_outputs.specs.Checks.{AcceptedReport, AcceptedText}
use Rattle.cj_outputs.specs.Either.{PlainAnyCertificate, cells_in}
use Rattle.cj_outputs.specs.EitherKept.{plain_any}
use Rattle.cj_outputs.specs.Outcome.{accepted_output, outputs_checked, report_if_accepting, tells_of}
use Rattle.cj_outputs.proofs.AcceptingLemmas.{outputs_made_from, same_error, unaccepted, unprepared}
use Rattle.cj_outputs.proofs.ByPairLemmas.{any_in_order, any_keep}
use Rattle.cj_outputs.proofs.CheckLemmas.{vouched}
use Rattle.cj_outputs.proofs.VouchLemmas.{if_some_seen, on_ok_so, outputs_behind}
use Rattle.cj_outputs.proofs.checking.check_certificate.Goals as goal
use Rattle.cj_report.specs.declared.tells.Tells.{Tells}

-- what is put of a certificate that is accepted, where the report is
abbrev due : ℕ → Tells → PlainInputs → PlainAnyCertificate → Result (List FileBytes) Status
due limit tells inputs certificate = report_if_accepting limit tells inputs.case (cells_in certificate) inputs.report >>= λ done. Ok (accepted_output ∷ [])

pub accept_report-requires-clause-few : goal.accept_report-requires-clause-few
accept_report-requires-clause-few g c = λ lifetimes outlive. c.args.checking.now.settings.limits.most_leaves

pub accept_report-requires-clause-in_order : goal.accept_report-requires-clause-in_order
accept_report-requires-clause-in_order g c = λ lifetimes outlive.
    let case = plain_problem c.in_ok-problem.field-0.problem in
    subst AreInOrder (sym (ap (map plain_cell_line) c.deref.ensures.value ∙ c.in_ok-cells.ensures))
    (any_in_order case (plain_any c.in_ok-accepted.accepted) c.in_ok-accepted.ensures.holds)

pub accept_report-requires-clause-pieces : goal.accept_report-requires-clause-pieces
accept_report-requires-clause-pieces g c = λ lifetimes outlive.
    let case = plain_problem c.in_ok-problem.field-0.problem in
    subst (KeepTheirPieces case) (sym (ap (map plain_cell_line) c.deref.ensures.value ∙ c.in_ok-cells.ensures))
    (any_keep case (plain_any c.in_ok-accepted.accepted) c.in_ok-accepted.ensures.holds)

pub accept_report-requires-clause-split : goal.accept_report-requires-clause-split
accept_report-requires-clause-split g c = λ lifetimes outlive.
    let case = plain_problem c.in_ok-problem.field-0.problem in
    subst (CellsSplit case) (sym (ap (map plain_cell_line) c.deref.ensures.value ∙ c.in_ok-cells.ensures)) c.in_ok-accepted.ensures.split

pub returns-clause-vouches : goal.returns-clause-vouches
returns-clause-vouches g c = λ files told.
    let checking = plain_checking c.args.checking.now in
    let inputs = plain_inputs c.in_ok-problem.field-0 in
    let certificate = plain_any c.in_ok-accepted.accepted in
    let cells = cells_in certificate in
    let accepted = c.in_ok-accepted.ensures in
    let holds : AcceptedText inputs.case inputs.bytes = record {
      certificate = certificate;
      text = accepted.only.0;
      fits = accepted.only.1;
      accepted = accepted.holds;
      split = accepted.split;
    } in
    let beside =
    subst (λ (t : Tells). OnOk c.accept_report.result (IfSome c.in_ok-problem.field-0.report (λ report. AcceptedReport t inputs.case cells report.items)))
    c.tells_of.ensures
    (subst (λ (ss : List PlainLeaf). OnOk c.accept_report.result
    (IfSome c.in_ok-problem.field-0.report (λ report. AcceptedReport c.tells_of.result inputs.case ss report.items)))
    (ap (map plain_cell_line) c.deref.ensures.value ∙ c.in_ok-cells.ensures) c.accept_report.ensures.holds) in
    on_ok_so c.accept_report.result
    (λ report. vouched files checking inputs (c.in_ok-problem.ensures.told files told) holds
    (if_some_seen (λ (text : Vec ℕ Global). text.items) (AcceptedReport (tells_of checking.settings) inputs.case cells) c.in_ok-problem.field-0.report report))
    beside

pub returns-clause-told : goal.returns-clause-told
unfolding outputs_checked
returns-clause-told g c = λ files told.
    let checking = plain_checking c.args.checking.now in
    let inputs = plain_inputs c.in_ok-problem.field-0 in
    let certificate = plain_any c.in_ok-accepted.accepted in
    let cells = cells_in certificate in
    let rose = Rose (g.F.Folder.faults c.args.folder.now) (g.F.Folder.faults c.prepare_check.new.folder) in
    let outputs = accepted_output ∷ [] in
    let judged =
    subst (λ (t : Tells). Gives ⊥ (λ done. done) c.accept_report.result (report_if_accepting checking.settings.limits.leaves t inputs.case cells inputs.report)) c.tells_of.ensures
    (subst (λ (ss : List PlainLeaf). Gives ⊥ (λ done. done) c.accept_report.result (report_if_accepting checking.settings.limits.leaves c.tells_of.result inputs.case ss inputs.report))
    (ap (map plain_cell_line) c.deref.ensures.value ∙ c.in_ok-cells.ensures) c.accept_report.ensures.told) in
    subst (λ (d : Result (List FileBytes) Status). Gives rose (λ done. outputs) c.accept_report.result d)
    (sym (outputs_made_from checking.brief (due checking.settings.limits.leaves (tells_of checking.settings)) (inputs_asked files checking) inputs certificate (c.in_ok-problem.ensures.told files told)
    c.in_ok-accepted.ensures.told))
    (outputs_behind rose outputs c.accept_report.result (report_if_accepting checking.settings.limits.leaves (tells_of checking.settings) inputs.case cells inputs.report) judged)

pub returns-in_err-problem : goal.returns-in_err-problem
unfolding outputs_checked
returns-in_err-problem g c =
    let prepared = c.in_err-problem.ensures in
    let checking = plain_checking c.args.checking.now in
    let p = err_from_is_err_and c.from_residual.result c.from_residual.ensures.1 in
    rw (p.1, p.2) (record {
      between = prepared.between;
      read = λ is. prepared.read (same_error is);
      told = λ files told. unprepared checking.brief (due checking.settings.limits.leaves (tells_of checking.settings)) _ c.in_err-problem.field-0.0 (inputs_asked files checking) (prepared.told files told);
      vouches = λ files told. tt;
      files = prepared.files;
      later = prepared.later;
    })

pub returns-in_err-accepted : goal.returns-in_err-accepted
unfolding outputs_checked
returns-in_err-accepted g c =
    let accepted = c.in_err-accepted.ensures in
    let checking = plain_checking c.args.checking.now in
    let p = err_from_is_err_and c.from_residual-in_err-accepted.result c.from_residual-in_err-accepted.ensures.1 in
    rw (p.1, p.2) (record {
      between = accepted.between;
      read = λ is. absurd (accepted.read (same_error is));
      told = λ files told.
          unaccepted checking.brief (due checking.settings.limits.leaves (tells_of checking.settings)) _ c.in_err-accepted.field-0.0 (inputs_asked files checking) (plain_inputs c.in_ok-problem.field-0)
          (c.in_ok-problem.ensures.told files told) accepted.told;
      vouches = λ files told. tt;
      files = c.in_ok-problem.ensures.files;
      later = c.in_ok-problem.ensures.later;
    })

pub returns-in_err-cells : goal.returns-in_err-cells
returns-in_err-cells g c =
    let p = err_from_is_err_and c.from_residual-in_err-cells.result c.from_residual-in_err-cells.ensures.1 in
    rw (p.1, p.2) (record {
      between = tt;
      read = λ is. absurd cc;
      told = λ files told. tt;
      vouches = λ files told. tt;
      files = c.in_ok-problem.ensures.files;
      later = c.in_ok-problem.ensures.later;
    })
