use Rattle.std.proofs.Common.{List, ◌≤◌, length, Ok, Result, subst, sym, ap, ◌∙◌}
use Rattle.std.proofs.lemmas.Result.{err_from_is_err_and}
use Rattle.cj_io.specs.declared.file.FileBytes.{FileBytes}
use Rattle.cj_words.specs.Commands.{plain_checking}
use Rattle.cj_words.specs.Limits.{most_certificate_bytes}
use Rattle.cj_inputs.specs.CheckInputs.{PlainInputs, inputs_asked, plain_inputs}
use Rattle.cj_outputs.specs.Again.{IsAcceptedLater}
use Rattle.cj_outputs.specs.Either.{PlainAnyCertificate, any_renewed, text_in}
use Rattle.cj_outputs.specs.EitherKept.{plain_any}
use Rattle.cj_status.specs.declared.status.Status.{Status}
use Rattle.cj_outputs.specs.Outcome.{outputs_renewed, outputs_rewritten}
use Rattle.cj_outputs.proofs.AcceptingLemmas.{outputs_made_from, same_error, unaccepted, unprepared}
use Rattle.cj_outputs.proofs.CheckLemmas.{renews}
use Rattle.cj_outputs.proofs.rewriting.rewrite_certificate.Goals as goal

-- what is put of a certificate that is accepted
abbrev due : PlainInputs → PlainAnyCertificate → Result (List FileBytes) Status
due inputs certificate = Ok (outputs_renewed (any_renewed inputs.case certificate))

pub returns-clause-renews : goal.returns-clause-renews
returns-clause-renews g c = λ files told.
    renews files (plain_checking c.args.checking.now) (plain_inputs c.in_ok-problem.field-0) (plain_any c.in_ok-renewed.field-0) (c.in_ok-problem.ensures.told files told)
    (record {
      certificate = plain_any c.in_ok-accepted.accepted;
      text = c.in_ok-accepted.ensures.only.0;
      fits = c.in_ok-accepted.ensures.only.1;
      accepted = c.in_ok-accepted.ensures.holds;
      same = c.in_ok-renewed.ensures.value;
      still = c.in_ok-renewed.ensures.accepted;
    })
    (λ read. let checking = plain_checking c.args.checking.now in
    subst (λ (r : PlainAnyCertificate). length (text_in r) ≤ most_certificate_bytes checking.settings.large → IsAcceptedLater checking.settings checking.brief files (text_in r)) (sym c.in_ok-renewed.ensures.value)
    (c.accepted_later.ensures.rewritten checking.settings files checking.brief (plain_any c.in_ok-accepted.accepted) read c.in_ok-accepted.ensures.may c.in_ok-accepted.ensures.holds c.in_ok-accepted.ensures.only.1))

pub returns-clause-told : goal.returns-clause-told
unfolding outputs_rewritten
returns-clause-told g c = λ files told.
    outputs_made_from c.args.checking.now.brief due (inputs_asked files (plain_checking c.args.checking.now)) (plain_inputs c.in_ok-problem.field-0)
    (plain_any c.in_ok-accepted.accepted) (c.in_ok-problem.ensures.told files told) c.in_ok-accepted.ensures.told
    ∙ ap (λ (x : PlainAnyCertificate). Ok (outputs_renewed x)) (sym c.in_ok-renewed.ensures.value)

pub returns-in_err-problem : goal.returns-in_err-problem
unfolding outputs_rewritten
returns-in_err-problem g c =
    let prepared = c.in_err-problem.ensures in
    let p = err_from_is_err_and c.from_residual.result c.from_residual.ensures.1 in
    rw (p.1, p.2) (record {
      between = prepared.between;
      read = λ is. prepared.read (same_error is);
      told = λ files told.
          unprepared c.args.checking.now.brief due _ c.in_err-problem.field-0.0 (inputs_asked files (plain_checking c.args.checking.now)) (prepared.told files told);
      renews = λ files told. tt;
      files = prepared.files;
      later = prepared.later;
    })

pub returns-in_err-accepted : goal.returns-in_err-accepted
unfolding outputs_rewritten
returns-in_err-accepted g c =
    let accepted = c.in_err-accepted.ensures in
    let p = err_from_is_err_and c.from_residual-in_err-accepted.result c.from_residual-in_err-accepted.ensures.1 in
    rw (p.1, p.2) (record {
      between = accepted.between;
      read = λ is. absurd (accepted.read (same_error is));
      told = λ files told.
          unaccepted c.args.checking.now.brief due _ c.in_err-accepted.field-0.0 (inputs_asked files (plain_checking c.args.checking.now)) (plain_inputs c.in_ok-problem.field-0)
          (c.in_ok-problem.ensures.told files told) accepted.told;
      renews = λ files told. tt;
      files = c.in_ok-problem.ensures.files;
      later = c.in_ok-problem.ensures.later;
    })

pub returns-in_err-renewed : goal.returns-in_err-renewed
returns-in_err-renewed g c =
    let p = err_from_is_err_and c.from_residual-in_err-renewed.result c.from_residual-in_err-renewed.ensures.1 in
    rw (p.1, p.2) (record {
      between = tt;
      read = λ is. absurd cc;
      told = λ files told. tt;
      renews = λ files told. tt;
      files = c.in_ok-problem.ensures.files;
      later = c.in_ok-problem.ensures.later;
    })
