use Rattle.std.proofs.Common.{◌∙◌, Err, Ok, ap, sym}
use Rattle.std.proofs.lemmas.Result.{err_from_is_err_and}
use Rattle.cj_kvn.proofs.FaultLemmas.{told_gives}
use Rattle.cj_cdm.specs.Messages.{PlainMessage}
use Rattle.cj_cdm.specs.Read.{message_of_said, plain_cdm}
use Rattle.cj_cdm.proofs.GrammarLemmas.{reading_only}
use Rattle.cj_cdm.proofs.ReaderLemmas.{told_again}
use Rattle.cj_cdm.proofs.reading.read_cdm.Goals as goal

pub returns-in_err-said-clause-again : goal.returns-in_err-said-clause-again
returns-in_err-said-clause-again c =
    let p = err_from_is_err_and c.from_residual.result c.from_residual.ensures.1 in
    let fault = c.in_err-said.field-0.0 in
    rw p.1 (λ m fit e. told_gives plain_cdm (λ x. x) (Ok m) fault p.0 p.2 (sym (told_again c.args.bytes.now (Err fault) c.in_err-said.ensures m fit e)))

pub returns-clause-only : goal.returns-clause-only
returns-clause-only c =
    reading_only c.args.bytes.now (plain_cdm c.in_ok-message_of.field-0) (sym c.in_ok-said.ensures ∙ ap (λ (m : PlainMessage). Ok m) (sym c.in_ok-message_of.ensures))

pub returns-clause-again : goal.returns-clause-again
returns-clause-again c = λ m fit e.
    sym (told_again c.args.bytes.now (Ok (message_of_said c.in_ok-said.said)) c.in_ok-said.ensures m fit e) ∙ ap (λ (k : PlainMessage). Ok k) (sym c.in_ok-message_of.ensures)
