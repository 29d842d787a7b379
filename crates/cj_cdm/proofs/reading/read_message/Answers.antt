use Rattle.std.proofs.Common.{◌∙◌, Err, Ok, ap, sym}
use Rattle.std.proofs.lemmas.Result.{err_from_is_err_and}
use Rattle.cj_kvn.proofs.FaultLemmas.{told_gives}
use Rattle.cj_cdm.specs.Messages.{PlainMessage}
use Rattle.cj_cdm.specs.Read.{plain_read, read_of_said}
use Rattle.cj_cdm.proofs.RelativeLemmas.{with_only, with_told_again}
use Rattle.cj_cdm.proofs.reading.read_message.Goals as goal

pub returns-in_err-said-clause-again : goal.returns-in_err-said-clause-again
returns-in_err-said-clause-again c =
    let p = err_from_is_err_and c.from_residual.result c.from_residual.ensures.1 in
    let fault = c.in_err-said.field-0.0 in
    rw p.1 (λ m x fit state e. told_gives plain_read (λ x. x) (Ok (m, x)) fault p.0 p.2 (sym (with_told_again c.args.bytes.now (Err fault) c.in_err-said.ensures m x fit state e)))

pub returns-clause-only : goal.returns-clause-only
returns-clause-only c =
    with_only c.args.bytes.now (plain_read (c.in_ok-message_of.field-0, c.in_ok-said.relative))
    (sym c.in_ok-said.ensures ∙ ap (λ (m : PlainMessage). Ok (m, c.in_ok-said.relative)) (sym c.in_ok-message_of.ensures))

pub returns-clause-again : goal.returns-clause-again
returns-clause-again c = λ m x fit state e.
    sym (with_told_again c.args.bytes.now (Ok (read_of_said (c.in_ok-said.said, c.in_ok-said.relative))) c.in_ok-said.ensures m x fit state e)
    ∙ ap (λ (k : PlainMessage). Ok (k, c.in_ok-said.relative)) (sym c.in_ok-message_of.ensures)
