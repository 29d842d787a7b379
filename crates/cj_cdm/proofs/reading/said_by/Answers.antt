use Rattle.std.proofs.Common.{refl, sym}
use Rattle.std.proofs.lemmas.Result.{err_from_is_err_and}
use Rattle.cj_cdm.specs.Messages.{PlainMessage}
use Rattle.cj_cdm.specs.Read.{plain_rest}
use Rattle.cj_cdm.specs.Reading.{message_said, reading}
use Rattle.cj_cdm.proofs.ReaderLemmas.{ill_ended, well_ended}
use Rattle.cj_cdm.proofs.reading.said_by.Goals as goal

pub returns-in_err-heading : goal.returns-in_err-heading
unfolding reading message_said
returns-in_err-heading c =
    let p = err_from_is_err_and c.from_residual.result c.from_residual.ensures.1 in
    rw (p.1, p.2) (rw (sym c.in_err-heading.ensures) refl)

pub returns-in_err-first : goal.returns-in_err-first
unfolding reading message_said
returns-in_err-first c =
    let p = err_from_is_err_and c.from_residual-in_err-first.result c.from_residual-in_err-first.ensures.1 in
    rw (p.1, p.2) (rw (sym c.in_ok-heading.ensures, sym c.in_err-first.ensures) refl)

pub returns-in_err-second : goal.returns-in_err-second
unfolding reading message_said
returns-in_err-second c =
    let p = err_from_is_err_and c.from_residual-in_err-second.result c.from_residual-in_err-second.ensures.1 in
    rw (p.1, p.2) (rw (sym c.in_ok-heading.ensures, sym c.in_ok-first.ensures, sym c.in_err-second.ensures) refl)

pub returns-in_err-end : goal.returns-in_err-end
unfolding reading message_said
returns-in_err-end c =
    let p = err_from_is_err_and c.from_residual-in_err-end.result c.from_residual-in_err-end.ensures.1 in
    rw (p.1, p.2) (rw (sym c.in_ok-heading.ensures, sym c.in_ok-first.ensures, sym c.in_ok-second.ensures) (ill_ended {A = PlainMessage} _ (plain_rest c.read_side-2.new.rest) c.in_err-end.field-0.0 c.in_err-end.ensures))

pub returns : goal.returns
unfolding reading message_said
returns c =
    rw (sym c.in_ok-heading.ensures, sym c.in_ok-first.ensures, sym c.in_ok-second.ensures) (well_ended {A = PlainMessage} _ (plain_rest c.read_side-2.new.rest) c.in_ok-end.ensures)
