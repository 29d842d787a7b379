use Rattle.std.proofs.Common.{◌∙◌, Ok, Option, ap, refl, sym}
use Rattle.std.proofs.lemmas.Result.{err_from_is_err_and}
use Rattle.cj_rtn.specs.declared.relative.Rtn.{Rtn}
use Rattle.cj_cdm.specs.Messages.{PlainMessage}
use Rattle.cj_cdm.specs.Read.{plain_rest, side_of_said}
use Rattle.cj_cdm.specs.Reading.{Heading, message_with_said, reading_with}
use Rattle.cj_cdm.proofs.ReaderLemmas.{ill_ended, well_ended}
use Rattle.cj_cdm.proofs.reading.said_with.Goals as goal

pub returns-in_err-front : goal.returns-in_err-front
unfolding reading_with message_with_said
returns-in_err-front c =
    let p = err_from_is_err_and c.from_residual.result c.from_residual.ensures.1 in
    rw (p.1, p.2) (rw (sym c.in_err-front.ensures) refl)

pub returns-in_err-relative : goal.returns-in_err-relative
unfolding reading_with message_with_said
returns-in_err-relative c =
    let p = err_from_is_err_and c.from_residual-in_err-relative.result c.from_residual-in_err-relative.ensures.1 in
    rw (p.1, p.2) (rw (sym c.in_ok-front.ensures, sym c.in_err-relative.ensures) refl)

pub returns-in_err-period : goal.returns-in_err-period
unfolding reading_with message_with_said
returns-in_err-period c =
    let p = err_from_is_err_and c.from_residual-in_err-period.result c.from_residual-in_err-period.ensures.1 in
    rw (p.1, p.2) (rw (sym c.in_ok-front.ensures, sym c.in_ok-relative.ensures, sym c.in_err-period.ensures) refl)

pub returns-in_err-first : goal.returns-in_err-first
unfolding reading_with message_with_said
returns-in_err-first c =
    let p = err_from_is_err_and c.from_residual-in_err-first.result c.from_residual-in_err-first.ensures.1 in
    rw (p.1, p.2) (rw (sym c.in_ok-front.ensures, sym c.in_ok-relative.ensures, sym c.in_ok-period.ensures, sym c.in_err-first.ensures) refl)

pub returns-in_err-second : goal.returns-in_err-second
unfolding reading_with message_with_said
returns-in_err-second c =
    let p = err_from_is_err_and c.from_residual-in_err-second.result c.from_residual-in_err-second.ensures.1 in
    rw (p.1, p.2) (rw (sym c.in_ok-front.ensures, sym c.in_ok-relative.ensures, sym c.in_ok-period.ensures, sym c.in_ok-first.ensures, sym c.in_err-second.ensures) refl)

pub returns-in_err-end : goal.returns-in_err-end
unfolding reading_with message_with_said
returns-in_err-end c =
    let p = err_from_is_err_and c.from_residual-in_err-end.result c.from_residual-in_err-end.ensures.1 in
    rw (p.1, p.2) (rw (sym c.in_ok-front.ensures, sym c.in_ok-relative.ensures, sym c.in_ok-period.ensures, sym c.in_ok-first.ensures, sym c.in_ok-second.ensures) (ill_ended {A = PlainMessage × Option Rtn} _ (plain_rest c.read_side-2.new.rest) c.in_err-end.field-0.0 c.in_err-end.ensures))

pub returns : goal.returns
unfolding reading_with message_with_said
returns c =
    let with_heading = λ (h : Heading). Ok (
      record {
        stamp = h.stamp;
        tca = h.tca;
        miss = h.miss;
        start = h.start;
        stop = h.stop;
        object1 = side_of_said c.in_ok-first.first;
        object2 = side_of_said c.in_ok-second.second;
      },
      c.in_ok-relative.relative,
    ) in
    rw (sym c.in_ok-front.ensures, sym c.in_ok-relative.ensures, sym c.in_ok-period.ensures, sym c.in_ok-first.ensures, sym c.in_ok-second.ensures) (ap with_heading c.heading_of.ensures ∙ well_ended {A = PlainMessage × Option Rtn} _ (plain_rest c.read_side-2.new.rest) c.in_ok-end.ensures)
