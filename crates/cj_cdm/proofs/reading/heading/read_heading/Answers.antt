use Rattle.std.proofs.Common.{Ok, ap, refl, sym}
use Rattle.std.proofs.lemmas.Result.{err_from_is_err_and}
use Rattle.cj_cdm.specs.Read.{plain_rest}
use Rattle.cj_cdm.specs.Reading.{Heading, heading_said}
use Rattle.cj_cdm.proofs.reading.heading.read_heading.Goals as goal

pub returns-in_err-front : goal.returns-in_err-front
unfolding heading_said
returns-in_err-front c =
    let p = err_from_is_err_and c.from_residual.result c.from_residual.ensures.1 in
    rw (p.1, p.2) (rw (sym c.in_err-front.ensures) refl)

pub returns-in_err-period : goal.returns-in_err-period
unfolding heading_said
returns-in_err-period c =
    let p = err_from_is_err_and c.from_residual-in_err-period.result c.from_residual-in_err-period.ensures.1 in
    rw (p.1, p.2) (rw (sym c.in_ok-front.ensures, sym c.in_err-period.ensures) refl)

pub returns : goal.returns
unfolding heading_said
returns c = rw (sym c.in_ok-front.ensures, sym c.in_ok-period.ensures) (ap (λ (h : Heading). Ok (h, plain_rest c.read_period.new.rest)) c.heading_of.ensures)
