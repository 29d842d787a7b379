use Rattle.std.proofs.Common.{refl, sym}
use Rattle.std.proofs.lemmas.Result.{err_from_is_err_and}
use Rattle.cj_cdm.specs.Reading.{relative_said}
use Rattle.cj_cdm.proofs.reading.relative.read_relative.Goals as goal

pub returns-in_err-place : goal.returns-in_err-place
unfolding relative_said
returns-in_err-place c =
    let p = err_from_is_err_and c.from_residual.result c.from_residual.ensures.1 in
    rw (p.1, p.2) (rw (sym c.in_err-place.ensures) refl)

pub returns-in_err-rate : goal.returns-in_err-rate
unfolding relative_said
returns-in_err-rate c =
    let p = err_from_is_err_and c.from_residual-in_err-rate.result c.from_residual-in_err-rate.ensures.1 in
    rw (p.1, p.2) (rw (sym c.in_ok-place.ensures, sym c.in_err-rate.ensures) refl)

pub returns : goal.returns
unfolding relative_said
returns c = rw (sym c.in_ok-place.ensures, sym c.in_ok-rate.ensures) refl
