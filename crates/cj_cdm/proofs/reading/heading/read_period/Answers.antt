use Rattle.std.proofs.Common.{refl, sym}
use Rattle.std.proofs.lemmas.Result.{err_from_is_err_and}
use Rattle.cj_cdm.specs.Reading.{period_said}
use Rattle.cj_cdm.proofs.reading.heading.read_period.Goals as goal

pub returns-in_err-start : goal.returns-in_err-start
unfolding period_said
returns-in_err-start c =
    let p = err_from_is_err_and c.from_residual.result c.from_residual.ensures.1 in
    rw (p.1, p.2) (rw (sym c.in_err-start.ensures) refl)

pub returns-in_err-stop : goal.returns-in_err-stop
unfolding period_said
returns-in_err-stop c =
    let p = err_from_is_err_and c.from_residual-in_err-stop.result c.from_residual-in_err-stop.ensures.1 in
    rw (p.1, p.2) (rw (sym c.in_ok-start.ensures, sym c.in_err-stop.ensures) refl)

pub returns : goal.returns
unfolding period_said
returns c = rw (sym c.in_ok-start.ensures, sym c.in_ok-stop.ensures) refl
