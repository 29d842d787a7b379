use Rattle.std.proofs.Common.{refl, sym}
use Rattle.std.proofs.lemmas.Result.{err_from_is_err_and}
use Rattle.cj_cdm.specs.Reading.{front_said}
use Rattle.cj_cdm.proofs.reading.heading.read_front.Goals as goal

pub returns-in_err-stamp : goal.returns-in_err-stamp
unfolding front_said
returns-in_err-stamp c =
    let p = err_from_is_err_and c.from_residual.result c.from_residual.ensures.1 in
    rw (p.1, p.2) (rw (sym c.in_err-stamp.ensures) refl)

pub returns-in_err-tca : goal.returns-in_err-tca
unfolding front_said
returns-in_err-tca c =
    let p = err_from_is_err_and c.from_residual-in_err-tca.result c.from_residual-in_err-tca.ensures.1 in
    rw (p.1, p.2) (rw (sym c.in_ok-stamp.ensures, sym c.in_err-tca.ensures) refl)

pub returns-in_err-miss : goal.returns-in_err-miss
unfolding front_said
returns-in_err-miss c =
    let p = err_from_is_err_and c.from_residual-in_err-miss.result c.from_residual-in_err-miss.ensures.1 in
    rw (p.1, p.2) (rw (sym c.in_ok-stamp.ensures, sym c.in_ok-tca.ensures, sym c.in_err-miss.ensures) refl)

pub returns : goal.returns
unfolding front_said
returns c = rw (sym c.in_ok-stamp.ensures, sym c.in_ok-tca.ensures, sym c.in_ok-miss.ensures) refl
