use Rattle.std.proofs.Common.{refl, sym}
use Rattle.std.proofs.lemmas.Result.{err_from_is_err_and}
use Rattle.cj_cdm.specs.Reading.{side_said}
use Rattle.cj_cdm.proofs.reading.object.read_side.Goals as goal

pub returns-in_err-object : goal.returns-in_err-object
unfolding side_said
returns-in_err-object c =
    let p = err_from_is_err_and c.from_residual.result c.from_residual.ensures.1 in
    rw (p.1, p.2) (rw (sym c.in_err-object.ensures) refl)

pub returns-in_err-place : goal.returns-in_err-place
unfolding side_said
returns-in_err-place c =
    let p = err_from_is_err_and c.from_residual-in_err-place.result c.from_residual-in_err-place.ensures.1 in
    rw (p.1, p.2) (rw (sym c.in_ok-object.ensures, sym c.in_err-place.ensures) refl)

pub returns-in_err-rate : goal.returns-in_err-rate
unfolding side_said
returns-in_err-rate c =
    let p = err_from_is_err_and c.from_residual-in_err-rate.result c.from_residual-in_err-rate.ensures.1 in
    rw (p.1, p.2) (rw (sym c.in_ok-object.ensures, sym c.in_ok-place.ensures, sym c.in_err-rate.ensures) refl)

pub returns-in_err-epoch : goal.returns-in_err-epoch
unfolding side_said
returns-in_err-epoch c =
    let p = err_from_is_err_and c.from_residual-in_err-epoch.result c.from_residual-in_err-epoch.ensures.1 in
    rw (p.1, p.2) (rw (sym c.in_ok-object.ensures, sym c.in_ok-place.ensures, sym c.in_ok-rate.ensures, sym c.in_err-epoch.ensures) refl)

pub returns-in_err-values : goal.returns-in_err-values
unfolding side_said
returns-in_err-values c =
    let p = err_from_is_err_and c.from_residual-in_err-values.result c.from_residual-in_err-values.ensures.1 in
    rw (p.1, p.2) (rw (sym c.in_ok-object.ensures, sym c.in_ok-place.ensures, sym c.in_ok-rate.ensures, sym c.in_ok-epoch.ensures, sym c.in_err-values.ensures) refl)

pub returns : goal.returns
unfolding side_said
returns c = rw (sym c.in_ok-object.ensures, sym c.in_ok-place.ensures, sym c.in_ok-rate.ensures, sym c.in_ok-epoch.ensures, sym c.in_ok-values.ensures) refl
