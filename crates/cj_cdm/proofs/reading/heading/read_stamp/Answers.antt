use Rattle.std.proofs.Common.{refl, sym}
use Rattle.std.proofs.lemmas.Result.{err_from_is_err_and}
use Rattle.cj_cdm.specs.Reading.{stamp_said}
use Rattle.cj_cdm.proofs.reading.heading.read_stamp.Goals as goal

pub returns-in_err-constant : goal.returns-in_err-constant
unfolding stamp_said
returns-in_err-constant c =
    let p = err_from_is_err_and c.from_residual.result c.from_residual.ensures.1 in
    rw (p.1, p.2) (rw (sym c.in_err-constant.ensures) refl)

pub returns-in_err-created : goal.returns-in_err-created
unfolding stamp_said
returns-in_err-created c =
    let p = err_from_is_err_and c.from_residual-in_err-created.result c.from_residual-in_err-created.ensures.1 in
    rw (p.1, p.2) (rw (sym c.in_ok-constant.ensures, sym c.in_err-created.ensures) refl)

pub returns-in_err-originator : goal.returns-in_err-originator
unfolding stamp_said
returns-in_err-originator c =
    let p = err_from_is_err_and c.from_residual-in_err-originator.result c.from_residual-in_err-originator.ensures.1 in
    rw (p.1, p.2) (rw (sym c.in_ok-constant.ensures, sym c.in_ok-created.ensures, sym c.in_err-originator.ensures) refl)

pub returns-in_err-number : goal.returns-in_err-number
unfolding stamp_said
returns-in_err-number c =
    let p = err_from_is_err_and c.from_residual-in_err-number.result c.from_residual-in_err-number.ensures.1 in
    rw (p.1, p.2) (rw (sym c.in_ok-constant.ensures, sym c.in_ok-created.ensures, sym c.in_ok-originator.ensures, sym c.in_err-number.ensures) refl)

pub returns : goal.returns
unfolding stamp_said
returns c = rw (sym c.in_ok-constant.ensures, sym c.in_ok-created.ensures, sym c.in_ok-originator.ensures, sym c.in_ok-number.ensures) refl
