use Rattle.std.proofs.Common.{refl, sym}
use Rattle.std.proofs.lemmas.Result.{err_from_is_err_and}
use Rattle.cj_cdm.specs.Reading.{object_said}
use Rattle.cj_cdm.proofs.reading.object.read_object.Goals as goal

pub returns-in_err-constant : goal.returns-in_err-constant
unfolding object_said
returns-in_err-constant c =
    let p = err_from_is_err_and c.from_residual.result c.from_residual.ensures.1 in
    rw (p.1, p.2) (rw (sym c.in_err-constant.ensures) refl)

pub returns-in_err-id : goal.returns-in_err-id
unfolding object_said
returns-in_err-id c =
    let p = err_from_is_err_and c.from_residual-in_err-id.result c.from_residual-in_err-id.ensures.1 in
    rw (p.1, p.2) (rw (sym c.in_ok-constant.ensures, sym c.in_err-id.ensures) refl)

pub returns-in_err-constant-2 : goal.returns-in_err-constant-2
unfolding object_said
returns-in_err-constant-2 c =
    let p = err_from_is_err_and c.from_residual-in_err-constant-2.result c.from_residual-in_err-constant-2.ensures.1 in
    rw (p.1, p.2) (rw (sym c.in_ok-constant.ensures, sym c.in_ok-id.ensures, sym c.in_err-constant-2.ensures) refl)

pub returns-in_err-name : goal.returns-in_err-name
unfolding object_said
returns-in_err-name c =
    let p = err_from_is_err_and c.from_residual-in_err-name.result c.from_residual-in_err-name.ensures.1 in
    rw (p.1, p.2) (rw (sym c.in_ok-constant.ensures, sym c.in_ok-id.ensures, sym c.in_ok-constant-2.ensures, sym c.in_err-name.ensures) refl)

pub returns : goal.returns
unfolding object_said
returns c = rw (sym c.in_ok-constant.ensures, sym c.in_ok-id.ensures, sym c.in_ok-constant-2.ensures, sym c.in_ok-name.ensures) c.read_source.ensures
