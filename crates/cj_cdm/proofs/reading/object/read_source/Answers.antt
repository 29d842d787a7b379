use Rattle.std.proofs.Common.{refl, sym}
use Rattle.std.proofs.lemmas.Result.{err_from_is_err_and}
use Rattle.cj_cdm.specs.Reading.{source_said}
use Rattle.cj_cdm.proofs.reading.object.read_source.Goals as goal

pub returns-in_err-designator : goal.returns-in_err-designator
unfolding source_said
returns-in_err-designator c =
    let p = err_from_is_err_and c.from_residual.result c.from_residual.ensures.1 in
    rw (p.1, p.2) (rw (sym c.in_err-designator.ensures) refl)

pub returns-in_err-file : goal.returns-in_err-file
unfolding source_said
returns-in_err-file c =
    let p = err_from_is_err_and c.from_residual-in_err-file.result c.from_residual-in_err-file.ensures.1 in
    rw (p.1, p.2) (rw (sym c.in_ok-designator.ensures, sym c.in_err-file.ensures) refl)

pub returns-in_err-constant : goal.returns-in_err-constant
unfolding source_said
returns-in_err-constant c =
    let p = err_from_is_err_and c.from_residual-in_err-constant.result c.from_residual-in_err-constant.ensures.1 in
    rw (p.1, p.2) (rw (sym c.in_ok-designator.ensures, sym c.in_ok-file.ensures, sym c.in_err-constant.ensures) refl)

pub returns-in_err-constant-2 : goal.returns-in_err-constant-2
unfolding source_said
returns-in_err-constant-2 c =
    let p = err_from_is_err_and c.from_residual-in_err-constant-2.result c.from_residual-in_err-constant-2.ensures.1 in
    rw (p.1, p.2) (rw (sym c.in_ok-designator.ensures, sym c.in_ok-file.ensures, sym c.in_ok-constant.ensures, sym c.in_err-constant-2.ensures) refl)

pub returns-in_err-frame : goal.returns-in_err-frame
unfolding source_said
returns-in_err-frame c =
    let p = err_from_is_err_and c.from_residual-in_err-frame.result c.from_residual-in_err-frame.ensures.1 in
    rw (p.1, p.2) (rw (sym c.in_ok-designator.ensures, sym c.in_ok-file.ensures, sym c.in_ok-constant.ensures, sym c.in_ok-constant-2.ensures, sym c.in_err-frame.ensures) refl)

pub returns : goal.returns
unfolding source_said
returns c = rw (sym c.in_ok-designator.ensures, sym c.in_ok-file.ensures, sym c.in_ok-constant.ensures, sym c.in_ok-constant-2.ensures, sym c.in_ok-frame.ensures) refl
