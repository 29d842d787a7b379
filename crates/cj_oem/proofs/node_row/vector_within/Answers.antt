use Rattle.std.proofs.Common.{refl, sym}
use Rattle.std.proofs.lemmas.Result.{IfOk-from_err, err_from_is_err_and}
use Rattle.cj_oem.proofs.node_row.vector_within.Goals as goal

pub returns-in_err-x-clause-value : goal.returns-in_err-x-clause-value
returns-in_err-x-clause-value c =
    let p = err_from_is_err_and c.from_residual.result c.from_residual.ensures.1 in rw (p.1, p.2) (rw (sym c.in_err-x.ensures.value) refl)

pub returns-in_err-x-clause-within : goal.returns-in_err-x-clause-within
returns-in_err-x-clause-within c = IfOk-from_err c.from_residual.result _ c.from_residual.ensures.0

pub returns-in_err-y-clause-value : goal.returns-in_err-y-clause-value
returns-in_err-y-clause-value c =
    let p = err_from_is_err_and c.from_residual-in_err-y.result c.from_residual-in_err-y.ensures.1 in rw (p.1, p.2)
    (rw (sym c.in_ok-x.ensures.value, sym c.in_err-y.ensures.value) refl)

pub returns-in_err-y-clause-within : goal.returns-in_err-y-clause-within
returns-in_err-y-clause-within c = IfOk-from_err c.from_residual-in_err-y.result _ c.from_residual-in_err-y.ensures.0

pub returns-in_err-z-clause-value : goal.returns-in_err-z-clause-value
returns-in_err-z-clause-value c =
    let p = err_from_is_err_and c.from_residual-in_err-z.result c.from_residual-in_err-z.ensures.1 in rw (p.1, p.2)
    (rw (sym c.in_ok-x.ensures.value, sym c.in_ok-y.ensures.value, sym c.in_err-z.ensures.value) refl)

pub returns-in_err-z-clause-within : goal.returns-in_err-z-clause-within
returns-in_err-z-clause-within c = IfOk-from_err c.from_residual-in_err-z.result _ c.from_residual-in_err-z.ensures.0
