use Rattle.std.proofs.Common.{◌∙◌, ap, refl, sym}
use Rattle.std.proofs.lemmas.Result.{err_from_is_err_and}
use Rattle.cj_oem.specs.Metadata.{parse_epoch}
use Rattle.cj_oem.specs.NodeRows.{state_said}
use Rattle.cj_oem.proofs.node_row.node_said.Goals as goal

pub returns-in_err-row : goal.returns-in_err-row
unfolding state_said
returns-in_err-row c =
    let p = err_from_is_err_and c.from_residual.result c.from_residual.ensures.1 in
    rw (p.1, p.2) (rw (c.in_err-row.ensures.value) refl)

pub returns-in_err-at : goal.returns-in_err-at
unfolding state_said
returns-in_err-at c =
    let p = err_from_is_err_and c.from_residual-in_err-at.result c.from_residual-in_err-at.ensures.1 in
    rw (p.1, p.2) (rw (c.in_ok-row.ensures.value, sym c.in_ok-row.ensures.texts, ap parse_epoch (sym c.text.ensures.exact) ∙ c.in_err-at.ensures) refl)

pub returns-in_err-place : goal.returns-in_err-place
unfolding state_said
returns-in_err-place c =
    let p = err_from_is_err_and c.from_residual-in_err-place.result c.from_residual-in_err-place.ensures.1 in
    rw (p.1, p.2) (rw (c.in_ok-row.ensures.value, sym c.in_ok-row.ensures.texts, ap parse_epoch (sym c.text.ensures.exact) ∙ c.in_ok-at.ensures, sym c.in_err-place.ensures) refl)

pub returns-in_err-rate : goal.returns-in_err-rate
unfolding state_said
returns-in_err-rate c =
    let p = err_from_is_err_and c.from_residual-in_err-rate.result c.from_residual-in_err-rate.ensures.1 in
    rw (p.1, p.2) (rw (c.in_ok-row.ensures.value, sym c.in_ok-row.ensures.texts, ap parse_epoch (sym c.text.ensures.exact) ∙ c.in_ok-at.ensures, sym c.in_ok-place.ensures, sym c.in_err-rate.ensures) refl)

pub returns-in_err-check_accelerations : goal.returns-in_err-check_accelerations
unfolding state_said
returns-in_err-check_accelerations c =
    let p = err_from_is_err_and c.from_residual-in_err-check_accelerations.result c.from_residual-in_err-check_accelerations.ensures.1 in
    rw (p.1, p.2) (rw (c.in_ok-row.ensures.value, sym c.in_ok-row.ensures.texts, ap parse_epoch (sym c.text.ensures.exact) ∙ c.in_ok-at.ensures, sym c.in_ok-place.ensures, sym c.in_ok-rate.ensures, c.in_err-check_accelerations.ensures) refl)

pub returns-in_err-p : goal.returns-in_err-p
unfolding state_said
returns-in_err-p c =
    let p = err_from_is_err_and c.from_residual-in_err-p.result c.from_residual-in_err-p.ensures.1 in
    rw (p.1, p.2) (rw (c.in_ok-row.ensures.value, sym c.in_ok-row.ensures.texts, ap parse_epoch (sym c.text.ensures.exact) ∙ c.in_ok-at.ensures, sym c.in_ok-place.ensures, sym c.in_ok-rate.ensures, c.in_ok-check_accelerations.ensures, sym c.in_err-p.ensures.value) refl)

pub returns-in_err-v : goal.returns-in_err-v
unfolding state_said
returns-in_err-v c =
    let p = err_from_is_err_and c.from_residual-in_err-v.result c.from_residual-in_err-v.ensures.1 in
    rw (p.1, p.2) (rw (c.in_ok-row.ensures.value, sym c.in_ok-row.ensures.texts, ap parse_epoch (sym c.text.ensures.exact) ∙ c.in_ok-at.ensures, sym c.in_ok-place.ensures, sym c.in_ok-rate.ensures, c.in_ok-check_accelerations.ensures, sym c.in_ok-p.ensures.value, sym c.in_err-v.ensures.value) refl)

pub returns : goal.returns
unfolding state_said
returns c = rw (c.in_ok-row.ensures.value, sym c.in_ok-row.ensures.texts, ap parse_epoch (sym c.text.ensures.exact) ∙ c.in_ok-at.ensures, sym c.in_ok-place.ensures, sym c.in_ok-rate.ensures, c.in_ok-check_accelerations.ensures, sym c.in_ok-p.ensures.value, sym c.in_ok-v.ensures.value) refl
