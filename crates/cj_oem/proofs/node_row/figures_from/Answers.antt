use Rattle.std.proofs.Common.{◌∙◌, ap, refl, sym}
use Rattle.std.proofs.lemmas.Result.{err_from_is_err_and}
use Rattle.cj_oem.specs.NodeRows.{figures_in, parse_figure}
use Rattle.cj_oem.proofs.node_row.figures_from.Goals as goal

pub returns-in_err-x : goal.returns-in_err-x
unfolding figures_in
returns-in_err-x c =
    let p = err_from_is_err_and c.from_residual.result c.from_residual.ensures.1 in
    let x = c.in_err-x.ensures ∙ ap parse_figure c.text.ensures.exact in
    rw (p.1, p.2) (rw (sym x) refl)

pub returns-in_err-y : goal.returns-in_err-y
unfolding figures_in
returns-in_err-y c =
    let p = err_from_is_err_and c.from_residual-in_err-y.result c.from_residual-in_err-y.ensures.1 in
    let x = c.in_ok-x.ensures ∙ ap parse_figure c.text.ensures.exact in
    let y = c.in_err-y.ensures ∙ ap parse_figure c.text-2.ensures.exact in
    rw (p.1, p.2) (rw (sym x, sym y) refl)

pub returns-in_err-z : goal.returns-in_err-z
unfolding figures_in
returns-in_err-z c =
    let p = err_from_is_err_and c.from_residual-in_err-z.result c.from_residual-in_err-z.ensures.1 in
    let x = c.in_ok-x.ensures ∙ ap parse_figure c.text.ensures.exact in
    let y = c.in_ok-y.ensures ∙ ap parse_figure c.text-2.ensures.exact in
    let z = c.in_err-z.ensures ∙ ap parse_figure c.text-3.ensures.exact in
    rw (p.1, p.2) (rw (sym x, sym y, sym z) refl)

pub returns : goal.returns
unfolding figures_in
returns c =
    let x = c.in_ok-x.ensures ∙ ap parse_figure c.text.ensures.exact in
    let y = c.in_ok-y.ensures ∙ ap parse_figure c.text-2.ensures.exact in
    let z = c.in_ok-z.ensures ∙ ap parse_figure c.text-3.ensures.exact in
    rw (sym x, sym y, sym z) refl
