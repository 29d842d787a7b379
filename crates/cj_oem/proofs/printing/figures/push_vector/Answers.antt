use Rattle.std.proofs.Common.{◌≡◌, ◌∙◌, ◌++◌, ap, arith, w64, to_z, of_z}
use Rattle.std.proofs.lemmas.Result.{IfOk-from_err}
use Rattle.std.proofs.lemmas.Int.{ints}
use Rattle.std.proofs.lemmas.Result.{on_ok_weaker}
use Rattle.cj_oem.specs.Canonical.{figure_text}
use Rattle.cj_oem.proofs.TextLemmas.{joined, joined_ok}
use Rattle.cj_oem.proofs.printing.figures.push_vector.Goals as goal

pub returns : goal.returns
returns c =
    let v = c.args.vector in
    let old = c.args.text.now.items in
    let whole_x : to_z w64 (of_z w64 v.x) ≡ v.x = omega (arith, ints) in
    let whole_y : to_z w64 (of_z w64 v.y) ≡ v.y = omega (arith, ints) in
    let whole_z : to_z w64 (of_z w64 v.z) ≡ v.z = omega (arith, ints) in
    let x = c.in_ok-push_figure.ensures ∙ ap (λ z. old ++ figure_text z) whole_x in
    let y = c.in_ok-push_figure-2.ensures ∙ ap (λ z. c.push.new.self.items ++ figure_text z) whole_y in
    let z = on_ok_weaker c.push_figure-3.result (λ e. e ∙ ap (λ z. c.push-2.new.self.items ++ figure_text z) whole_z) c.push_figure-3.ensures in
    joined_ok c.push_figure-3.result old _ _ _ _ (joined old _ _ _ _ (joined old _ _ _ _ (joined old _ _ _ _ x c.in_ok-push.ensures.items) y) c.in_ok-push-2.ensures.items) z

pub returns-in_err-push_figure : goal.returns-in_err-push_figure
returns-in_err-push_figure c = IfOk-from_err c.from_residual.result _ c.from_residual.ensures.0

pub returns-in_err-push : goal.returns-in_err-push
returns-in_err-push c = IfOk-from_err c.from_residual-in_err-push.result _ c.from_residual-in_err-push.ensures.0

pub returns-in_err-push_figure-2 : goal.returns-in_err-push_figure-2
returns-in_err-push_figure-2 c = IfOk-from_err c.from_residual-in_err-push_figure-2.result _ c.from_residual-in_err-push_figure-2.ensures.0

pub returns-in_err-push-2 : goal.returns-in_err-push-2
returns-in_err-push-2 c = IfOk-from_err c.from_residual-in_err-push-2.result _ c.from_residual-in_err-push-2.ensures.0
