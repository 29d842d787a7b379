use Rattle.std.proofs.Common.{◌++◌, arith, ap, ◌∙◌}
use Rattle.std.proofs.lemmas.Result.{IfOk-from_err}
use Rattle.std.proofs.lemmas.Bool.Decides.{nat_tests}
use Rattle.std.proofs.lemmas.Result.{on_ok_weaker}
use Rattle.cj_oem.proofs.CovarianceTextLemmas.{covariances_some}
use Rattle.cj_oem.proofs.TextLemmas.{joined, joined_ok}
use Rattle.cj_oem.proofs.printing.covariances.push_covariances.Goals as goal

pub returns-clause-text : goal.returns-clause-text
returns-clause-text c =
    let old = c.args.text.now.items in
    on_ok_weaker c.push_line-2.result (λ e. e ∙ ap (λ t. old ++ t) (covariances_some c.args.matrices.now (grind (arith, nat_tests, c.is_empty.ensures))))
    (joined_ok c.push_line-2.result old _ _ _ _ (joined old _ _ _ _ c.in_ok-push_line.ensures.appended c.in_ok-push_matrices.ensures.text) c.push_line-2.ensures.appended)

pub returns-in_err-push_line-clause-text : goal.returns-in_err-push_line-clause-text
returns-in_err-push_line-clause-text c = IfOk-from_err c.from_residual.result _ c.from_residual.ensures.0

pub returns-in_err-push_line-clause-kept : goal.returns-in_err-push_line-clause-kept
returns-in_err-push_line-clause-kept c = IfOk-from_err c.from_residual.result _ c.from_residual.ensures.0

pub returns-in_err-push_matrices-clause-text : goal.returns-in_err-push_matrices-clause-text
returns-in_err-push_matrices-clause-text c = IfOk-from_err c.from_residual-in_err-push_matrices.result _ c.from_residual-in_err-push_matrices.ensures.0

pub returns-in_err-push_matrices-clause-kept : goal.returns-in_err-push_matrices-clause-kept
returns-in_err-push_matrices-clause-kept c = IfOk-from_err c.from_residual-in_err-push_matrices.result _ c.from_residual-in_err-push_matrices.ensures.0
