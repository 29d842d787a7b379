use Rattle.std.proofs.Common.{◌++◌, ap, ◌∙◌}
use Rattle.std.specs.Prelude.{codes}
use Rattle.std.proofs.lemmas.Result.{IfOk-from_err}
use Rattle.cj_kvn.specs.Entries.{entry}
use Rattle.cj_oem.specs.Canonical.{covariance_text}
use Rattle.cj_oem.proofs.TextLemmas.{joined, joined_ok}
use Rattle.cj_oem.proofs.printing.covariances.push_matrix.Goals as goal

pub returns-clause-text : goal.returns-clause-text
unfolding covariance_text
returns-clause-text c =
    let old = c.args.text.now.items in
    let epoch = c.in_ok-push_entry.ensures.appended ∙ ap (λ v. old ++ entry (codes "EPOCH") v) c.epoch_text.ensures.exact in
    let marks = joined old _ _ _ _ epoch c.in_ok-push_entry-2.ensures.appended in
    let two = joined old _ _ _ _ (joined old _ _ _ _ marks c.in_ok-push_row.ensures) c.in_ok-push_row-2.ensures in
    let four = joined old _ _ _ _ (joined old _ _ _ _ two c.in_ok-push_row-3.ensures) c.in_ok-push_row-4.ensures in
    joined_ok c.push_row-6.result old _ _ _ _ (joined old _ _ _ _ four c.in_ok-push_row-5.ensures) c.push_row-6.ensures

pub returns-clause-kept : goal.returns-clause-kept
returns-clause-kept c = c.args.matrix.now.whole

pub returns-in_err-push_entry-clause-text : goal.returns-in_err-push_entry-clause-text
returns-in_err-push_entry-clause-text c = IfOk-from_err c.from_residual.result _ c.from_residual.ensures.0

pub returns-in_err-push_entry-clause-kept : goal.returns-in_err-push_entry-clause-kept
returns-in_err-push_entry-clause-kept c = c.args.matrix.now.whole

pub returns-in_err-push_entry-2-clause-text : goal.returns-in_err-push_entry-2-clause-text
returns-in_err-push_entry-2-clause-text c = IfOk-from_err c.from_residual-in_err-push_entry-2.result _ c.from_residual-in_err-push_entry-2.ensures.0

pub returns-in_err-push_entry-2-clause-kept : goal.returns-in_err-push_entry-2-clause-kept
returns-in_err-push_entry-2-clause-kept c = c.args.matrix.now.whole

pub returns-in_err-push_row-clause-text : goal.returns-in_err-push_row-clause-text
returns-in_err-push_row-clause-text c = IfOk-from_err c.from_residual-in_err-push_row.result _ c.from_residual-in_err-push_row.ensures.0

pub returns-in_err-push_row-clause-kept : goal.returns-in_err-push_row-clause-kept
returns-in_err-push_row-clause-kept c = c.args.matrix.now.whole

pub returns-in_err-push_row-2-clause-text : goal.returns-in_err-push_row-2-clause-text
returns-in_err-push_row-2-clause-text c = IfOk-from_err c.from_residual-in_err-push_row-2.result _ c.from_residual-in_err-push_row-2.ensures.0

pub returns-in_err-push_row-2-clause-kept : goal.returns-in_err-push_row-2-clause-kept
returns-in_err-push_row-2-clause-kept c = c.args.matrix.now.whole

pub returns-in_err-push_row-3-clause-text : goal.returns-in_err-push_row-3-clause-text
returns-in_err-push_row-3-clause-text c = IfOk-from_err c.from_residual-in_err-push_row-3.result _ c.from_residual-in_err-push_row-3.ensures.0

pub returns-in_err-push_row-3-clause-kept : goal.returns-in_err-push_row-3-clause-kept
returns-in_err-push_row-3-clause-kept c = c.args.matrix.now.whole

pub returns-in_err-push_row-4-clause-text : goal.returns-in_err-push_row-4-clause-text
returns-in_err-push_row-4-clause-text c = IfOk-from_err c.from_residual-in_err-push_row-4.result _ c.from_residual-in_err-push_row-4.ensures.0

pub returns-in_err-push_row-4-clause-kept : goal.returns-in_err-push_row-4-clause-kept
returns-in_err-push_row-4-clause-kept c = c.args.matrix.now.whole

pub returns-in_err-push_row-5-clause-text : goal.returns-in_err-push_row-5-clause-text
returns-in_err-push_row-5-clause-text c = IfOk-from_err c.from_residual-in_err-push_row-5.result _ c.from_residual-in_err-push_row-5.ensures.0

pub returns-in_err-push_row-5-clause-kept : goal.returns-in_err-push_row-5-clause-kept
returns-in_err-push_row-5-clause-kept c = c.args.matrix.now.whole
