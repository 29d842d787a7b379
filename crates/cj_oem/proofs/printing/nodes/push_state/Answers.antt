use Rattle.std.proofs.Common.{◌++◌, ◌∙◌, ap}
use Rattle.std.proofs.lemmas.Result.{IfOk-from_err}
use Rattle.cj_oem.specs.Canonical.{row_text}
use Rattle.cj_oem.proofs.TextLemmas.{joined}
use Rattle.cj_oem.proofs.printing.nodes.push_state.Goals as goal

pub returns : goal.returns
unfolding row_text
returns c =
    let old = c.args.text.now.items in
    let at = c.in_ok-extend_from_slice.ensures.items ∙ ap (λ t. old ++ t) c.epoch_text.ensures.exact in
    let place = joined old _ _ _ _ (joined old _ _ _ _ at c.in_ok-push.ensures.items) c.in_ok-push_vector.ensures in
    let rate = joined old _ _ _ _ (joined old _ _ _ _ place c.in_ok-push-2.ensures.items) c.in_ok-push_vector-2.ensures in
    joined old _ _ _ _ rate c.in_ok-push-3.ensures.items

pub returns-in_err-extend_from_slice : goal.returns-in_err-extend_from_slice
returns-in_err-extend_from_slice c = IfOk-from_err c.from_residual.result _ c.from_residual.ensures.0

pub returns-in_err-push : goal.returns-in_err-push
returns-in_err-push c = IfOk-from_err c.from_residual-in_err-push.result _ c.from_residual-in_err-push.ensures.0

pub returns-in_err-push_vector : goal.returns-in_err-push_vector
returns-in_err-push_vector c = IfOk-from_err c.from_residual-in_err-push_vector.result _ c.from_residual-in_err-push_vector.ensures.0

pub returns-in_err-push-2 : goal.returns-in_err-push-2
returns-in_err-push-2 c = IfOk-from_err c.from_residual-in_err-push-2.result _ c.from_residual-in_err-push-2.ensures.0

pub returns-in_err-push_vector-2 : goal.returns-in_err-push_vector-2
returns-in_err-push_vector-2 c = IfOk-from_err c.from_residual-in_err-push_vector-2.result _ c.from_residual-in_err-push_vector-2.ensures.0

pub returns-in_err-push-3 : goal.returns-in_err-push-3
returns-in_err-push-3 c = IfOk-from_err c.from_residual-in_err-push-3.result _ c.from_residual-in_err-push-3.ensures.0
