use Rattle.std.proofs.Common.{◌∙◌, ap}
use Rattle.std.proofs.lemmas.Result.{IfOk-from_err}
use Rattle.cj_epoch.specs.Written.{epoch_of}
use Rattle.cj_kvn.proofs.TextLemmas.{joined_ok}
use Rattle.cj_status.proofs.AppendLemmas.{appended, nearest_tick}
use Rattle.cj_status.proofs.fault_line.push_rest.Goals as goal

pub returns-in_err-push-in-Uncovered : goal.returns-in_err-push-in-Uncovered
returns-in_err-push-in-Uncovered c = IfOk-from_err c.from_residual.result _ c.from_residual.ensures.0

pub returns-in_ok-push-in-Uncovered : goal.returns-in_ok-push-in-Uncovered
returns-in_ok-push-in-Uncovered c =
    let said = c.extend_from_slice in
    let near = c.nearest.ensures in
    rw c.in-Uncovered.is
    (joined_ok said.result c.args.text.now.items _ _ _ _ c.in_ok-push-in-Uncovered.ensures.items
    (appended said.result _ _ _ _ said.ensures.items (c.epoch_text.ensures.exact ∙ ap epoch_of (nearest_tick c.in-Uncovered.micros c.nearest.result.micros near.same near.early near.late))))
