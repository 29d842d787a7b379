use Rattle.std.proofs.Common.{refl}
use Rattle.std.specs.Prelude.{codes}
use Rattle.cj_kvn.proofs.TextLemmas.{joined_ok}
use Rattle.std.proofs.lemmas.Result.{IfOk-from_err}
use Rattle.cj_status.proofs.AppendLemmas.{appended}
use Rattle.cj_status.proofs.fault_line.push_usage.Goals as goal

pub returns-in_err-extend_from_slice-in-Value : goal.returns-in_err-extend_from_slice-in-Value
returns-in_err-extend_from_slice-in-Value c = IfOk-from_err c.from_residual.result _ c.from_residual.ensures.0

pub returns-in-Words : goal.returns-in-Words
returns-in-Words c =
    let said = codes "usage: Words" in
    rw c.in-Words.is (appended c.extend_from_slice.result c.args.text.now.items said said _ c.extend_from_slice.ensures.items refl)

pub returns-in_ok-extend_from_slice-in-Value : goal.returns-in_ok-extend_from_slice-in-Value
returns-in_ok-extend_from_slice-in-Value c =
    let said = c.extend_from_slice-in-Value-2 in
    rw c.in-Value.is
    (joined_ok said.result c.args.text.now.items _ _ _ _ c.in_ok-extend_from_slice-in-Value.ensures.items
    (appended said.result _ _ _ _ said.ensures.items c.option_name.ensures))
