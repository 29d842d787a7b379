use Rattle.std.proofs.Common.{◌≡◌, ◌++◌}
use Rattle.std.proofs.lemmas.Result.{IfOk-from_err}
use Rattle.std.specs.Fmt.{decimal}
use Rattle.std.specs.Prelude.{codes}
use Rattle.cj_kvn.proofs.TextLemmas.{joined_ok}
use Rattle.cj_status.proofs.AppendLemmas.{told_place}
use Rattle.cj_status.specs.Faults.{cause_rest, cause_text, shown_name}
use Rattle.cj_status.proofs.fault_line.push_refused.Goals as goal

pub returns-in_err-push_name : goal.returns-in_err-push_name
returns-in_err-push_name c = IfOk-from_err c.from_residual.result _ c.from_residual.ensures.0

pub returns-in_err-push_place : goal.returns-in_err-push_place
returns-in_err-push_place c = IfOk-from_err c.from_residual-in_err-push_place.result _ c.from_residual-in_err-push_place.ensures.0

pub returns : goal.returns
returns c =
    let old = c.args.text.now.items in
    let named = c.push_name.new.text.items in
    let placed = c.push_place.new.text.items in
    let cause = cause_text c.args.cause in
    let behind : placed ≡ named ++ (codes ": line " ++ decimal c.args.line ++ codes ": " ++ cause) = rw (← c.cause_name.ensures) c.in_ok-push_place.ensures in
    joined_ok c.push_rest.result old placed c.push_rest.new.text.items _ (cause_rest c.args.cause)
    (told_place old named placed (shown_name c.args.file.now) (codes ": line ") (decimal c.args.line) (codes ": ") cause c.in_ok-push_name.ensures behind) c.push_rest.ensures
