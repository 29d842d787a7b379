use Rattle.std.proofs.Common.{◌≡◌, ◌++◌, refl}
use Rattle.std.specs.Fmt.{decimal}
use Rattle.cj_kvn.proofs.TextLemmas.{joined, joined_ok}
use Rattle.std.proofs.lemmas.Result.{IfOk-from_err}
use Rattle.cj_status.proofs.AppendLemmas.{appended}
use Rattle.cj_status.proofs.fault_line.push_place.Goals as goal

pub returns-in_err-push_count : goal.returns-in_err-push_count
returns-in_err-push_count c = IfOk-from_err c.from_residual.result _ c.from_residual.ensures.0

pub returns-in_err-extend_from_slice : goal.returns-in_err-extend_from_slice
returns-in_err-extend_from_slice c = IfOk-from_err c.from_residual-in_err-extend_from_slice.result _ c.from_residual-in_err-extend_from_slice.ensures.0

pub returns : goal.returns
returns c =
    let old = c.args.text.now.items in
    let counted = c.args.words.now ++ decimal c.args.line in
    let said = c.extend_from_slice-2 in
    let first : c.push_count.new.text.items ≡ old ++ counted = rw (← c.from.ensures) c.in_ok-push_count.ensures in
    let behind = joined old c.push_count.new.text.items _ counted _ first c.in_ok-extend_from_slice.ensures.items in
    joined_ok said.result old _ _ _ _ behind
    (appended said.result c.extend_from_slice.new.self.items c.args.cause.now c.args.cause.now _ said.ensures.items refl)
