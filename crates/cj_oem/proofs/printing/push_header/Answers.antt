use Rattle.std.proofs.lemmas.Result.{IfOk-from_err}
use Rattle.cj_oem.specs.Canonical.{header_text}
use Rattle.cj_oem.proofs.TextLemmas.{joined, joined_ok}
use Rattle.cj_oem.proofs.printing.push_header.Goals as goal

pub returns : goal.returns
unfolding header_text
returns c =
    let old = c.args.text.now.items in
    joined_ok c.push_entry-3.result old _ _ _ _ (joined old _ _ _ _ c.in_ok-push_entry.ensures.appended c.in_ok-push_entry-2.ensures.appended) c.push_entry-3.ensures.appended

pub returns-in_err-push_entry : goal.returns-in_err-push_entry
returns-in_err-push_entry c = IfOk-from_err c.from_residual.result _ c.from_residual.ensures.0

pub returns-in_err-push_entry-2 : goal.returns-in_err-push_entry-2
returns-in_err-push_entry-2 c = IfOk-from_err c.from_residual-in_err-push_entry-2.result _ c.from_residual-in_err-push_entry-2.ensures.0
