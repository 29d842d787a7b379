use Rattle.std.proofs.Common.{◌++◌, ap, ◌∙◌}
use Rattle.std.proofs.lemmas.Result.{IfOk-from_err}
use Rattle.std.specs.Prelude.{codes}
use Rattle.cj_kvn.specs.Entries.{entry}
use Rattle.cj_oem.specs.Canonical.{metadata_text}
use Rattle.cj_oem.proofs.TextLemmas.{joined, joined_ok}
use Rattle.cj_oem.proofs.printing.metadata.push_metadata.Goals as goal

pub returns : goal.returns
unfolding metadata_text
returns c =
    let old = c.args.text.now.items in
    let name = c.in_ok-push_entry.ensures.appended ∙ ap (λ v. c.push_line.new.text.items ++ entry (codes "OBJECT_NAME") v) c.as_slice.ensures in
    let id = c.in_ok-push_entry-2.ensures.appended ∙ ap (λ v. c.push_entry.new.text.items ++ entry (codes "OBJECT_ID") v) c.as_slice-2.ensures in
    let frame = c.in_ok-push_entry-4.ensures.appended ∙ ap (λ v. c.push_entry-3.new.text.items ++ entry (codes "REF_FRAME") v) c.frame_text.ensures.name in
    let start = c.in_ok-push_entry-6.ensures.appended ∙ ap (λ v. c.push_entry-5.new.text.items ++ entry (codes "START_TIME") v) c.epoch_text.ensures.exact in
    let stop = c.in_ok-push_entry-7.ensures.appended ∙ ap (λ v. c.push_entry-6.new.text.items ++ entry (codes "STOP_TIME") v) c.epoch_text-2.ensures.exact in
    let object = joined old _ _ _ _ (joined old _ _ _ _ c.in_ok-push_line.ensures.appended name) id in
    let frames = joined old _ _ _ _ (joined old _ _ _ _ (joined old _ _ _ _ object c.in_ok-push_entry-3.ensures.appended) frame) c.in_ok-push_entry-5.ensures.appended in
    let times = joined old _ _ _ _ (joined old _ _ _ _ frames start) stop in
    let cubic = joined old _ _ _ _ (joined old _ _ _ _ times c.in_ok-push_entry-8.ensures.appended) c.in_ok-push_entry-9.ensures.appended in
    joined_ok c.push_line-2.result old _ _ _ _ cubic c.push_line-2.ensures.appended

pub returns-in_err-push_line : goal.returns-in_err-push_line
returns-in_err-push_line c = IfOk-from_err c.from_residual.result _ c.from_residual.ensures.0

pub returns-in_err-push_entry : goal.returns-in_err-push_entry
returns-in_err-push_entry c = IfOk-from_err c.from_residual-in_err-push_entry.result _ c.from_residual-in_err-push_entry.ensures.0

pub returns-in_err-push_entry-2 : goal.returns-in_err-push_entry-2
returns-in_err-push_entry-2 c = IfOk-from_err c.from_residual-in_err-push_entry-2.result _ c.from_residual-in_err-push_entry-2.ensures.0

pub returns-in_err-push_entry-3 : goal.returns-in_err-push_entry-3
returns-in_err-push_entry-3 c = IfOk-from_err c.from_residual-in_err-push_entry-3.result _ c.from_residual-in_err-push_entry-3.ensures.0

pub returns-in_err-push_entry-4 : goal.returns-in_err-push_entry-4
returns-in_err-push_entry-4 c = IfOk-from_err c.from_residual-in_err-push_entry-4.result _ c.from_residual-in_err-push_entry-4.ensures.0

pub returns-in_err-push_entry-5 : goal.returns-in_err-push_entry-5
returns-in_err-push_entry-5 c = IfOk-from_err c.from_residual-in_err-push_entry-5.result _ c.from_residual-in_err-push_entry-5.ensures.0

pub returns-in_err-push_entry-6 : goal.returns-in_err-push_entry-6
returns-in_err-push_entry-6 c = IfOk-from_err c.from_residual-in_err-push_entry-6.result _ c.from_residual-in_err-push_entry-6.ensures.0

pub returns-in_err-push_entry-7 : goal.returns-in_err-push_entry-7
returns-in_err-push_entry-7 c = IfOk-from_err c.from_residual-in_err-push_entry-7.result _ c.from_residual-in_err-push_entry-7.ensures.0

pub returns-in_err-push_entry-8 : goal.returns-in_err-push_entry-8
returns-in_err-push_entry-8 c = IfOk-from_err c.from_residual-in_err-push_entry-8.result _ c.from_residual-in_err-push_entry-8.ensures.0

pub returns-in_err-push_entry-9 : goal.returns-in_err-push_entry-9
returns-in_err-push_entry-9 c = IfOk-from_err c.from_residual-in_err-push_entry-9.result _ c.from_residual-in_err-push_entry-9.ensures.0
