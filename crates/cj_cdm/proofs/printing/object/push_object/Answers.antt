use Rattle.std.proofs.Common.{◌++◌, ap, ◌∙◌}
use Rattle.std.specs.Prelude.{codes}
use Rattle.std.proofs.lemmas.Result.{on_ok_weaker}
use Rattle.cj_cdm.specs.Designators.{designator_of}
use Rattle.cj_kvn.specs.Entries.{entry}
use Rattle.cj_cdm.specs.Texts.{object_text}
use Rattle.cj_cdm.proofs.TextLemmas.{joined, joined_ok}
use Rattle.cj_cdm.proofs.printing.object.push_object.Goals as goal

pub returns : goal.returns
unfolding object_text
returns c =
    let old = c.args.text.now.items in
    let id = c.in_ok-push_entry-2.ensures.appended ∙ ap (λ v. c.push_entry.new.text.items ++ entry (codes "OBJECT_DESIGNATOR") v) c.as_slice-id.ensures in
    let name = c.in_ok-push_entry-4.ensures.appended ∙ ap (λ v. c.push_entry-3.new.text.items ++ entry (codes "OBJECT_NAME") v) c.as_slice.ensures in
    let international = c.designator_of.ensures ∙ ap designator_of c.as_slice-id.ensures in
    let designator = c.in_ok-push_entry-5.ensures.appended ∙ ap (λ v. c.push_entry-4.new.text.items ++ entry (codes "INTERNATIONAL_DESIGNATOR") v) international in
    let file = c.in_ok-push_entry-6.ensures.appended ∙ ap (λ v. c.push_entry-5.new.text.items ++ entry (codes "EPHEMERIS_NAME") v) c.as_slice-2.ensures in
    let frame = on_ok_weaker c.push_entry-9.result (λ e. e ∙ ap (λ v. c.push_entry-8.new.text.items ++ entry (codes "REF_FRAME") v) c.frame_text.ensures.name) c.push_entry-9.ensures.appended in
    let catalog = joined old _ _ _ _ (joined old _ _ _ _ c.in_ok-push_entry.ensures.appended id) c.in_ok-push_entry-3.ensures.appended in
    let names = joined old _ _ _ _ (joined old _ _ _ _ catalog name) designator in
    let files = joined old _ _ _ _ (joined old _ _ _ _ names file) c.in_ok-push_entry-7.ensures.appended in
    joined_ok c.push_entry-9.result old _ _ _ _ (joined old _ _ _ _ files c.in_ok-push_entry-8.ensures.appended) frame
