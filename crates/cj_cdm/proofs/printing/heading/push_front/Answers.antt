use Rattle.std.proofs.Common.{◌≡◌, ◌++◌, ap, ◌∙◌, ℤ, rules, to_z, of_z}
use Rattle.std.specs.Prelude.{codes, pos}
use Rattle.std.proofs.lemmas.Int.{to_z-of_z}
use Rattle.std.proofs.lemmas.Result.{on_ok_weaker}
use mir.Syntax.{w128}
use Rattle.cj_kvn.specs.Entries.{entry}
use Rattle.cj_cdm.specs.Texts.{front_text, metres, quantity}
use Rattle.cj_cdm.proofs.TextLemmas.{joined, joined_ok}
use Rattle.cj_cdm.proofs.printing.heading.push_front.Goals as goal

pub returns : goal.returns
unfolding front_text
returns c =
    let old = c.args.text.now.items in
    let read : to_z w128 (of_z w128 c.from.result) ≡ pos c.args.fields.now.miss = to_z-of_z w128 c.from.result (search rules) ∙ c.from.ensures in
    let created = c.in_ok-push_entry-2.ensures.appended ∙ ap (λ v. c.push_entry.new.text.items ++ entry (codes "CREATION_DATE") v) c.epoch_text.ensures.exact in
    let tca = c.in_ok-push_entry-4.ensures.appended ∙ ap (λ v. c.push_id.new.text.items ++ entry (codes "TCA") v) c.epoch_text-2.ensures.exact in
    let miss = on_ok_weaker c.push_metres.result (λ e. e ∙ ap (λ (z : ℤ). c.push_entry-4.new.text.items ++ quantity (codes "MISS_DISTANCE") (metres z) (codes "m")) read) c.push_metres.ensures in
    let front = joined old _ _ _ _ (joined old _ _ _ _ c.in_ok-push_entry.ensures.appended created) c.in_ok-push_entry-3.ensures.appended in
    let stamp = joined old _ _ _ _ front c.in_ok-push_id.ensures in
    joined_ok c.push_metres.result old _ _ _ _ (joined old _ _ _ _ stamp tca) miss
