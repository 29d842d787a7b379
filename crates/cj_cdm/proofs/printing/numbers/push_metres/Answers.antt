use Rattle.std.proofs.Common.{◌≡◌, List, ◌++◌, ap, ◌∙◌, ℕ, rules, to_z, of_z}
use Rattle.std.proofs.lemmas.Int.{to_z-of_z}
use mir.Syntax.{w128}
use Rattle.cj_cdm.specs.Texts.{metres}
use Rattle.cj_cdm.proofs.TextLemmas.{quantity_ok}
use Rattle.cj_cdm.proofs.printing.numbers.push_metres.Goals as goal

pub returns : goal.returns
returns c =
    let read : to_z w128 (of_z w128 c.args.nm) ≡ c.args.nm = to_z-of_z w128 c.args.nm (search rules) in
    let front = c.push_front.new.text.items in
    quantity_ok c.push_unit.result c.args.text.now.items front c.extend_from_slice.new.self.items c.push_unit.new.text.items c.args.key.now (metres c.args.nm) c.args.unit.now
    c.in_ok-push_front.ensures (c.in_ok-extend_from_slice.ensures.items ∙ ap (λ (t : List ℕ). front ++ t) (c.deref.ensures.0 ∙ c.fixed_text.ensures ∙ ap metres read)) c.push_unit.ensures
