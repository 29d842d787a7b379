use Rattle.std.proofs.Common.{◌++◌, ◌∙◌, List, ap, ℕ}
use Rattle.cj_cdm.proofs.TextLemmas.{joined}
use Rattle.cj_cdm.proofs.printing.heading.push_id.Goals as goal

pub returns : goal.returns
returns c =
    let old = c.args.text.now.items in
    let originator = joined old _ _ _ _ c.in_ok-extend_from_slice.ensures.items c.in_ok-extend_from_slice-2.ensures.items in
    let figures = c.in_ok-extend_from_slice-3.ensures.items ∙ ap (λ (v : List ℕ). c.push.new.self.items ++ v) (c.deref.ensures.0 ∙ c.number_text.ensures) in
    let number = joined old _ _ _ _ (joined old _ _ _ _ originator c.in_ok-push.ensures.items) figures in
    joined old _ _ _ _ number c.in_ok-push-2.ensures.items
