use Rattle.std.proofs.Common.{◌∙◌, ◌++◌, ◌∷◌, [], List, ℕ, ap}
use Rattle.cj_sizes.proofs.PrimaryLemmas.{holds_more}
use Rattle.cj_sizes.proofs.primaries_draft.PrimariesDraft.with_id.Goals as goal

pub invariant_of-result : goal.invariant_of-result
invariant_of-result c = holds_more c.self.inside.set c.insert.new.self c.args.id.now c.self.inside.ids.items c.push.new.self.items
    c.self.invariant c.in_ok-insert.ensures.updates
    (c.in_ok-push.ensures.items ∙ ap (λ (t : List ℕ). c.self.inside.ids.items ++ t ∷ []) c.in_ok-copy_of.ensures)
