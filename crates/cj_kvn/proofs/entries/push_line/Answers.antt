use Rattle.std.proofs.Common.{◌∙◌, ap, append_assoc, List, ℕ, [], ◌∷◌, ◌++◌}
use Rattle.cj_kvn.proofs.entries.push_line.Goals as goal

pub returns : goal.returns
returns c = record {
  appended = c.in_ok-push.ensures.items
      ∙ ap (λ (text : List ℕ). text ++ 10 ∷ []) c.in_ok-extend_from_slice.ensures.items
      ∙ append_assoc c.args.text.now.items c.args.content.now (10 ∷ []);
}
