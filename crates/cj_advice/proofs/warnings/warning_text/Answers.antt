use Rattle.std.proofs.Common.{◌≡◌, ◌∙◌, ap, subst, List, ℕ, ◌++◌}
use Rattle.std.specs.Prelude.{codes}
use Rattle.cj_advice.specs.Warnings.{IsAppended}
use Rattle.cj_advice.proofs.WarningLemmas.{warned}
use Rattle.cj_advice.proofs.warnings.warning_text.Goals as goal

pub returns : goal.returns
returns c =
    let words = c.words_of.result.now in
    let text = c.push_tally.new.text.items in
    let said : c.extend_from_slice.new.self.items ≡ codes "conj: warning: " ++ words =
    c.in_ok-extend_from_slice.ensures.items ∙ ap (λ (t : List ℕ). t ++ words) c.in_ok-text.ensures.items in
    warned words text c.push.new.self.items c.words_of.ensures
    (subst (λ (t : List ℕ). IsAppended t text) said c.in_ok-push_tally.ensures) c.in_ok-push.ensures.items
