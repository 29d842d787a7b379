use Rattle.std.proofs.Common.{◌≡◌, ℕ, ◌+◌, ◌++◌, ◌∷◌, [], List, length, take, subst, ap, ◌∙◌, arith, sym}
use Rattle.std.proofs.Math.Seq.{take-length}
use Rattle.std.proofs.lemmas.List.{take_more}
use Rattle.cj_sizes.specs.Primaries.{Holds}
use Rattle.cj_sizes.proofs.PrimaryLemmas.{holds_more}
use Rattle.cj_sizes.proofs.primaries.set_of_texts.Goals as goal

pub loop-text-preserved : goal.loop-text-preserved
loop-text-preserved c =
    let texts = c.args.texts.now in
    let at = c.loop-text.text-index in
    holds_more c.loop-text.set c.insert.new.self _ (take at texts) (take (at + 1) texts) c.loop-text.invariant c.in_ok-insert.ensures.updates
    (take_more texts at _ c.loop-text-test.true ∙ ap (λ (t : List ℕ). take at texts ++ t ∷ []) (sym c.text-item.is ∙ sym c.as_slice.ensures))

pub returns : goal.returns
returns c =
    let all : c.loop-text.text-index ≡ length c.args.texts.now = omega arith in
    subst (λ (texts : List (List ℕ)). Holds c.loop-text.set texts) (ap (λ (k : ℕ). take k c.args.texts.now) all ∙ take-length c.args.texts.now) c.loop-text.invariant
