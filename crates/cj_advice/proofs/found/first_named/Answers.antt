use Rattle.std.proofs.Common.{◌∙◌, List, ℕ, ap, arith, refl, sym}
use Rattle.std.specs.Str.{bytes_eq}
use Rattle.cj_advice.specs.Causes.{cause_named, every, word_of}
use Rattle.cj_advice.proofs.FindLemmas.{find_here, find_later}
use Rattle.cj_advice.proofs.found.first_named.Goals as goal

pub loop-cause-init : goal.loop-cause-init
unfolding cause_named every
loop-cause-init c = refl

pub returns-then-eq : goal.returns-then-eq
returns-then-eq c =
    sym (c.loop-cause.invariant
    ∙ find_here (λ cause. bytes_eq (word_of cause) c.args.word.now) _ c.loop-cause.cause-index _ (omega (arith, c.loop-cause-test.true))
    (ap (λ (w : List ℕ). bytes_eq w c.args.word.now) (sym c.cause_word.ensures) ∙ sym c.eq.ensures ∙ c.if-eq.true))

pub loop-cause-preserved : goal.loop-cause-preserved
loop-cause-preserved c =
    c.loop-cause.invariant
    ∙ find_later (λ cause. bytes_eq (word_of cause) c.args.word.now) _ c.loop-cause.cause-index _ (omega (arith, c.loop-cause-test.true))
    (ap (λ (w : List ℕ). bytes_eq w c.args.word.now) (sym c.cause_word.ensures) ∙ sym c.eq.ensures ∙ c.if-eq.false)
