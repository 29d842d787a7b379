use Rattle.std.proofs.Common.{◌∙◌, arith, refl, sym}
use Rattle.cj_oem.specs.Metadata.{key_of}
use Rattle.cj_oem.proofs.KeyLemmas.{key_here, key_later}
use Rattle.cj_oem.proofs.key.key_of.Goals as goal

pub loop-word-init : goal.loop-word-init
unfolding key_of
loop-word-init c = refl

pub returns-then-eq : goal.returns-then-eq
returns-then-eq c =
    sym (c.loop-word.invariant ∙ key_here _ c.loop-word.word-index _ c.args.text.now (omega (arith, c.loop-word-test.true)) (sym c.eq.ensures ∙ c.if-eq.true))

pub loop-word-preserved : goal.loop-word-preserved
loop-word-preserved c =
    c.loop-word.invariant ∙ key_later _ c.loop-word.word-index _ c.args.text.now (omega (arith, c.loop-word-test.true)) (sym c.eq.ensures ∙ c.if-eq.false)
