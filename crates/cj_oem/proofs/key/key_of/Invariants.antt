use Rattle.std.proofs.Common.{◌≡◌, drop}
use Rattle.cj_oem.specs.Metadata as spec
use Rattle.cj_oem.proofs.KeyLemmas.{key_in}
use Rattle.cj_oem.proofs.key.key_of.Given as goal

abbrev pub invariant-loop-word : goal.invariant-loop-word
invariant-loop-word l = spec.key_of l.text ≡ key_in (drop l.word-index l.word-items) l.text
