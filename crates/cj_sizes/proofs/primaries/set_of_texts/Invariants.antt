use Rattle.std.proofs.Common.{take}
use Rattle.cj_sizes.specs.Primaries.{Holds}
use Rattle.cj_sizes.proofs.primaries.set_of_texts.Given as goal

abbrev pub invariant-loop-text : goal.invariant-loop-text
invariant-loop-text l = Holds l.set (take l.text-index l.texts)
