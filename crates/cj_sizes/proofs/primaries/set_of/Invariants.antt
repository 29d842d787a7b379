use Rattle.std.proofs.Common.{map, take}
use Rattle.cj_sizes.specs.Primaries.{Holds}
use Rattle.cj_sizes.proofs.PrimaryLemmas.{text_of}
use Rattle.cj_sizes.proofs.primaries.set_of.Given as goal

abbrev pub invariant-loop-id : goal.invariant-loop-id
invariant-loop-id l = Holds l.set (map text_of (take l.id-index l.ids))
