use Rattle.std.proofs.Common.{◌≡◌, take}
use Rattle.cj_io.specs.Parts.{joined}
use Rattle.cj_io.proofs.parts.join_parts.Given as goal

abbrev pub invariant-loop-part : goal.invariant-loop-part
invariant-loop-part l = l.bytes.items ≡ joined (take l.part-index l.parts)
