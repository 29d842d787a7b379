use Rattle.std.proofs.Common.{List, All}
use Rattle.cj_case.specs.Leaves.{PlainLeaf}
use Rattle.cj_meet.specs.Encounters.{Describes}
use Rattle.cj_encounter_tests.proofs.approaches.again.Given as goal

abbrev pub invariant-loop-encounter : goal.invariant-loop-encounter
invariant-loop-encounter l = (leaves : List PlainLeaf) → All (Describes leaves) l.some → All (Describes leaves) l.many.items
