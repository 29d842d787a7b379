use Rattle.std.proofs.Common.{take}
use Rattle.cj_case.specs.Problems.{plain_problem}
use Rattle.cj_case.specs.Leaves.{plain_leaves}
use Rattle.cj_meet.specs.ApproachLists.{AreClosest}
use Rattle.cj_meet.proofs.approach_list.search_in_turn.Given as goal

abbrev pub invariant-loop-encounter : goal.invariant-loop-encounter
invariant-loop-encounter g l = AreClosest (plain_problem l.problem) (plain_leaves l.leaves) (take l.encounter-index l.encounters) l.found.items
