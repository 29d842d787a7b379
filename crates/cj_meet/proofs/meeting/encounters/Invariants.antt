use Rattle.std.proofs.Common.{take, All, ◌≤◌}
use Rattle.cj_case.specs.Leaves.{plain_leaves}
use Rattle.cj_meet.specs.Encounters.{AreEncounters}
use Rattle.cj_meet.proofs.meeting.encounters.Given as goal

abbrev pub invariant-loop-at : goal.invariant-loop-at
invariant-loop-at l = record {
  found : AreEncounters (take l.at (plain_leaves l.leaves)) l.found.items;
  within : All (λ e. e.past ≤ l.at) l.found.items;
}
