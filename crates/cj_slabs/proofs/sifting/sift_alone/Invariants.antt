use Rattle.std.proofs.Common.{◌≤◌, take}
use Rattle.cj_case.specs.Problems.{plain_problem}
use Rattle.cj_slabs.specs.Slabs.{AreSoFar, leaves_so_far}
use Rattle.cj_slabs.proofs.sifting.sift_alone.Given as goal

-- what is found in the slots so far
abbrev pub invariant-loop-slot : goal.invariant-loop-slot
invariant-loop-slot g l = record {
  found : AreSoFar l.limits (plain_problem l.problem) (take l.slot-index l.slots) l.so_far;
  few : leaves_so_far l.so_far ≤ l.limits.leaves;
}
