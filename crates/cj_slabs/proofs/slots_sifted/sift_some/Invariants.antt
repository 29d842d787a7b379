use Rattle.std.proofs.Common.{◌≡◌, ◌≤◌, take}
use Rattle.cj_case.specs.Problems.{plain_problem}
use Rattle.cj_slabs.specs.Slabs.{IsSlabOf}
use Rattle.cj_slabs.proofs.slots_sifted.sift_some.Given as goal

-- what is found in the slots so far
abbrev pub invariant-loop-slot : goal.invariant-loop-slot
invariant-loop-slot g l = record {
  cuts : l.scratch.cuts ≡ l.problem;
  room : l.slab.counts.leaves ≤ l.limits.leaves;
  found : IsSlabOf (plain_problem l.problem) (take l.slot-index l.slots) l.slab;
}
