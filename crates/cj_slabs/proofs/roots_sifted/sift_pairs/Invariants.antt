use Rattle.std.proofs.Common.{◌≡◌, ◌≤◌, take}
use Rattle.cj_case.specs.Problems.{plain_problem}
use Rattle.cj_slabs.specs.Slabs.{AddRoots}
use Rattle.cj_slabs.proofs.SlabLemmas.{roots_with}
use Rattle.cj_slabs.proofs.roots_sifted.sift_pairs.Given as goal

-- the roots of the pairs so far are added
abbrev pub invariant-loop-pair : goal.invariant-loop-pair
invariant-loop-pair l = record {
  cuts : l.scratch.cuts ≡ l.problem;
  room : l.slab.counts.leaves ≤ l.limit;
  added : AddRoots (plain_problem l.problem) (roots_with (plain_problem l.problem) l.slot (take l.pair-index l.pairs)) l.initial.slab l.slab;
}
