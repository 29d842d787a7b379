use Rattle.std.proofs.Common.{◌≡◌, ◌<◌, ◌≤◌, length}
use Rattle.std.specs.Prelude.{All}
use Rattle.cj_case.specs.Problems.{plain_problem}
use Rattle.cj_slabs.proofs.SlabLemmas.{AddedSoFar}
use Rattle.cj_slabs.proofs.slots_sifted.sift_until_stopped.Given as goal

-- the roots of the pairs so far are added
abbrev pub invariant-loop-rest : goal.invariant-loop-rest
invariant-loop-rest l = record {
  cuts : l.scratch.cuts ≡ l.problem;
  exist : All (λ pair. pair.b < length l.problem.tracks) l.rest;
  room : l.slab.counts.leaves ≤ l.limit;
  added : AddedSoFar (plain_problem l.problem) l.slot l.pairs l.rest l.initial.slab l.slab;
}

abbrev pub decreases-loop-rest : goal.decreases-loop-rest
decreases-loop-rest l = length l.rest
