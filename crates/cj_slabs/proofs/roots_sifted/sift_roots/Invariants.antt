use Rattle.std.proofs.Common.{◌≡◌, ◌≤◌, take}
use Rattle.cj_case.specs.Cells.{plain_cells}
use Rattle.cj_case.specs.Problems.{plain_problem}
use Rattle.cj_slabs.specs.Slabs.{AddRoots}
use Rattle.cj_slabs.proofs.roots_sifted.sift_roots.Given as goal

-- the roots so far are added
abbrev pub invariant-loop-root : goal.invariant-loop-root
invariant-loop-root l = record {
  same : l.cuts ≡ l.initial.cuts;
  room : l.slab.counts.leaves ≤ l.limit;
  added : AddRoots (plain_problem l.initial.cuts) (plain_cells (take l.root-index l.roots)) l.initial.slab l.slab;
}
