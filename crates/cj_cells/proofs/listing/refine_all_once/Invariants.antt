use Rattle.std.proofs.Common.{◌≡◌, ◌+◌, ◌≤◌, take, vec_len, All}
use Rattle.cj_case.specs.Problems.{plain_problem}
use Rattle.cj_case.specs.Leaves.{plain_leaves}
use Rattle.cj_case.specs.Cells.{plain_cells}
use Rattle.cj_bezier.specs.RootLeaves.{leaves_of_root, leaves_of_roots, Describe}
use Rattle.cj_cells.specs.Lists.{looks_of_roots}
use Rattle.cj_cells.proofs.listing.refine_all_once.Given as goal

abbrev pub invariant-loop-root : goal.invariant-loop-root
invariant-loop-root g l = record {
  room : vec_len l.leaves ≤ l.limit;
  found : plain_leaves l.leaves.items ≡ leaves_of_roots (plain_problem l.problem) (plain_cells (take l.root-index l.roots));
  leaves : All (λ root. Describe (plain_problem l.problem) root (leaves_of_root (plain_problem l.problem) root)) (plain_cells (take l.root-index l.roots));
  no_fewer : l.initial.steps ≤ l.steps;
  steps : l.steps ≡ l.initial.steps + looks_of_roots (plain_problem l.problem) (plain_cells (take l.root-index l.roots));
}
