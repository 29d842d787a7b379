use Rattle.std.proofs.Common.{◌≡◌, drop, map, take}
use Rattle.cj_case.specs.Cells.{plain_cells}
use Rattle.cj_case.specs.Leaves.{plain_leaves}
use Rattle.cj_case.specs.Problems.{plain_problem}
use Rattle.cj_hermite.specs.Roots.{slots_of}
use Rattle.cj_bezier.specs.RootLeaves.{leaves_of_roots}
use Rattle.cj_brief.specs.Telling.{plain_lists, told_at}
use Rattle.cj_brief.proofs.telling.told_by_slot.Given as goal

-- the leaves of the roots that are left, and what is told of those so far
abbrev pub invariant-loop-root : goal.invariant-loop-root
invariant-loop-root l = record {
  rest : plain_leaves l.rest ≡ leaves_of_roots (plain_problem l.problem) (plain_cells (drop l.root-index l.roots));
  lists : plain_lists l.lists.items ≡ map (told_at (plain_problem l.problem) (plain_cells (take l.root-index l.roots))) (slots_of (plain_problem l.problem));
}
