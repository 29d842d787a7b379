use Rattle.cj_case.specs.Problems.{plain_problem}
use Rattle.cj_pool.proofs.RefineLemmas.{AreRefined}
use Rattle.cj_pool.proofs.finishing.refine_open.Given as goal

abbrev pub invariant-loop-cell : goal.invariant-loop-cell
invariant-loop-cell l = AreRefined (plain_problem l.problem) l.cells l.limit l.cell-index l.initial.leaves.items l.leaves.items
