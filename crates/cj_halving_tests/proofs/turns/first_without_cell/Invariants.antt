use Rattle.cj_pool.specs.Hands.{IsHandOf}
use Rattle.cj_halving_tests.proofs.turns.first_without_cell.Given as goal

abbrev pub invariant-loop : goal.invariant-loop
invariant-loop g l = IsHandOf l.refinery l.hand
