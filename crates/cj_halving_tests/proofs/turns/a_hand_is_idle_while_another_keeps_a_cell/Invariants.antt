use Rattle.cj_halving_tests.proofs.turns.a_hand_is_idle_while_another_keeps_a_cell.Given as goal

-- the values of the run are those of the arguments
abbrev pub ghosts-one_beside_zero : goal.ghosts-one_beside_zero
ghosts-one_beside_zero g a = record { problem = a.problem.now; roots = a.roots.items; workers = 2 }
