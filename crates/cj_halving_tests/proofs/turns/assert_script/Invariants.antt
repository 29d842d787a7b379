use Rattle.cj_halving_tests.proofs.turns.assert_script.Given as goal

-- the values of the run are those of the arguments
abbrev pub ghosts-refined_by : goal.ghosts-refined_by
ghosts-refined_by g a = record { problem = a.problem.now; roots = a.roots.items; workers = 2 }
