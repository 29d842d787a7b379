use Rattle.cj_halving_tests.proofs.turns.both_halves_are_kept_only_while_the_deque_has_four.Given as goal

-- the values of the run are those of the arguments
abbrev pub ghosts-times_zero_keeps_both : goal.ghosts-times_zero_keeps_both
ghosts-times_zero_keeps_both g a = record { problem = a.problem.now; roots = a.roots.items; workers = 2 }
