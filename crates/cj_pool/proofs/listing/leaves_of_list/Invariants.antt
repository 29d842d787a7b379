use Rattle.cj_pool.proofs.listing.leaves_of_list.Given as goal

-- the values of the run are those of the arguments
abbrev pub ghosts-leaves_by_hands : goal.ghosts-leaves_by_hands
ghosts-leaves_by_hands g a = record { problem = a.problem.now; roots = a.roots.items; workers = a.workers }
