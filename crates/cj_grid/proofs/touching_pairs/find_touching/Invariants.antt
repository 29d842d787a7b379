use Rattle.cj_grid.proofs.touching_pairs.find_touching.Given as goal

abbrev pub ghosts-touching_counted : goal.ghosts-touching_counted
ghosts-touching_counted a = record { name = a.blank.name; parts = a.blank.parts }
