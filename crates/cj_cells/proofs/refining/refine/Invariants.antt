use Rattle.cj_cells.proofs.refining.refine.Given as goal

abbrev pub ghosts-refine_counted : goal.ghosts-refine_counted
ghosts-refine_counted a = record { name = a.blank.name; parts = a.blank.parts }
