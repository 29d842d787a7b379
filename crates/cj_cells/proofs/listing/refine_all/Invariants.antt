use Rattle.cj_cells.proofs.listing.refine_all.Given as goal

abbrev pub ghosts-refine_all_counted : goal.ghosts-refine_all_counted
ghosts-refine_all_counted g a = record { name = a.blank.name; parts = a.blank.parts }
