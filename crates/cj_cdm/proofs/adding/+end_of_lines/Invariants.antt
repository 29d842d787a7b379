use Rattle.cj_cdm.proofs.adding.+end_of_lines.Given as goal

abbrev pub decreases-end_of_lines : goal.decreases-end_of_lines
decreases-end_of_lines l = l.count
