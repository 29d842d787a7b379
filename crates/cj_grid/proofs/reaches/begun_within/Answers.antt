use Rattle.cj_grid.proofs.reaches.begun_within.Goals as goal

pub returns-clause-exist : goal.returns-clause-exist
returns-clause-exist c objects are = c.begun_before.ensures.exist objects (c.begun_behind.ensures.exist objects are)

pub returns-clause-kept : goal.returns-clause-kept
returns-clause-kept c other has low high = c.begun_before.ensures.kept other (c.begun_behind.ensures.kept other has low) high
