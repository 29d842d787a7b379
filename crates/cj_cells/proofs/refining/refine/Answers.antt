use Rattle.cj_cells.proofs.refining.refine.Goals as goal

pub returns-clause-ok : goal.returns-clause-ok
returns-clause-ok c = c.refine_counted.ensures.ok

pub returns-clause-within : goal.returns-clause-within
returns-clause-within c = c.refine_counted.ensures.within

pub returns-clause-too_many : goal.returns-clause-too_many
returns-clause-too_many c = c.refine_counted.ensures.too_many

pub returns-clause-err : goal.returns-clause-err
returns-clause-err c = c.refine_counted.ensures.err

pub returns-clause-leaves : goal.returns-clause-leaves
returns-clause-leaves c = c.refine_counted.ensures.leaves

pub returns-clause-kept : goal.returns-clause-kept
returns-clause-kept c = c.refine_counted.ensures.kept

pub returns-clause-root : goal.returns-clause-root
returns-clause-root c = c.refine_counted.ensures.root
