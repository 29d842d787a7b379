use Rattle.cj_cells.proofs.refining.refine_counted.Goals as goal

pub returns-clause-ok : goal.returns-clause-ok
returns-clause-ok g c = c.refine_once.ensures.ok

pub returns-clause-within : goal.returns-clause-within
returns-clause-within g c = c.refine_once.ensures.within

pub returns-clause-too_many : goal.returns-clause-too_many
returns-clause-too_many g c = c.refine_once.ensures.too_many

pub returns-clause-err : goal.returns-clause-err
returns-clause-err g c = c.refine_once.ensures.err

pub returns-clause-leaves : goal.returns-clause-leaves
returns-clause-leaves g c = c.refine_once.ensures.leaves

pub returns-clause-kept : goal.returns-clause-kept
returns-clause-kept g c = c.refine_once.ensures.kept

pub returns-clause-root : goal.returns-clause-root
returns-clause-root g c = c.refine_once.ensures.root
