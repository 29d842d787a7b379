use Rattle.cj_cells.proofs.listing.refine_all.Goals as goal

pub returns-clause-value : goal.returns-clause-value
returns-clause-value g c = c.refine_all_counted.ensures.value

pub returns-clause-within : goal.returns-clause-within
returns-clause-within g c = c.refine_all_counted.ensures.within

pub returns-clause-too_many : goal.returns-clause-too_many
returns-clause-too_many g c = c.refine_all_counted.ensures.too_many

pub returns-clause-leaves : goal.returns-clause-leaves
returns-clause-leaves g c = c.refine_all_counted.ensures.leaves
