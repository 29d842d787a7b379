use Rattle.cj_samples.proofs.ticks.seconds.Goals as goal

pub returns-clause-first : goal.returns-clause-first
returns-clause-first c = c.second.ensures

pub returns-clause-last : goal.returns-clause-last
returns-clause-last c = c.second-2.ensures
