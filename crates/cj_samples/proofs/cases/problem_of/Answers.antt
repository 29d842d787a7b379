use Rattle.cj_samples.proofs.cases.problem_of.Goals as goal

pub returns-clause-tracks : goal.returns-clause-tracks
returns-clause-tracks c = c.sized.ensures.tracks

pub returns-clause-slots : goal.returns-clause-slots
returns-clause-slots c = c.sized.ensures.slots

pub returns-clause-threshold : goal.returns-clause-threshold
returns-clause-threshold c = c.sized.ensures.threshold

pub returns-clause-sizes : goal.returns-clause-sizes
returns-clause-sizes c = c.sized.ensures.sizes

pub returns-clause-value : goal.returns-clause-value
returns-clause-value c = c.sized.ensures.value
