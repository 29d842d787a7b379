use Rattle.cj_samples.proofs.segments.rest.Goals as goal

pub returns-clause-value : goal.returns-clause-value
returns-clause-value c = c.moving.ensures.value
