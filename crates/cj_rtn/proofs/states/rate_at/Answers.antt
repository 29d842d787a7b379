use Rattle.cj_hermite.specs.Limits.{RATE_REACH}
use Rattle.cj_rtn.proofs.states.rate_at.Goals as goal

pub returns-clause-within : goal.returns-clause-within
returns-clause-within c = c.middle_of_box.ensures.within RATE_REACH c.rate.ensures.within
