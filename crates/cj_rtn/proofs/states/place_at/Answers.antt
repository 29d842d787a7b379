use Rattle.cj_hermite.specs.Limits.{REACH}
use Rattle.cj_rtn.proofs.states.place_at.Goals as goal

pub returns-clause-within : goal.returns-clause-within
returns-clause-within c = c.middle_of_box.ensures.within REACH c.point.ensures.within
