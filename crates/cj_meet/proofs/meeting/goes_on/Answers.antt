use Rattle.cj_meet.proofs.EncounterLemmas.{same_pair}
use Rattle.cj_meet.proofs.meeting.goes_on.Goals as goal

pub returns-then-eq : goal.returns-then-eq
returns-then-eq c = same_pair _ _ _ c.if-eq.ensures
