use Rattle.cj_pool.proofs.MoveLemmas.{opens}
use Rattle.cj_pool.proofs.steps.open.Goals as goal

pub push_as-requires-clause-pushes : goal.push_as-requires-clause-pushes
push_as-requires-clause-pushes g c = opens g.K.Run.workers _ _ _ c.requires.0 c.requires.1
