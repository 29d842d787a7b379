use Rattle.cj_pool.proofs.MoveLemmas.{puts}
use Rattle.cj_pool.proofs.steps.put.Goals as goal

pub push_as-requires-clause-pushes : goal.push_as-requires-clause-pushes
push_as-requires-clause-pushes g c = puts g.K.Run.workers _ _ _ c.requires.owner.0 c.requires.owner.1
