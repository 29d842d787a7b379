use Rattle.cj_pool.proofs.MoveLemmas.{takes}
use Rattle.cj_pool.proofs.steps.steal.Goals as goal

pub steal_as-requires-clause-takes : goal.steal_as-requires-clause-takes
steal_as-requires-clause-takes g c = takes g.K.Run.workers _ _ 1 c.requires.0
