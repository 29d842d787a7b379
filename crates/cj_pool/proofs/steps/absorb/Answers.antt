use Rattle.cj_pool.proofs.MoveLemmas.{merges}
use Rattle.cj_pool.proofs.steps.absorb.Goals as goal

pub absorb-requires-clause-rule : goal.absorb-requires-clause-rule
absorb-requires-clause-rule g c = merges g.K.Run.workers _ _ _ _ c.requires.0.0 c.requires.0.1
