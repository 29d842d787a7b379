use Rattle.cj_pool.proofs.MoveLemmas.{takes, finds}
use Rattle.cj_pool.proofs.steps.pop.Goals as goal

pub pop_as-requires-clause-fifo : goal.pop_as-requires-clause-fifo
pop_as-requires-clause-fifo g c flavor = takes g.K.Run.workers _ _ 1 c.requires.0

pub pop_as-requires-clause-empty : goal.pop_as-requires-clause-empty
pop_as-requires-clause-empty g c = finds g.K.Run.workers _ _ c.requires.0
