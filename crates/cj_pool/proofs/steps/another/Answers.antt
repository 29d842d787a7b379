use Rattle.cj_pool.proofs.MoveLemmas.{forks}
use Rattle.cj_pool.proofs.steps.another.Goals as goal

pub another-requires : goal.another-requires
another-requires g c = forks g.K.Run.workers _ _ c.requires
