use Rattle.cj_pool.proofs.MoveLemmas.{learns, owner_learns}
use Rattle.cj_pool.proofs.steps.queue_len.Goals as goal

pub len_as-requires : goal.len_as-requires
len_as-requires g c items views b at =
    (learns g.K.Run.workers _ _ c.requires.0 items views b at, owner_learns g.K.Run.workers _ _ c.requires.1 items views b at)
