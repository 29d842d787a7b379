use Rattle.cj_threads.proofs.RunLemmas.{whole}
use Rattle.cj_threads.proofs.ranges.halves.Goals as goal

pub returns : goal.returns
returns g c = whole c.partition_point-at.result c.args.run.now c.split_at.result.0.now c.split_at.result.1.now c.split_at.ensures.front c.split_at.ensures.back
