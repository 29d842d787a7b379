use Rattle.std.proofs.Common.{refl}
use Rattle.cj_samples.proofs.segments.node.Goals as goal

pub returns-clause-value : goal.returns-clause-value
returns-clause-value c = rw c.second.ensures refl
