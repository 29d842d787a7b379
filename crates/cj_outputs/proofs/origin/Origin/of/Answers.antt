use Rattle.std.proofs.Common.{refl}
use Rattle.cj_outputs.proofs.origin.Origin.of.Goals as goal

pub returns : goal.returns
returns c = refl
