use Rattle.std.proofs.Common.{refl}
use Rattle.cj_status.proofs.errors.StatusFromUsageFault.from.Goals as goal

pub returns : goal.returns
returns c = refl
