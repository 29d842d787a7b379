use Rattle.std.proofs.Common.{ap}
use Rattle.cj_samples.specs.Moments.{tick_of}
use Rattle.cj_samples.proofs.ticks.tick.Goals as goal

pub returns : goal.returns
returns c = ap tick_of c.from.ensures
