use Rattle.std.proofs.Common.{◌*◌, ◌∙◌, ap}
use Rattle.cj_samples.specs.Moments.{tick_of}
use Rattle.cj_samples.proofs.ticks.second.Goals as goal

pub returns : goal.returns
returns c = c.tick.ensures ∙ ap (λ count. tick_of (count * 1000000)) c.from.ensures
