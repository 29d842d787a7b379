use Rattle.std.proofs.Common.{ap, leb, ◌∙◌}
use Rattle.cj_meet.specs.Flat.{is_flat, raised}
use Rattle.cj_meet.proofs.flatness.is_flat.Goals as goal

pub returns : goal.returns
unfolding is_flat
returns c = λ i. leb (c.greatest_square.ensures.value i) ((c.raised.ensures ∙ ap raised c.requires.least) i)
