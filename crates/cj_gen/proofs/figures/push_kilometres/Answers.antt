use Rattle.std.proofs.Common.{to_z-of_z}
use Rattle.cj_gen.specs.Texts.{kilometres}
use Rattle.cj_gen.proofs.figures.push_kilometres.Goals as goal

pub returns : goal.returns
unfolding kilometres
returns c = rw (c.sign.ensures, c.three.ensures, c.unsigned_abs-size.ensures.value, to_z-of_z c.ranges.metres) at c.push_decimal.ensures
