use Rattle.std.proofs.Common.{to_z-of_z}
use Rattle.cj_gen.specs.Texts.{kilometres_a_second}
use Rattle.cj_gen.proofs.figures.push_kilometres_a_second.Goals as goal

pub returns : goal.returns
unfolding kilometres_a_second
returns c = rw (c.sign.ensures, c.six.ensures, c.unsigned_abs-size.ensures.value, to_z-of_z c.ranges.millimetres_a_second) at c.push_decimal.ensures
