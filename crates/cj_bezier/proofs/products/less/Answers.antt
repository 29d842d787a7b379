use Rattle.std.proofs.Common.{arith}
use Rattle.std.proofs.lemmas.Int.{ints}
use Rattle.cj_bezier.proofs.products.less.Goals as goal

pub returns-clause-within : goal.returns-clause-within
returns-clause-within c = omega (arith, ints)

pub returns-clause-value : goal.returns-clause-value
returns-clause-value c = record {
  x_lower = c.sub.ensures.lower;
  x_upper = c.sub.ensures.upper;
  y_lower = c.sub-2.ensures.lower;
  y_upper = c.sub-2.ensures.upper;
  z_lower = c.sub-3.ensures.lower;
  z_upper = c.sub-3.ensures.upper;
}
