use Rattle.std.proofs.Common.{arith}
use Rattle.std.proofs.lemmas.Int.{ints}
use Rattle.cj_bezier.proofs.gap_of_hulls.middle_term.Goals as goal

pub scale-requires-clause-low : goal.scale-requires-clause-low
scale-requires-clause-low c = omega (arith, ints)

pub scale-requires-clause-high : goal.scale-requires-clause-high
scale-requires-clause-high c = omega (arith, ints)

pub returns-clause-lower : goal.returns-clause-lower
returns-clause-lower c = omega (arith, ints)

pub returns-clause-upper : goal.returns-clause-upper
returns-clause-upper c = omega (arith, ints)

pub returns-clause-within : goal.returns-clause-within
returns-clause-within c = record { low = omega (arith, ints); high = omega (arith, ints) }
