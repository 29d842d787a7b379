use Rattle.std.proofs.Common.{arith}
use Rattle.std.proofs.lemmas.Int.{ints}
use Rattle.cj_kvn.proofs.ReadableLemmas.{exponent_bounds}
use Rattle.cj_oem.proofs.printing.covariances.push_decimal.Goals as goal

pub decimal_text-requires-clause-low : goal.decimal_text-requires-clause-low
decimal_text-requires-clause-low c = omega (arith, ints, exponent_bounds c.args.number c.requires)

pub decimal_text-requires-clause-high : goal.decimal_text-requires-clause-high
decimal_text-requires-clause-high c = omega (arith, ints, exponent_bounds c.args.number c.requires)
