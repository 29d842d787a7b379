use Rattle.std.proofs.Common.{arith}
use Rattle.std.proofs.lemmas.Int.{ints}
use Rattle.cj_base.specs.Decimals.{number_of}
use Rattle.cj_base.proofs.ShiftLemmas.{tenfold_is}
use Rattle.cj_base.proofs.decimals.Decimal.shift.Goals as goal

pub returns-clause-value : goal.returns-clause-value
returns-clause-value c = tenfold_is (number_of c.args.self) c.args.by _ (omega (arith, ints))
