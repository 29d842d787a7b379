use Rattle.std.proofs.Common.{arith}
use Rattle.std.proofs.lemmas.Int.{ints}
use Rattle.cj_kvn.proofs.DecimalLemmas.{cut_at, cut_tiny, cut_huge}
use Rattle.cj_kvn.proofs.rounding.without_zeros.Goals as goal

pub returns-clause-value : goal.returns-clause-value
returns-clause-value c =
    cut_at c.args.number _ _ c.cut_zeros-digits.ensures.digits (omega (arith, ints, c.from.ensures, c.cut_zeros-digits.ensures.zeros, c.cut_zeros-digits.ensures.few))

pub returns-clause-tiny : goal.returns-clause-tiny
returns-clause-tiny c =
    cut_tiny c.args.number _ _ (omega (arith, c.cut_zeros-digits.ensures.normal)) c.cut_zeros-digits.ensures.digits (omega (arith, ints, c.from.ensures, c.cut_zeros-digits.ensures.zeros, c.cut_zeros-digits.ensures.few))

pub returns-clause-huge : goal.returns-clause-huge
returns-clause-huge c =
    cut_huge c.args.number _ _ (omega (arith, c.cut_zeros-digits.ensures.normal)) c.cut_zeros-digits.ensures.digits (omega (arith, ints, c.from.ensures, c.cut_zeros-digits.ensures.zeros, c.cut_zeros-digits.ensures.few))
