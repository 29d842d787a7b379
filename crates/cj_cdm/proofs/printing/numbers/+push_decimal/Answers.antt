use Rattle.std.proofs.Common.{arith}
use Rattle.cj_kvn.proofs.PrintLemmas.{digit_pushed, length_digit}
use Rattle.cj_cdm.proofs.NumberLemmas.{decimal_more, length_step}
use Rattle.cj_cdm.proofs.printing.numbers.+push_decimal.Goals as goal

pub push-requires : goal.push-requires
push-requires t c = (omega arith, omega (arith, length_digit c.args.number c.if-number-lt10.true))

pub push_decimal-requires : goal.push_decimal-requires
push_decimal-requires t c = (omega (arith, c.decreases), omega (arith, length_step c.args.number c.if-number-lt10.false c.ranges.number.fits))

pub push-requires-else-number-lt10 : goal.push-requires-else-number-lt10
push-requires-else-number-lt10 t c =
    (omega arith, omega (arith, length_step c.args.number c.if-number-lt10.false c.ranges.number.fits, c.push_decimal.ensures.len))

pub returns-then-number-lt10-clause-appended : goal.returns-then-number-lt10-clause-appended
returns-then-number-lt10-clause-appended t c = digit_pushed _ _ c.args.number c.if-number-lt10.true c.push.ensures.items

pub returns-then-number-lt10-clause-len : goal.returns-then-number-lt10-clause-len
returns-then-number-lt10-clause-len t c = omega (arith, c.push.ensures.len, length_digit c.args.number c.if-number-lt10.true)

pub returns-else-number-lt10-clause-appended : goal.returns-else-number-lt10-clause-appended
returns-else-number-lt10-clause-appended t c =
    decimal_more _ _ _ c.args.number c.if-number-lt10.false c.ranges.number.fits c.push_decimal.ensures.appended c.push-else-number-lt10.ensures.items

pub returns-else-number-lt10-clause-len : goal.returns-else-number-lt10-clause-len
returns-else-number-lt10-clause-len t c =
    omega (arith, c.push_decimal.ensures.len, c.push-else-number-lt10.ensures.len, length_step c.args.number c.if-number-lt10.false c.ranges.number.fits)
