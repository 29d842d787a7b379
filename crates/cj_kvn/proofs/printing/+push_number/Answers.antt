use Rattle.std.proofs.Common.{arith}
use Rattle.cj_kvn.proofs.PrintLemmas.{length_digit, length_step, digit_pushed, digits_pushed}
use Rattle.cj_kvn.proofs.printing.+push_number.Goals as goal

pub push-requires : goal.push-requires
push-requires t c = (omega arith, omega (arith, length_digit c.args.number c.if-number-lt10.true))

pub push_number-requires : goal.push_number-requires
push_number-requires t c = (omega (arith, c.decreases), omega (arith, length_step c.args.number c.if-number-lt10.false c.ranges.number.fits))

pub push-requires-else-number-lt10 : goal.push-requires-else-number-lt10
push-requires-else-number-lt10 t c =
    (omega arith, omega (arith, length_step c.args.number c.if-number-lt10.false c.ranges.number.fits, c.push_number.ensures.len))

pub returns-then-number-lt10-clause-appended : goal.returns-then-number-lt10-clause-appended
returns-then-number-lt10-clause-appended t c = digit_pushed _ _ c.args.number c.if-number-lt10.true c.push.ensures.items

pub returns-then-number-lt10-clause-len : goal.returns-then-number-lt10-clause-len
returns-then-number-lt10-clause-len t c = omega (arith, c.push.ensures.len, length_digit c.args.number c.if-number-lt10.true)

pub returns-else-number-lt10-clause-appended : goal.returns-else-number-lt10-clause-appended
returns-else-number-lt10-clause-appended t c =
    digits_pushed _ _ _ c.args.number c.if-number-lt10.false c.ranges.number.fits c.push_number.ensures.appended c.push-else-number-lt10.ensures.items

pub returns-else-number-lt10-clause-len : goal.returns-else-number-lt10-clause-len
returns-else-number-lt10-clause-len t c =
    omega (arith, c.push_number.ensures.len, c.push-else-number-lt10.ensures.len, length_step c.args.number c.if-number-lt10.false c.ranges.number.fits)
