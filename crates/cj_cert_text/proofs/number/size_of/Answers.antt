use Rattle.std.proofs.Common.{arith}
use Rattle.std.proofs.lemmas.Int.Digits.{digits_value_more}
use Rattle.cj_cert_text.proofs.NumberLemmas.{digit_in}
use Rattle.cj_cert_text.proofs.number.size_of.Goals as goal

pub loop-digit-preserved : goal.loop-digit-preserved
loop-digit-preserved c =
    let more = digits_value_more 10 c.args.digits.now c.loop-digit.digit-index c.loop-digit-test.true in
    let digit = digit_in c.args.digits.now c.loop-digit.digit-index c.requires c.loop-digit-test.true in
    omega (arith, more, digit, c.loop-digit.invariant, c.saturating_mul.ensures, c.from.ensures, c.saturating_add-size.ensures)
