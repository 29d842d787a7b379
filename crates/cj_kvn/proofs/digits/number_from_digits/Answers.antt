use Rattle.std.proofs.Common.{arith}
use Rattle.cj_kvn.proofs.PowerLemmas.{ten_more, ten_grows}
use Rattle.cj_kvn.proofs.RunLemmas.{digit_at, value_more}
use Rattle.cj_kvn.proofs.digits.number_from_digits.Goals as goal

pub overflow_mul-value : goal.overflow_mul-value
overflow_mul-value c = omega (arith, ten_grows c.loop-digit.digit-index 6 (omega arith))

pub overflow_add-value : goal.overflow_add-value
overflow_add-value c = omega (arith, ten_grows c.loop-digit.digit-index 6 (omega arith), digit_at c.args.digits.now c.loop-digit.digit-index c.requires.all c.loop-digit-test.true)

pub loop-digit-preserved : goal.loop-digit-preserved
loop-digit-preserved c =
    let digit = digit_at c.args.digits.now c.loop-digit.digit-index c.requires.all c.loop-digit-test.true in
    record {
      value = omega (arith, value_more c.args.digits.now c.loop-digit.digit-index c.requires.all c.loop-digit-test.true);
      small = omega (arith, ten_more c.loop-digit.digit-index, digit);
    }
