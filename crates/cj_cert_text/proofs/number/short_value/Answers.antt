use Rattle.std.proofs.Common.{arith, sym, ◌∙◌}
use Rattle.std.proofs.lemmas.Int.Digits.{digits_value_more}
use Rattle.cj_cert_text.proofs.NumberLemmas.{digit_of, few_digits, one_digit_more}
use Rattle.cj_cert_text.proofs.number.short_value.Goals as goal

pub overflow_mul-value : goal.overflow_mul-value
overflow_mul-value c =
    let i = c.loop-byte.invariant in
    omega (arith, i.value, few_digits c.args.text.now c.loop-byte.byte-index i.all (omega (arith, c.requires)))

pub overflow_add-value : goal.overflow_add-value
overflow_add-value c =
    let i = c.loop-byte.invariant in
    omega (arith, i.value, few_digits c.args.text.now c.loop-byte.byte-index i.all (omega (arith, c.requires)))

pub loop-byte-preserved : goal.loop-byte-preserved
loop-byte-preserved c =
    let i = c.loop-byte.invariant in
    let text = c.args.text.now in
    let at = c.loop-byte.byte-index in
    let digit = sym c.is_ascii_digit.ensures.value ∙ c.if-not-is_ascii_digit.false in
    record {
      all = one_digit_more text at c.loop-byte-test.true i.all digit;
      value = omega (arith, i.value, digits_value_more 10 text at c.loop-byte-test.true, digit_of text at digit);
    }
