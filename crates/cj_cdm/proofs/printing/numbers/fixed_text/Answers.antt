use Rattle.std.proofs.Common.{arith, ◌<◌, ℕ, ap, length, subst, sym}
use Rattle.cj_kvn.proofs.PowerLemmas.{ten_pos}
use Rattle.cj_cdm.proofs.NumberLemmas.{quotient_length}
use Rattle.cj_cdm.proofs.printing.numbers.fixed_text.Goals as goal

pub nonzero_div-size : goal.nonzero_div-size
nonzero_div-size c = subst (λ (n : ℕ). 0 < n) (sym c.pow.ensures) (ten_pos c.args.places)

pub push_decimal-requires : goal.push_decimal-requires
push_decimal-requires c =
    omega (arith, c.push_sign.ensures.len, ap length c.new-text.ensures, quotient_length c.unsigned_abs-size.result c.pow.result c.unsigned_abs-size.type_inv)

pub push-requires : goal.push-requires
push-requires c =
    let long = quotient_length c.unsigned_abs-size.result c.pow.result c.unsigned_abs-size.type_inv in
    (omega arith, omega (arith, c.push_sign.ensures.len, ap length c.new-text.ensures, c.push_decimal.ensures.len, long))

pub push_digits-requires-clause-room : goal.push_digits-requires-clause-room
push_digits-requires-clause-room c =
    let long = quotient_length c.unsigned_abs-size.result c.pow.result c.unsigned_abs-size.type_inv in
    omega (arith, c.push_sign.ensures.len, ap length c.new-text.ensures, c.push_decimal.ensures.len, c.push.ensures.len, long, c.requires.few)
