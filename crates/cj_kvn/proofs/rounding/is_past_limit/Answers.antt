use Rattle.std.proofs.Common.{arith, ◌≡◌, ◌∙◌, ap, ℤ, pos, ◌+ℤ◌, w64, to_z, of_z}
use Rattle.std.proofs.lemmas.Int.{ints}
use lib.Signed.{lt_z}
use Rattle.cj_kvn.specs.Decimals.{rounded_number, digit_count}
use Rattle.cj_kvn.proofs.DecimalLemmas.{huge_at}
use Rattle.cj_kvn.proofs.rounding.is_past_limit.Goals as goal

pub returns-clause-value : goal.returns-clause-value
returns-clause-value c =
    let above = c.power_above.result in
    let whole : to_z w64 (of_z w64 above) ≡ above = omega (arith, ints) in
    let count = c.digit_count.ensures.value ∙ ap digit_count c.from.ensures in
    let sum : above ≡ c.args.number.power +ℤ pos (digit_count c.args.number.digits) = omega (arith, ints, c.power_above.ensures, count) in
    ap (λ (t : ℤ). lt_z (pos 100) t) whole ∙ huge_at (rounded_number c.args.number) above c.args.number.some sum
