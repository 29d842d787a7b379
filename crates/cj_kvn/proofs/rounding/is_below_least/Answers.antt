use Rattle.std.proofs.Common.{arith, ◌≡◌, sym, ◌∙◌, ap, ℤ, pos, negsuc, ◌+ℤ◌, w64, to_z, of_z}
use Rattle.std.proofs.lemmas.Int.{ints}
use lib.Signed.{le_z}
use Rattle.cj_kvn.specs.Decimals.{digit_count}
use Rattle.cj_kvn.proofs.DecimalLemmas.{tiny_at_zero, tiny_at}
use Rattle.cj_kvn.proofs.rounding.is_below_least.Goals as goal

pub returns-then-number-eq0-clause-value : goal.returns-then-number-eq0-clause-value
returns-then-number-eq0-clause-value c n b = sym (tiny_at_zero c.args.number n b c.if-number-eq0.true)

pub returns-clause-value : goal.returns-clause-value
returns-clause-value c n b =
    let above = c.power_above.result in
    let whole : to_z w64 (of_z w64 above) ≡ above = omega (arith, ints) in
    let sum : above ≡ c.args.number.power +ℤ pos (digit_count c.args.number.leading) = omega (arith, ints, c.power_above.ensures, c.digit_count.ensures.value) in
    ap (λ (t : ℤ). le_z t (negsuc 98)) whole ∙ tiny_at c.args.number n above b (omega arith) sum
