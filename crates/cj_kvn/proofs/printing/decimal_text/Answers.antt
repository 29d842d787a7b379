use Rattle.std.proofs.Common.{arith, ◌≡◌, ap, ◌∙◌, ℕ, ℤ, List, ◌++◌, w32, to_z, of_z}
use Rattle.std.proofs.lemmas.Int.{ints}
use Rattle.cj_base.specs.Decimals.{number_of}
use Rattle.cj_kvn.specs.Decimals.{decimal_of, exponent_text, minus_if}
use Rattle.cj_kvn.proofs.AgainLemmas.{IsNormal, again, zero_is}
use Rattle.cj_kvn.proofs.PrintLemmas.{text_pushed}
use Rattle.cj_kvn.proofs.printing.decimal_text.Goals as goal

pub returns-clause-exact : goal.returns-clause-exact
returns-clause-exact c =
    let whole : to_z w32 (of_z w32 c.leading_power.result) ≡ c.leading_power.result = omega (arith, ints) in
    let power = whole ∙ c.leading_power.ensures.value in
    let minus = c.push_if.ensures.appended ∙ ap (λ (m : List ℕ). m ++ minus_if c.args.value.negative) c.new-text.ensures in
    text_pushed (number_of c.args.value) _ _ _ _ minus c.push_significand.ensures.appended c.push.ensures.items
    (c.push_exponent.ensures ∙ ap (λ (x : ℤ). c.push.new.self.items ++ exponent_text x) power)

pub returns-clause-again : goal.returns-clause-again
returns-clause-again c readable =
    let n = number_of c.args.value in
    let normal : IsNormal n = record {
      short = c.args.value.short;
      zero = λ h. let zero = c.args.value.normal h in zero_is n zero.0 zero.1 zero.2;
    } in
    ap decimal_of (returns-clause-exact c) ∙ again n normal readable
    (omega (arith, ints, c.leading_power.ensures.value, c.leading_power.ensures.low, c.leading_power.ensures.high))
