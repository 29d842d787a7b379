use Rattle.std.proofs.Common.{arith, ◌≡◌, ◌%◌, ◌<◌, ◌∙◌, sym, ap, refl, true, false, ℕ, ◌/◌, ◌^◌}
use Rattle.std.proofs.Math.Nat.{div-one}
use Rattle.cj_kvn.specs.Decimals.{trailing_zeros}
use Rattle.cj_kvn.proofs.ZeroLemmas.{zeros_more, zeros_none, zeros_most, cut_more}
use Rattle.cj_kvn.proofs.rounding.cut_zeros.Goals as goal

pub overflow_add-zeros : goal.overflow_add-zeros
overflow_add-zeros c = omega (arith, zeros_most c.args.number 19 (omega arith), c.loop-digits.invariant.zeros)

pub loop-digits-preserved : goal.loop-digits-preserved
loop-digits-preserved c =
    let digits = c.loop-digits.digits in
    let zero_digit : digits % 10 ≡ 0 = c.loop-digits-test.ensures.0 refl in
    record {
      some = omega (arith, c.loop-digits.invariant.some);
      short = omega (arith, c.loop-digits.invariant.short);
      cut = cut_more digits c.loop-digits.invariant.some zero_digit ∙ c.loop-digits.invariant.cut;
      zeros = omega (arith, zeros_more digits c.loop-digits.invariant.some zero_digit, c.loop-digits.invariant.zeros);
    }

-- no zero digit is left
ended : (digits : ℕ) → 0 < digits → (digits % 10 ≡ 0 → false ≡ true) → trailing_zeros digits ≡ 0
ended digits some test =
    let digit : digits % 10 ≡ 0 → ⊥ = λ h. let t = test h in absurd cc in
    zeros_none digits some (omega (arith, digit))

pub returns-clause-digits : goal.returns-clause-digits
returns-clause-digits c =
    let none = ended c.loop-digits.digits c.loop-digits.invariant.some c.loop-digits-test.ensures.1 in
    sym (ap (λ (k : ℕ). c.loop-digits.digits / 10 ^ k) none ∙ div-one c.loop-digits.digits) ∙ c.loop-digits.invariant.cut

pub returns-clause-zeros : goal.returns-clause-zeros
returns-clause-zeros c =
    let none = ended c.loop-digits.digits c.loop-digits.invariant.some c.loop-digits-test.ensures.1 in
    omega (arith, c.loop-digits.invariant.zeros)

pub returns-clause-few : goal.returns-clause-few
returns-clause-few c = omega (arith, zeros_most c.args.number 19 (omega arith), c.loop-digits.invariant.zeros)
