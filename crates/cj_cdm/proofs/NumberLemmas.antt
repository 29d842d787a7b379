-- The digits of numbers, written one behind another, and the exponents of numbers in other units.
use Rattle.std.proofs.Common.{◌≡◌, ℕ, zero, suc, ◌+◌, ◌-◌, ◌/◌, ◌%◌, ◌^◌, ◌<◌, ◌≤◌, length, decimal, true, false, Bool, List, [], ◌∷◌, ◌++◌, ap, sym, ◌∙◌, arith}
use Rattle.std.proofs.Math.Nat.{div-le_self}
use Rattle.std.proofs.lemmas.Fmt.{decimal_step_wide, length-decimal-le_wide}
use Rattle.std.proofs.lemmas.Int.{ints}
use Rattle.std.proofs.lemmas.List.{length-append}
use Rattle.std.specs.Prelude.{◌==◌, if◌then◌else◌, pos, neg_ℤ, ◌+ℤ◌, ◌≤ℤ◌}
use Rattle.cj_base.specs.declared.decimals.Decimal.{Decimal}
use Rattle.cj_base.specs.Decimals.{IsReadable, number_of, shifted}
use Rattle.cj_base.specs.Numbers.{Number}
use Rattle.cj_kvn.proofs.ReadableLemmas.{exponent_bounds}
use Rattle.cj_cdm.specs.Texts.{last_digits}
use Rattle.cj_cdm.proofs.TextLemmas.{joined}

-- a digit behind others
pub digits_more : (old mid new : List ℕ) (count n : ℕ) → 1 < count → mid ≡ old ++ last_digits (count - 1) (n / 10) → new ≡ mid ++ (48 + n % 10) ∷ [] → new ≡ old ++ last_digits count n
unfolding last_digits
digits_more old mid new zero n some first last = absurd (omega arith)
digits_more old mid new (suc k) n some first last =
    let less : suc k - 1 ≡ k = omega arith in
    joined old mid new (last_digits k (n / 10)) ((48 + n % 10) ∷ []) (first ∙ ap (λ (j : ℕ). old ++ last_digits j (n / 10)) less) last

-- a single digit
pub digits_one : (old was new : List ℕ) (count n : ℕ) → count ≤ 1 → 1 ≤ count → was ≡ old → new ≡ was ++ (48 + n % 10) ∷ [] → new ≡ old ++ last_digits count n
unfolding last_digits
digits_one old was new zero n few some kept last = absurd (omega arith)
digits_one old was new (suc zero) n few some kept last = last ∙ ap (λ (t : List ℕ). t ++ (48 + n % 10) ∷ []) kept
digits_one old was new (suc (suc k)) n few some kept last = absurd (omega arith)

-- a number that can be read keeps its exponent within bounds in square metres
power_within : (none : Bool) (n : Number) → neg_ℤ (pos 116) ≤ℤ n.power → n.power ≤ℤ pos 99
    → (neg_ℤ (pos 200) ≤ℤ (if none then n else record n { power = n.power +ℤ pos 6 }).power) × ((if none then n else record n { power = n.power +ℤ pos 6 }).power ≤ℤ pos 200)
power_within true n low high = (omega (arith, ints), omega (arith, ints))
power_within false n low high = (omega (arith, ints), omega (arith, ints))

pub shifted_within : (d s : Decimal) → IsReadable (number_of d) → number_of s ≡ shifted (number_of d) (pos 6) → (neg_ℤ (pos 200) ≤ℤ s.exponent) × (s.exponent ≤ℤ pos 200)
shifted_within d s readable e =
    let bounds = exponent_bounds d readable in
    let within = power_within (d.digits == 0) (number_of d) bounds.0 bounds.1 in
    let same : s.exponent ≡ (shifted (number_of d) (pos 6)).power = ap (λ (n : Number). n.power) e in
    rw same within

-- a number in decimal, digit behind digit
pub length_step : (n : ℕ) → 10 ≤ n → n < 2 ^ 128 → length (decimal n) ≡ length (decimal (n / 10)) + 1
length_step n large fits = omega (arith, ap length (decimal_step_wide n large (omega arith)), length-append (decimal (n / 10)) ((48 + n % 10) ∷ []))

pub decimal_more : (old mid new : List ℕ) (n : ℕ) → 10 ≤ n → n < 2 ^ 128 → mid ≡ old ++ decimal (n / 10) → new ≡ mid ++ (48 + n % 10) ∷ [] → new ≡ old ++ decimal n
decimal_more old mid new n large fits first last =
    joined old mid new (decimal (n / 10)) ((48 + n % 10) ∷ []) first last ∙ ap (λ (ds : List ℕ). old ++ ds) (sym (decimal_step_wide n large (omega arith)))

pub decimal_length : (n : ℕ) → n < 2 ^ 128 → length (decimal n) ≤ 40
decimal_length n fits = length-decimal-le_wide 40 n (omega arith) (omega arith) (omega arith)

pub quotient_length : (n d : ℕ) → n < 2 ^ 128 → length (decimal (n / d)) ≤ 40
quotient_length n d fits = decimal_length (n / d) (omega (arith, div-le_self n d))
