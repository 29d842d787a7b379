-- What callers may take from a decimal that was read.
use Rattle.std.proofs.Common.{◌≡◌, ℕ, ◌%◌, ◌^◌, ◌<◌, arith, ap, ◌∙◌, refl, subst, inl, inr, true, false, Bool, ℤ, pos, negsuc, neg_ℤ, ◌+ℤ◌, ◌≤ℤ◌, ◌<ℤ◌, List, Result, Ok, Err, IfOk}
use Rattle.std.proofs.Props.{props}
use Rattle.cj_kvn.specs.declared.numbers.NumFault.{NumFault}
use Rattle.std.specs.Prelude.{◌==◌}
use Rattle.std.proofs.lemmas.Bool.Decides.{leb_tells, nat_tests}
use Rattle.std.proofs.lemmas.Int.{by_lt_z, ints}
use Rattle.cj_base.specs.Decimals.{IsReadable, is_huge, is_tiny, number_of}
use Rattle.cj_kvn.specs.Decimals.{decimal_form, decimal_of, digit_count, number_read}
use Rattle.cj_base.specs.declared.decimals.Decimal.{Decimal}
use Rattle.cj_base.specs.Numbers.{Number}
use Rattle.cj_kvn.specs.Numbers.{is_number, number, parts_of}
use Rattle.cj_kvn.proofs.CountLemmas.{count_most, count_pos, tiny_yes, huge_yes}

not_tiny : (n : Number) → is_tiny n ≡ false → negsuc 97 ≤ℤ (n.power +ℤ pos (digit_count n.digits))
not_tiny n h =
    let t = n.power +ℤ pos (digit_count n.digits) in
    by_lt_z t (negsuc 97) (λ (below : t <ℤ negsuc 97). let tiny = tiny_yes n (omega (arith, ints)) in absurd cc) (λ (above : negsuc 97 ≤ℤ t). above)

not_huge : (n : Number) → 0 < n.digits → is_huge n ≡ false → (n.power +ℤ pos (digit_count n.digits)) ≤ℤ pos 100
not_huge n some h =
    let t = n.power +ℤ pos (digit_count n.digits) in
    by_lt_z (pos 100) t (λ (above : pos 100 <ℤ t). let huge = huge_yes n some (omega (arith, ints)) in absurd cc) (λ (below : t ≤ℤ pos 100). below)

-- the exponent of a number that was read
pub exponent_bounds : (d : Decimal) → IsReadable (number_of d) → (neg_ℤ (pos 116) ≤ℤ d.exponent) × (d.exponent ≤ℤ pos 99)
exponent_bounds d readable = elim (leb_tells 1 d.digits) [
  | inl h ↦
      let not_zero : (d.digits == 0) ≡ false = grind (arith, nat_tests) in
      let above = not_tiny (number_of d) (readable.0 ∙ not_zero) in
      let below = not_huge (number_of d) h.1 readable.1 in
      let few = count_most d.digits 18 d.short in
      let some = count_pos d.digits h.1 in
      (omega (arith, ints), omega (arith, ints))
  | inr h ↦
      let none : d.digits ≡ 0 = omega (arith, h.1) in
      let zero = d.normal (ap (λ (k : ℕ). k % 10) none) in
      (omega (arith, ints, zero.2), omega (arith, ints, zero.2))
]

-- the bounds of what was read
pub read_low : (r : Result Decimal NumFault) → IfOk r (λ d. IsReadable (number_of d)) → IfOk r (λ d. neg_ℤ (pos 116) ≤ℤ d.exponent)
read_low (Ok d) readable = (exponent_bounds d readable).0
read_low (Err e) readable = tt

pub read_high : (r : Result Decimal NumFault) → IfOk r (λ d. IsReadable (number_of d)) → IfOk r (λ d. d.exponent ≤ℤ pos 99)
read_high (Ok d) readable = (exponent_bounds d readable).1
read_high (Err e) readable = tt

-- a decimal is known by its number
abbrev IsShort : ℕ → Type 0
IsShort k = k < 10 ^ 18

abbrev HasNoZero : Bool → ℕ → ℤ → Type 0
HasNoZero n k z = k % 10 ≡ 0 → (n ≡ false) × (k ≡ 0) × (z ≡ pos 0)

abbrev made : (n : Bool) (k : ℕ) (z : ℤ) → IsShort k → HasNoZero n k z → Decimal
made n k z s m = record { negative = n; digits = k; exponent = z; short = s; normal = m }

same_facts : (n : Bool) (k : ℕ) (z : ℤ) (s t : IsShort k) (m o : HasNoZero n k z) → made n k z s m ≡ made n k z t o
same_facts n k z s t m o =
    let short : IsProp (IsShort k) = hlevel props in
    let normal : IsProp (HasNoZero n k z) = hlevel props in
    λ i. made n k z (short s t i) (normal m o i)

pub same_decimal : (d e : Decimal) → number_of d ≡ number_of e → d ≡ e
same_decimal d e same =
    let sign : d.negative ≡ e.negative = ap (λ (n : Number). n.negative) same in
    let digits : d.digits ≡ e.digits = ap (λ (n : Number). n.digits) same in
    let exponent : d.exponent ≡ e.exponent = ap (λ (n : Number). n.power) same in
    let P : Bool → Type 0 = λ n. (o : HasNoZero n d.digits d.exponent) → d ≡ made n d.digits d.exponent d.short o in
    let Q : ℕ → Type 0 = λ k. (t : IsShort k) (o : HasNoZero e.negative k d.exponent) → d ≡ made e.negative k d.exponent t o in
    let R : ℤ → Type 0 = λ z. (o : HasNoZero e.negative e.digits z) → d ≡ made e.negative e.digits z e.short o in
    let first : P e.negative = subst P sign (λ o. same_facts d.negative d.digits d.exponent d.short d.short d.normal o) in
    let second : Q e.digits = subst Q digits (λ t o. first o ∙ same_facts e.negative d.digits d.exponent d.short t o o) in
    let third : R e.exponent = subst R exponent (λ o. second e.short o) in
    third e.normal

pub only_decimal : (r : Result Decimal NumFault) (said : Result Number NumFault) (d : Decimal) → number_read r ≡ said → said ≡ Ok (number_of d) → r ≡ Ok d
only_decimal (Ok e) said d exact h = ap (λ (k : Decimal). Ok k) (same_decimal e d (let whole : Ok (number_of e) ≡ Ok (number_of d) = exact ∙ h in cc))
only_decimal (Err e) said d exact h = let whole : Err e ≡ Ok (number_of d) = exact ∙ h in absurd cc

pub decimal_of_number : (text : List ℕ) → is_number (parts_of text) ≡ true → decimal_of text ≡ decimal_form (number (parts_of text))
decimal_of_number text h = rw h refl
