-- A number that was read, to 18 significant digits.
use Rattle.std.proofs.Common.{◌≡◌, ℕ, zero, suc, ◌+◌, ◌/◌, ◌-◌, ◌^◌, ◌<◌, ◌≤◌, arith, ap, sym, ◌∙◌, refl, inl, inr, true, false, Bool, ℤ, pos, negsuc, ◌+ℤ◌, ◌≤ℤ◌, List, [], ◌∷◌, ◌++◌, length, map, set, take}
use Rattle.std.proofs.Math.Nat.{div-eq_of_lt, div-one}
use Rattle.std.proofs.lemmas.Bool.Decides.{leb_tells}
use Rattle.std.proofs.lemmas.Int.{ints}
use Rattle.std.proofs.lemmas.List.{map-append, take_more_set}
use Rattle.std.proofs.lemmas.Nat.{pow-add}
use lib.Signed.{le_z, lt_z}
use Rattle.cj_base.specs.declared.decimals.Decimal.{Decimal}
use Rattle.cj_kvn.specs.declared.leading.Scanned.{Scanned}
use Rattle.cj_base.specs.Decimals.{IsReadable, is_tiny, is_huge, number_of}
use Rattle.cj_kvn.specs.Decimals.{zero_number, digit_count, rounded, rounded_number, trailing_zeros, without_trailing_zeros}
use Rattle.cj_kvn.specs.declared.rounded.Rounded.{Rounded}
use Rattle.cj_base.specs.Numbers.{Number}
use Rattle.cj_kvn.specs.Numbers.{nearest}
use Rattle.cj_kvn.specs.Scanning.{Begins}
use Rattle.cj_kvn.proofs.CountLemmas.{count_zero, count_first, count_least, rounded_count, tiny_same, huge_same, tiny_zero, tiny_yes, tiny_no, huge_yes, huge_no}
use Rattle.cj_kvn.proofs.NumberTextLemmas.{make}
use Rattle.cj_kvn.proofs.PowerLemmas.{ten_pos, nearest_first}

-- a test of a whole number, by what it stands for
least_test : (t : ℤ) (b : Bool) → (t ≤ℤ negsuc 98 → b ≡ true) → (negsuc 97 ≤ℤ t → b ≡ false) → le_z t (negsuc 98) ≡ b
least_test (pos k) b within past = sym (past (omega (arith, ints)))
least_test (negsuc k) b within past = elim (leb_tells 98 k) [
  | inl h ↦ h.0 ∙ sym (within (omega (arith, ints)))
  | inr h ↦ h.0 ∙ sym (past (omega (arith, ints)))
]

limit_test : (t : ℤ) (b : Bool) → (pos 101 ≤ℤ t → b ≡ true) → (t ≤ℤ pos 100 → b ≡ false) → lt_z (pos 100) t ≡ b
limit_test (pos k) b within past = elim (leb_tells 101 k) [
  | inl h ↦ h.0 ∙ sym (within (omega (arith, ints)))
  | inr h ↦ h.0 ∙ sym (past (omega (arith, ints)))
]
limit_test (negsuc k) b within past = sym (past (omega (arith, ints)))

-- a number of which nothing is kept is zero
none_kept : (d q l : ℕ) → l ≡ d / 10 ^ q → (0 < q → 10 ^ 37 ≤ l) → l ≡ 0 → d ≡ 0
none_kept d zero l first full none = sym (div-one d) ∙ sym first ∙ none
none_kept d (suc q) l first full none = absurd (omega (arith, full (omega arith)))

pub tiny_at_zero : (s : Scanned) (n : Number) → Begins s n → s.leading ≡ 0 → is_tiny n ≡ true
tiny_at_zero s n b none = tiny_zero n (none_kept n.digits b.past s.leading b.leading b.full none)

-- the digits that are kept, and all of them
kept_count : (s : Scanned) (n : Number) (b : Begins s n) → 0 < s.leading → digit_count n.digits ≡ digit_count s.leading + b.past
kept_count s n b some = count_first n.digits b.past (omega (arith, b.leading)) ∙ ap (λ (l : ℕ). digit_count l + b.past) (sym b.leading)

some_kept : (d q l : ℕ) → l ≡ d / 10 ^ q → 0 < l → 0 < d
some_kept d q l first some = elim (leb_tells 1 d) [
  | inl h ↦ h.1
  | inr h ↦ absurd (omega (arith, first, div-eq_of_lt {n = d} {m = 10 ^ q} (omega (arith, ten_pos q))))
]

pub tiny_at : (s : Scanned) (n : Number) (t : ℤ) → Begins s n → 0 < s.leading → t ≡ s.power +ℤ pos (digit_count s.leading) → le_z t (negsuc 98) ≡ is_tiny n
tiny_at s n t b some sum =
    let count = kept_count s n b some in
    least_test t (is_tiny n)
    (λ le. tiny_yes n (omega (arith, ints, b.power)))
    (λ le. tiny_no n (some_kept n.digits b.past s.leading b.leading some) (omega (arith, ints, b.power)))

pub huge_at : (n : Number) (t : ℤ) → 0 < n.digits → t ≡ n.power +ℤ pos (digit_count n.digits) → lt_z (pos 100) t ≡ is_huge n
huge_at n t some sum = limit_test t (is_huge n) (λ le. huge_yes n some (omega (arith, ints))) (λ le. huge_no n (omega (arith, ints)))

-- the digits that are kept, rounded, are all of them, rounded
kept_rounded : (d q l : ℕ) → l ≡ d / 10 ^ q → (0 < q → 10 ^ 37 ≤ l) → digit_count d ≡ digit_count l + q
    → (nearest l (10 ^ (digit_count l - 18)) ≡ nearest d (10 ^ (digit_count d - 18))) × (digit_count d - 18 ≡ digit_count l - 18 + q)
kept_rounded d zero l first full count =
    let same : l ≡ d = first ∙ div-one d in
    (ap (λ (n : ℕ). nearest n (10 ^ (digit_count n - 18))) same, omega arith)
kept_rounded d (suc q) l first full count =
    let many = count_least l 37 (full (omega arith)) in
    let k = digit_count l - 18 in
    let dropped : digit_count d - 18 ≡ k + suc q = omega arith in (
      ap (λ (n : ℕ). nearest n (10 ^ k)) first
          ∙ sym (nearest_first d k (suc q) (omega arith))
          ∙ ap (λ (n : ℕ). nearest d n) (sym (pow-add 10 k (suc q)))
          ∙ ap (λ (j : ℕ). nearest d (10 ^ j)) (sym dropped),
      dropped,
    )

-- what the code makes of a number
pub rounded_at : (s : Scanned) (n : Number) (digits : ℕ) (power : ℤ) → Begins s n → 0 < s.leading
    → digits ≡ nearest s.leading (10 ^ (digit_count s.leading - 18)) → power ≡ s.power +ℤ pos (digit_count s.leading - 18)
    → make s.negative digits power ≡ rounded n
unfolding rounded
rounded_at s n digits power b some value sum =
    let kept = kept_rounded n.digits b.past s.leading b.leading b.full (kept_count s n b some) in
    let same : power ≡ n.power +ℤ pos (digit_count n.digits - 18) = omega (arith, ints, b.power, kept.1) in
    ap (λ (t : Bool). make t digits power) b.negative
    ∙ ap (λ (d : ℕ). make n.negative d power) (value ∙ kept.0)
    ∙ ap (λ (z : ℤ). make n.negative (nearest n.digits (10 ^ (digit_count n.digits - 18))) z) same

pub cut_at : (r : Rounded) (digits : ℕ) (power : ℤ) → digits ≡ r.digits / 10 ^ trailing_zeros r.digits → power ≡ r.power +ℤ pos (trailing_zeros r.digits)
    → make r.negative digits power ≡ without_trailing_zeros (rounded_number r)
unfolding without_trailing_zeros
cut_at r digits power value sum =
    ap (λ (d : ℕ). make r.negative d power) value ∙ ap (λ (z : ℤ). make r.negative (r.digits / 10 ^ trailing_zeros r.digits) z) sum

-- rounding does not bring a number below 10 ^ -99
pub rounded_above : (s : Scanned) (digits : ℕ) (power : ℤ) → 0 < s.leading → 0 < digits → digits ≡ nearest s.leading (10 ^ (digit_count s.leading - 18))
    → power ≡ s.power +ℤ pos (digit_count s.leading - 18) → negsuc 97 ≤ℤ (s.power +ℤ pos (digit_count s.leading))
    → is_tiny (make s.negative digits power) ≡ false
rounded_above s digits power some more value sum above =
    let k = digit_count s.leading - 18 in
    let count = rounded_count s.leading k some refl in
    tiny_no (make s.negative digits power) more (omega (arith, ints, ap digit_count value))

-- a number without its zeros is as large
cut_count : (r : Rounded) (digits : ℕ) → 0 < digits → digits ≡ r.digits / 10 ^ trailing_zeros r.digits
    → digit_count r.digits ≡ digit_count digits + trailing_zeros r.digits
cut_count r digits some value =
    count_first r.digits (trailing_zeros r.digits) (omega (arith, value)) ∙ ap (λ (d : ℕ). digit_count d + trailing_zeros r.digits) (sym value)

pub cut_tiny : (r : Rounded) (digits : ℕ) (power : ℤ) → 0 < digits → digits ≡ r.digits / 10 ^ trailing_zeros r.digits
    → power ≡ r.power +ℤ pos (trailing_zeros r.digits) → is_tiny (make r.negative digits power) ≡ is_tiny (rounded_number r)
cut_tiny r digits power some value sum =
    let count = cut_count r digits some value in
    tiny_same (make r.negative digits power) (rounded_number r) some r.some (omega (arith, ints))

pub cut_huge : (r : Rounded) (digits : ℕ) (power : ℤ) → 0 < digits → digits ≡ r.digits / 10 ^ trailing_zeros r.digits
    → power ≡ r.power +ℤ pos (trailing_zeros r.digits) → is_huge (make r.negative digits power) ≡ is_huge (rounded_number r)
cut_huge r digits power some value sum =
    let count = cut_count r digits some value in
    huge_same (make r.negative digits power) (rounded_number r) some r.some (omega (arith, ints))

pub zero_readable : IsReadable zero_number
zero_readable = (tiny_zero zero_number refl, huge_no zero_number (omega (arith, ints, count_zero)))

-- one more number is written in its place
pub written_more : (places : List Decimal) (i : ℕ) (d : Decimal) → i < length places
    → map number_of (take (i + 1) (set places i d)) ≡ map number_of (take i places) ++ number_of d ∷ []
written_more places i d inside = ap (map number_of) (take_more_set places i d inside) ∙ map-append number_of (take i places) (d ∷ [])
