-- The text of a decimal number.
use Rattle.std.proofs.Common.{◌≡◌, ℕ, suc, ◌+◌, ◌/◌, ◌%◌, ◌-◌, ◌^◌, ◌<◌, ◌≤◌, List, [], ◌∷◌, ◌++◌, take, drop, length, arith, ap, sym, ◌∙◌, refl, inl, inr, true, false, Bool, ℤ, pos, ◌+ℤ◌, decimal}
use Rattle.std.specs.Prelude.{◌==◌, nat_lt, if◌then◌else◌, int_lt, unsigned_abs, insert}
use Rattle.std.proofs.lemmas.Bool.Decides.{leb_tells, nat_tests}
use Rattle.std.proofs.lemmas.Fmt.{decimal_digit, decimal_step, decimal_nonempty}
use Rattle.std.proofs.lemmas.List.{append_assoc, append-nil, length-append}
use Rattle.cj_kvn.specs.Decimals.{digit_count, leading_power, significand_text, exponent_text, minus_if, decimal_text_of}
use Rattle.cj_base.specs.Numbers.{Number}
use Rattle.cj_kvn.proofs.CountLemmas.{count_is}
use Rattle.cj_kvn.proofs.PowerLemmas.{ten_grows}

-- the power of ten of the first digit
pub power_of_zero : (n : Number) → n.digits ≡ 0 → leading_power n ≡ pos 0
unfolding leading_power
power_of_zero n none = rw none refl

pub power_of_first : (n : Number) (k : ℕ) → 0 < n.digits → 10 ^ k ≤ n.digits → n.digits < 10 ^ (k + 1) → leading_power n ≡ n.power +ℤ pos k
unfolding leading_power
power_of_first n k some low high =
    let not_zero : (n.digits == 0) ≡ false = grind (arith, nat_tests) in
    let last : digit_count n.digits - 1 ≡ k = omega (arith, count_is n.digits k low high) in
    rw not_zero (ap (λ (j : ℕ). n.power +ℤ pos j) last)

pub few_digits : (n k : ℕ) → 10 ^ k ≤ n → n < 10 ^ 18 → k < 18
few_digits n k low high = elim (leb_tells 18 k) [
  | inl h ↦ absurd (omega (arith, ten_grows 18 k h.1))
  | inr h ↦ h.1
]

-- how long the text of a number is
pub length_digit : (n : ℕ) → n < 10 → length (decimal n) ≡ 1
length_digit n small = ap length (decimal_digit n small)

pub length_step : (n : ℕ) → 10 ≤ n → n < 2 ^ 64 → length (decimal n) ≡ length (decimal (n / 10)) + 1
length_step n large fits = omega (arith, ap length (decimal_step n large fits), length-append (decimal (n / 10)) ((48 + n % 10) ∷ []))

pub length_two : (n : ℕ) → 10 ≤ n → n < 2 ^ 64 → 2 ≤ length (decimal n)
length_two n large fits = omega (arith, length_step n large fits, decimal_nonempty (n / 10) (omega arith))

-- one more digit
pub digit_pushed : (old new : List ℕ) (n : ℕ) → n < 10 → new ≡ old ++ (48 + n) ∷ [] → new ≡ old ++ decimal n
digit_pushed old new n small e = e ∙ ap (λ (ds : List ℕ). old ++ ds) (sym (decimal_digit n small))

pub digits_pushed : (old mid new : List ℕ) (n : ℕ) → 10 ≤ n → n < 2 ^ 64 → mid ≡ old ++ decimal (n / 10) → new ≡ mid ++ (48 + n % 10) ∷ [] → new ≡ old ++ decimal n
digits_pushed old mid new n large fits first last =
    last
    ∙ ap (λ (m : List ℕ). m ++ (48 + n % 10) ∷ []) first
    ∙ append_assoc old (decimal (n / 10)) ((48 + n % 10) ∷ [])
    ∙ ap (λ (ds : List ℕ). old ++ ds) (sym (decimal_step n large fits))

-- a point behind the first digit
take_past : (old ds : List ℕ) (k : ℕ) → take (length old + k) (old ++ ds) ≡ old ++ take k ds
take_past [] ds k = ap (λ (n : ℕ). take n ds) (let e : 0 + k ≡ k = omega arith in e)
take_past (x ∷ old) ds k =
    ap (λ (n : ℕ). take n (x ∷ (old ++ ds))) (let e : suc (length old) + k ≡ suc (length old + k) = omega arith in e)
    ∙ ap (λ (xs : List ℕ). x ∷ xs) (take_past old ds k)

drop_past : (old ds : List ℕ) (k : ℕ) → drop (length old + k) (old ++ ds) ≡ drop k ds
drop_past [] ds k = ap (λ (n : ℕ). drop n ds) (let e : 0 + k ≡ k = omega arith in e)
drop_past (x ∷ old) ds k =
    ap (λ (n : ℕ). drop n (x ∷ (old ++ ds))) (let e : suc (length old) + k ≡ suc (length old + k) = omega arith in e)
    ∙ drop_past old ds k

point_in : (old ds : List ℕ) → insert (old ++ ds) (length old + 1) 46 ≡ old ++ ((take 1 ds ++ 46 ∷ []) ++ drop 1 ds)
point_in old ds =
    ap (λ (front : List ℕ). front ++ 46 ∷ drop (length old + 1) (old ++ ds)) (take_past old ds 1)
    ∙ ap (λ (back : List ℕ). (old ++ take 1 ds) ++ 46 ∷ back) (drop_past old ds 1)
    ∙ append_assoc old (take 1 ds) (46 ∷ drop 1 ds)
    ∙ ap (λ (back : List ℕ). old ++ back) (sym (append_assoc (take 1 ds) (46 ∷ []) (drop 1 ds)))

abbrev pub zero_if : Bool → List ℕ
zero_if b = if b then 48 ∷ [] else []

-- the digits behind the point, or 0
behind : (n : ℕ) → n < 2 ^ 64 → drop 1 (decimal n) ++ zero_if (nat_lt n 10) ≡ (if length (decimal n) == 1 then 48 ∷ [] else drop 1 (decimal n))
behind n fits = elim (leb_tells 10 n) [
  | inl h ↦
      let many : (length (decimal n) == 1) ≡ false = grind (arith, nat_tests, length_two n h.1 fits) in
      let large : nat_lt n 10 ≡ false = grind (arith, nat_tests) in
      rw (many, large) (append-nil (drop 1 (decimal n)))
  | inr h ↦
      let one : (length (decimal n) == 1) ≡ true = grind (arith, nat_tests, length_digit n h.1) in
      let small : nat_lt n 10 ≡ true = grind (arith, nat_tests) in
      let none : drop 1 (decimal n) ≡ [] = ap (drop 1) (decimal_digit n h.1) in
      rw (one, small, none) refl
]

pub significand_pushed : (old mid with_point new : List ℕ) (n : ℕ) → n < 2 ^ 64 → mid ≡ old ++ decimal n → with_point ≡ insert mid (length old + 1) 46
    → new ≡ with_point ++ zero_if (nat_lt n 10) → new ≡ old ++ significand_text n
unfolding significand_text
significand_pushed old mid with_point new n fits first second third =
    let ds = decimal n in
    let front = take 1 ds ++ 46 ∷ [] in
    third
    ∙ ap (λ (m : List ℕ). m ++ zero_if (nat_lt n 10)) (second ∙ ap (λ (m : List ℕ). insert m (length old + 1) 46) first ∙ point_in old ds)
    ∙ append_assoc old (front ++ drop 1 ds) (zero_if (nat_lt n 10))
    ∙ ap (λ (back : List ℕ). old ++ back) (append_assoc front (drop 1 ds) (zero_if (nat_lt n 10)) ∙ ap (λ (back : List ℕ). front ++ back) (behind n fits))

-- at least two digits
padded : (n : ℕ) → n < 2 ^ 64 → zero_if (nat_lt n 10) ++ decimal n ≡ (if length (decimal n) == 1 then 48 ∷ decimal n else decimal n)
padded n fits = elim (leb_tells 10 n) [
  | inl h ↦
      let many : (length (decimal n) == 1) ≡ false = grind (arith, nat_tests, length_two n h.1 fits) in
      let large : nat_lt n 10 ≡ false = grind (arith, nat_tests) in
      rw (many, large) refl
  | inr h ↦
      let one : (length (decimal n) == 1) ≡ true = grind (arith, nat_tests, length_digit n h.1) in
      let small : nat_lt n 10 ≡ true = grind (arith, nat_tests) in
      rw (one, small) refl
]

abbrev pub sign_code : Bool → ℕ
sign_code b = if b then 45 else 43

abbrev pub sign_text : Bool → List ℕ
sign_text b = if b then 45 ∷ [] else 43 ∷ []

sign_alone : (b : Bool) → sign_code b ∷ [] ≡ sign_text b
sign_alone true = refl
sign_alone false = refl

-- an exponent
pub exponent_pushed : (old signed mid new : List ℕ) (x : ℤ) (sign size : ℕ) → size ≡ unsigned_abs x → size < 2 ^ 64 → sign ≡ sign_code (int_lt x (pos 0))
    → signed ≡ old ++ sign ∷ [] → mid ≡ signed ++ zero_if (nat_lt size 10) → new ≡ mid ++ decimal size
    → new ≡ old ++ exponent_text x
unfolding exponent_text
exponent_pushed old signed mid new x sign n whole fits e first second third =
    let signs : sign ∷ [] ≡ sign_text (int_lt x (pos 0)) = ap (λ (b : ℕ). b ∷ []) e ∙ sign_alone (int_lt x (pos 0)) in
    third
    ∙ ap (λ (m : List ℕ). m ++ decimal n) (second ∙ ap (λ (m : List ℕ). m ++ zero_if (nat_lt n 10)) first)
    ∙ append_assoc (old ++ sign ∷ []) (zero_if (nat_lt n 10)) (decimal n)
    ∙ ap (λ (back : List ℕ). (old ++ sign ∷ []) ++ back) (padded n fits)
    ∙ append_assoc old (sign ∷ []) (if length (decimal n) == 1 then 48 ∷ decimal n else decimal n)
    ∙ ap (λ (front : List ℕ). old ++ (front ++ (if length (decimal n) == 1 then 48 ∷ decimal n else decimal n))) signs
    ∙ ap (λ (k : ℕ). old ++ (sign_text (int_lt x (pos 0)) ++ (if length (decimal k) == 1 then 48 ∷ decimal k else decimal k))) whole

-- the whole text
pub text_pushed : (n : Number) (minus mid mark new : List ℕ) → minus ≡ minus_if n.negative → mid ≡ minus ++ significand_text n.digits → mark ≡ mid ++ 69 ∷ []
    → new ≡ mark ++ exponent_text (leading_power n) → new ≡ decimal_text_of n
unfolding decimal_text_of
text_pushed n minus mid mark new first second third last =
    last
    ∙ ap (λ (m : List ℕ). m ++ exponent_text (leading_power n))
    (third ∙ ap (λ (m : List ℕ). m ++ 69 ∷ []) (second ∙ ap (λ (m : List ℕ). m ++ significand_text n.digits) first))
