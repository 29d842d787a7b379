-- What is printed is read again.
use Rattle.std.proofs.Common.{◌≡◌, ℕ, ◌+◌, ◌*◌, ◌/◌, ◌%◌, ◌-◌, ◌^◌, ◌<◌, ◌≤◌, List, [], ◌∷◌, ◌++◌, take, drop, length, arith, ap, sym, ◌∙◌, refl, subst, inl, inr, true, false, Bool, ℤ, pos, negsuc, neg_ℤ, ◌+ℤ◌, ◌-ℤ◌, decimal, Some, Ok}
use Rattle.std.specs.Prelude.{◌==◌, ◌&&◌, nat_le, if◌then◌else◌, int_lt, unsigned_abs}
use Rattle.std.specs.Char.{is_ascii_digit, digit_value}
use Rattle.std.specs.Str.Parse.{digits_value, signed_digits_value, starts_with_minus, without_leading_sign}
use Rattle.std.proofs.Math.Nat.{div-one}
use Rattle.std.proofs.lemmas.Bool.{le-ltb, le-leb, and_parts}
use Rattle.std.proofs.lemmas.Bool.Decides.{leb_tells, nat_tests}
use Rattle.std.proofs.lemmas.Fmt.{decimal_digit, decimal-digits_of, length-decimal-le}
use Rattle.std.proofs.lemmas.Int.{ints}
use Rattle.std.proofs.lemmas.List.{append_assoc, length-drop, length-map, take-append-drop}
use Rattle.std.proofs.lemmas.Str.{digit_value_digit}
use Rattle.std.specs.Int.Digits.{digits_of}
use Rattle.cj_base.specs.Decimals.{IsReadable, is_huge, is_tiny}
use Rattle.cj_kvn.specs.Decimals.{decimal_form, decimal_of, decimal_text_of, digit_count, exponent_text, leading_power, minus_if, rounded, significand_text, trailing_zeros, without_trailing_zeros, zero_number}
use Rattle.cj_base.specs.Numbers.{Number}
use Rattle.cj_kvn.specs.Numbers.{are_digits, is_exponent, nearest, number, parts_of}
use Rattle.cj_kvn.specs.Scanning.{exponent_said}
use Rattle.cj_kvn.proofs.CountLemmas.{count_most, count_is, tiny_same, huge_same, tiny_zero}
use Rattle.cj_kvn.proofs.NumberTextLemmas.{Says, decimal_digits, decimal_some, decimal_value, fraction_says, make}
use Rattle.cj_kvn.proofs.PowerLemmas.{nearest_one}
use Rattle.cj_kvn.proofs.PrintLemmas.{length_two, power_of_first, sign_text}
use Rattle.cj_kvn.proofs.ZeroLemmas.{zeros_more, zeros_none}

-- ---- a number of at most 18 digits
short_rounded : (n : Number) → n.digits < 10 ^ 18 → rounded n ≡ n
unfolding rounded
short_rounded n short =
    let none : digit_count n.digits - 18 ≡ 0 = omega (arith, count_most n.digits 18 short) in
    let power : n.power +ℤ pos 0 ≡ n.power = omega (arith, ints) in
    ap (λ (k : ℕ). make n.negative (nearest n.digits (10 ^ k)) (n.power +ℤ pos k)) none
    ∙ ap (λ (d : ℕ). make n.negative d (n.power +ℤ pos 0)) (nearest_one n.digits)
    ∙ ap (λ (z : ℤ). make n.negative n.digits z) power

short_form : (n : Number) → n.digits < 10 ^ 18 → is_tiny n ≡ false → is_huge n ≡ false → decimal_form n ≡ Ok (without_trailing_zeros n)
short_form n short above below = rw (above, short_rounded n short, below) refl

-- with no zero digit at its end
normal_cut : (n : Number) → 0 < n.digits → 0 < n.digits % 10 → without_trailing_zeros n ≡ n
unfolding without_trailing_zeros
normal_cut n some digit =
    let none = zeros_none n.digits some digit in
    let power : n.power +ℤ pos 0 ≡ n.power = omega (arith, ints) in
    ap (λ (k : ℕ). make n.negative (n.digits / 10 ^ k) (n.power +ℤ pos k)) none
    ∙ ap (λ (d : ℕ). make n.negative d (n.power +ℤ pos 0)) (div-one n.digits)
    ∙ ap (λ (z : ℤ). make n.negative n.digits z) power

-- with one
abbrev widened : Number → Number
widened n = make n.negative (n.digits * 10) (n.power -ℤ pos 1)

widened_cut : (n : Number) → 0 < n.digits → 0 < n.digits % 10 → without_trailing_zeros (widened n) ≡ n
unfolding without_trailing_zeros
widened_cut n some digit =
    let back : n.digits * 10 / 10 ≡ n.digits = omega arith in
    let one : trailing_zeros (n.digits * 10) ≡ 1 =
    zeros_more (n.digits * 10) (omega arith) (omega arith) ∙ ap (λ (d : ℕ). trailing_zeros d + 1) back ∙ ap (λ (k : ℕ). k + 1) (zeros_none n.digits some digit) in
    let power : (n.power -ℤ pos 1) +ℤ pos 1 ≡ n.power = omega (arith, ints) in
    ap (λ (k : ℕ). make n.negative (n.digits * 10 / 10 ^ k) ((n.power -ℤ pos 1) +ℤ pos k)) one
    ∙ ap (λ (d : ℕ). make n.negative d ((n.power -ℤ pos 1) +ℤ pos 1)) back
    ∙ ap (λ (z : ℤ). make n.negative n.digits z) power

-- ---- the exponent
abbrev pub padded_if : Bool → List ℕ → List ℕ
padded_if b ds = if b then 48 ∷ ds else ds

padded_all : (b : Bool) (ds : List ℕ) → are_digits ds ≡ true → are_digits (padded_if b ds) ≡ true
padded_all true ds all = all
padded_all false ds all = all

padded_value : (b : Bool) (ds : List ℕ) → digits_value 10 (padded_if b ds) ≡ digits_value 10 ds
padded_value true ds = refl
padded_value false ds = refl

padded_length : (b : Bool) (ds : List ℕ) → 0 < length ds → length ds ≤ 3 → (nat_le 1 (length (padded_if b ds)) ≡ true) × (nat_le (length (padded_if b ds)) 4 ≡ true)
padded_length true ds some few = (le-leb _ _ (omega arith), le-leb _ _ (omega arith))
padded_length false ds some few = (le-leb _ _ (omega arith), le-leb _ _ (omega arith))

pub behind_sign : (b : Bool) (text : List ℕ) → (starts_with_minus (sign_text b ++ text) ≡ b) × (without_leading_sign (sign_text b ++ text) ≡ text)
behind_sign true text = (refl, refl)
behind_sign false text = (refl, refl)

is_exponent_of : (text size : List ℕ) → without_leading_sign text ≡ size → nat_le 1 (length size) ≡ true → nat_le (length size) 4 ≡ true → are_digits size ≡ true
    → is_exponent (Some text) ≡ true
is_exponent_of text size e least most all =
    ap (λ (s : List ℕ). nat_le 1 (length s) && nat_le (length s) 4 && are_digits s) e ∙ rw (least, most, all) refl

signed_of : (x : ℤ) (n : ℕ) → n ≡ unsigned_abs x → (if int_lt x (pos 0) then neg_ℤ (pos n) else pos n) ≡ x
signed_of (pos k) n e =
    let above : int_lt (pos k) (pos 0) ≡ false = le-ltb k 0 (omega arith) in
    rw above (ap pos e)
signed_of (negsuc k) n e = ap (λ (m : ℕ). neg_ℤ (pos m)) e

exponent_reads : (x : ℤ) → unsigned_abs x < 10 ^ 3 → (is_exponent (Some (exponent_text x)) ≡ true) × (signed_digits_value 10 (exponent_text x) ≡ x)
unfolding exponent_text
exponent_reads x small =
    let n = unsigned_abs x in
    let ds = decimal n in
    let b = length ds == 1 in
    let size = padded_if b ds in
    let fits : n < 10 ^ 64 = omega arith in
    let long = padded_length b ds (decimal_some n fits) (length-decimal-le 3 n (omega arith) small (omega arith)) in
    let sign = behind_sign (int_lt x (pos 0)) size in
    let value : digits_value 10 size ≡ n = padded_value b ds ∙ decimal_value n fits in (
      is_exponent_of (sign_text (int_lt x (pos 0)) ++ size) size sign.1 long.0 long.1 (padded_all b ds (decimal_digits n fits)),
      ap (λ (s : List ℕ). if starts_with_minus (sign_text (int_lt x (pos 0)) ++ size) then neg_ℤ (pos (digits_value 10 s)) else pos (digits_value 10 s)) sign.1
          ∙ ap (λ (t : Bool). if t then neg_ℤ (pos (digits_value 10 size)) else pos (digits_value 10 size)) sign.0
          ∙ signed_of x (digits_value 10 size) value,
    )

exponent_told : (x : ℤ) → unsigned_abs x < 10 ^ 3 → exponent_said (69 ∷ exponent_text x) ≡ Some x
exponent_told x small =
    let reads = exponent_reads x small in
    rw reads.0 (ap (λ (z : ℤ). Some z) reads.1)

-- ---- the whole text
regrouped : (m d f x : List ℕ) → ((m ++ ((d ++ 46 ∷ []) ++ f)) ++ 69 ∷ []) ++ x ≡ m ++ (d ++ 46 ∷ (f ++ 69 ∷ x))
regrouped m d f x = simp append_assoc

abbrev pub first_digit : ℕ → List ℕ
first_digit n = take 1 (decimal n)

abbrev pub other_digits : ℕ → List ℕ
other_digits n = if length (decimal n) == 1 then 48 ∷ [] else drop 1 (decimal n)

text_shape : (n : Number) → decimal_text_of n ≡ minus_if n.negative ++ (first_digit n.digits ++ 46 ∷ (other_digits n.digits ++ 69 ∷ exponent_text (leading_power n)))
unfolding decimal_text_of significand_text
text_shape n = regrouped (minus_if n.negative) (first_digit n.digits) (other_digits n.digits) (exponent_text (leading_power n))

take_all_digits : (ds : List ℕ) → are_digits ds ≡ true → are_digits (take 1 ds) ≡ true
take_all_digits [] all = refl
take_all_digits (c ∷ ds) all = rw (and_parts (is_ascii_digit c) (are_digits ds) all).0 refl

take_some : (ds : List ℕ) → 0 < length ds → 0 < length (take 1 ds)
take_some [] some = absurd (omega arith)
take_some (c ∷ ds) some = omega arith

drop_all_digits : (ds : List ℕ) → are_digits ds ≡ true → are_digits (drop 1 ds) ≡ true
drop_all_digits [] all = refl
drop_all_digits (c ∷ ds) all = (and_parts (is_ascii_digit c) (are_digits ds) all).1

other_all : (b : Bool) (ds : List ℕ) → are_digits ds ≡ true → are_digits (if b then 48 ∷ [] else drop 1 ds) ≡ true
other_all true ds all = refl
other_all false ds all = drop_all_digits ds all

pub record HasDigits (n : ℕ) : Type 0 where
  pub first : are_digits (first_digit n) ≡ true
  pub some : 0 < length (first_digit n)
  pub others : are_digits (other_digits n) ≡ true

pub digits_of_number : (n : ℕ) → n < 10 ^ 18 → HasDigits n
digits_of_number n short =
    let fits : n < 10 ^ 64 = omega arith in
    let all = decimal_digits n fits in
    record {
      first = take_all_digits (decimal n) all;
      some = take_some (decimal n) (decimal_some n fits);
      others = other_all (length (decimal n) == 1) (decimal n) all;
    }

-- ---- the number that the text says
first_power : (n : Number) → 0 < n.digits → n.digits < 10 ^ 18 → leading_power n ≡ n.power +ℤ pos (length (decimal n.digits) - 1)
unfolding leading_power digit_count
first_power n some short =
    let not_zero : (n.digits == 0) ≡ false = grind (arith, nat_tests) in
    let long : length (decimal n.digits) ≡ length (digits_of 10 n.digits) =
    ap length (decimal-digits_of n.digits some (omega arith)) ∙ length-map (digits_of 10 n.digits) (λ (d : ℕ). 48 + d) in
    rw not_zero (ap (λ (k : ℕ). n.power +ℤ pos (k - 1)) (sym long))

two_digits : (d : ℕ) → d < 10 → digits_value 10 ((48 + d) ∷ 48 ∷ []) ≡ d * 10
two_digits d small =
    let first : digit_value (48 + d) ≡ d = omega (arith, digit_value_digit (48 + d) (omega arith, omega arith)) in
    ap (λ (k : ℕ). (0 * 10 + k) * 10 + 0) first ∙ omega arith

-- a number of two digits or more
printed_many : (n : Number) → 10 ≤ n.digits → n.digits < 10 ^ 18
    → make n.negative (digits_value 10 (first_digit n.digits ++ other_digits n.digits)) (leading_power n -ℤ pos (length (other_digits n.digits))) ≡ n
printed_many n large short =
    let ds = decimal n.digits in
    let fits : n.digits < 2 ^ 64 = omega arith in
    let many : (length ds == 1) ≡ false = grind (arith, nat_tests, length_two n.digits large fits) in
    let other : other_digits n.digits ≡ drop 1 ds = rw many refl in
    let value : digits_value 10 (take 1 ds ++ other_digits n.digits) ≡ n.digits =
    ap (λ (f : List ℕ). digits_value 10 (take 1 ds ++ f)) other ∙ ap (digits_value 10) (take-append-drop 1 ds) ∙ decimal_value n.digits (omega arith) in
    let long : length (other_digits n.digits) ≡ length ds - 1 = ap length other ∙ length-drop 1 ds in
    let first : leading_power n ≡ n.power +ℤ pos (length ds - 1) = first_power n (omega arith) short in
    let power : leading_power n -ℤ pos (length (other_digits n.digits)) ≡ n.power = omega (arith, ints, first, long) in
    ap (λ (d : ℕ). make n.negative d (leading_power n -ℤ pos (length (other_digits n.digits)))) value ∙ ap (λ (z : ℤ). make n.negative n.digits z) power

-- a number of one digit
printed_one : (n : Number) → n.digits < 10
    → make n.negative (digits_value 10 (first_digit n.digits ++ other_digits n.digits)) (leading_power n -ℤ pos (length (other_digits n.digits)))
    ≡ make n.negative (n.digits * 10) (leading_power n -ℤ pos 1)
printed_one n small =
    let ds = decimal n.digits in
    let d = 48 + n.digits in
    let alone : ds ≡ d ∷ [] = decimal_digit n.digits small in
    let value : digits_value 10 (d ∷ 48 ∷ []) ≡ n.digits * 10 = two_digits n.digits small in
    let whole : take 1 ds ++ other_digits n.digits ≡ d ∷ 48 ∷ [] = ap (λ (xs : List ℕ). take 1 xs ++ (if length xs == 1 then 48 ∷ [] else drop 1 xs)) alone in
    let long : length (other_digits n.digits) ≡ 1 = ap (λ (xs : List ℕ). length (if length xs == 1 then 48 ∷ [] else drop 1 xs)) alone in
    ap (λ (t : ℕ). make n.negative t (leading_power n -ℤ pos (length (other_digits n.digits)))) (ap (digits_value 10) whole ∙ value)
    ∙ ap (λ (k : ℕ). make n.negative (n.digits * 10) (leading_power n -ℤ pos k)) long

-- ---- each kind of number
again_many : (n : Number) → 10 ≤ n.digits → n.digits < 10 ^ 18 → 0 < n.digits % 10 → is_tiny n ≡ false → is_huge n ≡ false → decimal_form n ≡ Ok n
again_many n large short digit above below = short_form n short above below ∙ ap (λ (m : Number). Ok m) (normal_cut n (omega arith) digit)

again_one : (n : Number) → 0 < n.digits → n.digits < 10 → is_tiny n ≡ false → is_huge n ≡ false → decimal_form (widened n) ≡ Ok n
again_one n some small above below =
    let one : digit_count n.digits ≡ 1 = count_is n.digits 0 (omega arith) (omega arith) in
    let two : digit_count (n.digits * 10) ≡ 2 = count_is (n.digits * 10) 1 (omega arith) (omega arith) in
    let same : n.power +ℤ pos (digit_count n.digits) ≡ (n.power -ℤ pos 1) +ℤ pos (digit_count (n.digits * 10)) = omega (arith, ints) in
    let more : 0 < n.digits * 10 = omega arith in
    short_form (widened n) (omega arith) (sym (tiny_same n (widened n) some more same) ∙ above) (sym (huge_same n (widened n) some more same) ∙ below)
    ∙ ap (λ (m : Number). Ok m) (widened_cut n some (omega arith))

again_zero : (n m : Number) → n ≡ zero_number → m.digits ≡ 0 → decimal_form m ≡ Ok n
again_zero n m zero none = rw (tiny_zero m none) (ap (λ (k : Number). Ok k) (sym zero))

-- a number with no zero digit at its end, and zero as it is written
pub record IsNormal (n : Number) : Type 0 where
  pub short : n.digits < 10 ^ 18
  pub zero : n.digits % 10 ≡ 0 → n ≡ zero_number

some_digit : (n : Number) → IsNormal n → 0 < n.digits → 0 < n.digits % 10
some_digit n normal some = elim (leb_tells 1 (n.digits % 10)) [
  | inl h ↦ h.1
  | inr h ↦ absurd (omega (arith, ap (λ (m : Number). m.digits) (normal.zero (omega (arith, h.1)))))
]

few_again : (n m : Number) → IsNormal n → IsReadable n → n.digits < 10 → m ≡ make n.negative (n.digits * 10) (leading_power n -ℤ pos 1) → decimal_form m ≡ Ok n
few_again n m normal readable small e = elim (leb_tells 1 n.digits) [
  | inl h ↦
      let not_zero : (n.digits == 0) ≡ false = grind (arith, nat_tests) in
      let first = power_of_first n 0 h.1 h.1 small in
      let power : leading_power n -ℤ pos 1 ≡ n.power -ℤ pos 1 = omega (arith, ints, first) in
      ap decimal_form (e ∙ ap (λ (z : ℤ). make n.negative (n.digits * 10) z) power) ∙ again_one n h.1 small (readable.0 ∙ not_zero) readable.1
  | inr h ↦
      let none : n.digits ≡ 0 = omega (arith, h.1) in
      again_zero n m (normal.zero (ap (λ (d : ℕ). d % 10) none)) (ap (λ (k : Number). k.digits) e ∙ ap (λ (d : ℕ). d * 10) none)
]

form_again : (n m : Number) → IsNormal n → IsReadable n
    → m ≡ make n.negative (digits_value 10 (first_digit n.digits ++ other_digits n.digits)) (leading_power n -ℤ pos (length (other_digits n.digits)))
    → decimal_form m ≡ Ok n
form_again n m normal readable e = elim (leb_tells 10 n.digits) [
  | inl h ↦
      let digit : 0 < n.digits % 10 = some_digit n normal (omega (arith, h.1)) in
      let not_zero : (n.digits == 0) ≡ false = grind (arith, nat_tests) in
      ap decimal_form (e ∙ printed_many n h.1 normal.short) ∙ again_many n h.1 normal.short digit (readable.0 ∙ not_zero) readable.1
  | inr h ↦ few_again n m normal readable h.1 (e ∙ printed_one n h.1)
]

pub again : (n : Number) → IsNormal n → IsReadable n → unsigned_abs (leading_power n) < 10 ^ 3 → decimal_of (decimal_text_of n) ≡ Ok n
again n normal readable small =
    let first = first_digit n.digits in
    let other = other_digits n.digits in
    let power = leading_power n in
    let has = digits_of_number n.digits normal.short in
    let shaped = fraction_says n.negative first other (69 ∷ exponent_text power) power has.first has.some has.others refl (exponent_told power small) in
    let says = subst (λ (t : List ℕ). Says t (make n.negative (digits_value 10 (first ++ other)) (power -ℤ pos (length other)))) (sym (text_shape n)) shaped in
    rw says.form (form_again n (number (parts_of (decimal_text_of n))) normal readable says.value)

pub zero_is : (n : Number) → n.negative ≡ false → n.digits ≡ 0 → n.power ≡ pos 0 → n ≡ zero_number
zero_is n sign none power =
    ap (λ (b : Bool). make b n.digits n.power) sign ∙ ap (λ (d : ℕ). make false d n.power) none ∙ ap (λ (z : ℤ). make false 0 z) power
