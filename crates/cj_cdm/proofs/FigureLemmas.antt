-- Numbers are read from what is written of them, and from nothing else.
use Rattle.std.proofs.Common.{◌≡◌, ℕ, suc, ◌-◌, ◌/◌, ◌%◌, ◌^◌, ◌<◌, ◌≤◌, Bool, true, false, List, [], ◌∷◌, ◌++◌, length, ap, sym, ◌∙◌, refl, subst, inl, inr, arith, append_assoc, append-nil, None, Some, Result, Err, Ok, ℤ, pos, negsuc, ◌+ℤ◌, ◌-ℤ◌, decimal}
use Rattle.std.specs.Prelude.{◌&&◌, ◌||◌, ◌==◌, not, nat_le, nat_lt, int_le, int_lt, neg_ℤ, ◌≤ℤ◌, ◌<ℤ◌, if◌then◌else◌, codes, option_and_then, unsigned_abs}
use Rattle.std.specs.Char.{is_ascii_digit}
use Rattle.std.specs.List.{after_first, before_first, list_any}
use Rattle.std.specs.Result.{result_ok}
use Rattle.std.specs.Str.Parse.{digits_value, digits_value_after, starts_with_minus, without_leading_sign}
use Rattle.std.proofs.Math.Nat.{div-le_self}
use Rattle.std.proofs.lemmas.Bool.{and_parts, eqb-true, lt-ltb, not-true}
use Rattle.std.proofs.lemmas.Bool.Decides.{leb_tells, nat_tests}
use Rattle.std.proofs.lemmas.Fmt.{decimal_digit}
use Rattle.std.proofs.lemmas.Int.{ints}
use Rattle.cj_base.specs.Numbers.{Number}
use Rattle.cj_kvn.specs.Numbers.{are_digits, scaled_of}
use Rattle.cj_kvn.specs.Scanning.{exponent_said}
use Rattle.cj_base.specs.Decimals.{IsReadable, shifted}
use Rattle.cj_base.specs.declared.decimals.Decimal.{Decimal}
use Rattle.cj_kvn.specs.Decimals.{decimal_form, decimal_of, decimal_text_of, digit_count, exponent_text, leading_power, minus_if, number_read, significand_text, zero_number}
use Rattle.cj_kvn.proofs.AgainLemmas as kvn
use Rattle.cj_kvn.proofs.AgainLemmas.{IsNormal, behind_sign, digits_of_number, first_digit, other_digits, padded_if}
use Rattle.cj_kvn.proofs.CountLemmas.{count_most, count_pos, huge_no, tiny_no}
use Rattle.cj_kvn.proofs.DecimalLemmas.{zero_readable}
use Rattle.cj_kvn.proofs.NumberTextLemmas.{Says, decimal_digits, decimal_some, decimal_value, decimals_say, decimals_shape, fraction_says, make, scaled_told, signed_digits, signed_is, whole_says}
use Rattle.cj_kvn.proofs.PrintLemmas.{sign_text}
use Rattle.cj_kvn.specs.declared.numbers.NumFault.{NumFault}
use Rattle.cj_kvn.proofs.ListLemmas.{HeadFails}
use Rattle.cj_base.specs.Bytes.{is_feed}
use Rattle.cj_cdm.specs.Texts.{fixed_text, kilometres, last_digits, metres, number_text}
use Rattle.cj_cdm.specs.Values.{axis_value_said, behind_front, decimal_said, element_said, fixed_said, id_said, is_axis_value, is_decimal, is_mark, is_miss, is_number, is_power, is_short, is_zero, kept, kilometres_said, miss_said, natural, number_said, scientific}
use Rattle.cj_cdm.proofs.DigitLemmas.{last_are_digits, last_length, last_value}
use Rattle.cj_cdm.proofs.LineLemmas.{IsSaid, and_then_is, cut_at, front_found, front_is}
use Rattle.cj_cdm.proofs.ValueLemmas.{digit_apart, free_joined, kept_found, kept_is, none_among, none_joined, unit_law, written_again, written_only, digits_free}

-- ---- numbers with so many decimals
size_short : (z : ℤ) → is_short z ≡ true → unsigned_abs z < 10 ^ 36
size_short z short = grind (arith, nat_tests)

quotient_fits : (n k : ℕ) → n < 10 ^ 36 → n / 10 ^ k < 10 ^ 64
quotient_fits n k small = omega (arith, div-le_self n (10 ^ k))

fixed_read : (places : ℕ) (z : ℤ) → is_short z ≡ true → scaled_of places (fixed_text places z) ≡ Ok z
unfolding fixed_text
fixed_read places z short =
    let size = unsigned_abs z in
    let b = int_lt z (pos 0) in
    let whole = size / 10 ^ places in
    let f = last_digits places size in
    let fits = quotient_fits size places (size_short z short) in
    let says = decimals_say places b whole f size fits (last_are_digits places size) (last_length places size) (last_value places size) in
    ap (scaled_of places) (decimals_shape (minus_if b) (decimal whole) f)
    ∙ scaled_told places (minus_if b ++ (decimal whole ++ 46 ∷ f)) b size says (let e : nat_le size (10 ^ 36) ≡ true = grind (arith, nat_tests) in e)
    ∙ ap (λ (y : ℤ). Ok y) (signed_is z)

minus_none : (p : ℕ → Bool) → p 45 ≡ false → (b : Bool) → list_any p (minus_if b) ≡ false
minus_none p none true = rw none refl
minus_none p none false = refl

fixed_free : (places : ℕ) (z : ℤ) → is_short z ≡ true → list_any is_feed (fixed_text places z) ≡ false
unfolding fixed_text
fixed_free places z short =
    let size = unsigned_abs z in
    let w = decimal (size / 10 ^ places) in
    let fits = quotient_fits size places (size_short z short) in
    free_joined ((minus_if (int_lt z (pos 0)) ++ w) ++ 46 ∷ []) (last_digits places size)
    (free_joined (minus_if (int_lt z (pos 0)) ++ w) (46 ∷ []) (free_joined (minus_if (int_lt z (pos 0))) w (minus_none is_feed refl (int_lt z (pos 0))) (digits_free w (decimal_digits (size / 10 ^ places) fits))) refl)
    (digits_free (last_digits places size) (last_are_digits places size))

fixed_law : (places : ℕ) → IsSaid (fixed_said places) (λ z. fixed_text places z) (λ z. is_short z ≡ true)
unfolding fixed_said
fixed_law places = record {
  only = λ t z h.
      let written = written_only (λ y. fixed_text places y) t (kept is_short (result_ok (scaled_of places t))) z h in
      (written.0, (kept_is is_short (result_ok (scaled_of places t)) z written.1).1);
  again = λ z fit.
      let t = fixed_text places z in
      written_again (λ y. fixed_text places y) (kept is_short (result_ok (scaled_of places t))) z
      (kept_found is_short (result_ok (scaled_of places t)) z (ap result_ok (fixed_read places z fit)) fit);
  lone = λ z fit. fixed_free places z fit;
}

pub kilometres_law : (unit : List ℕ) → list_any is_feed unit ≡ false → IsSaid (kilometres_said unit) (λ z. kilometres z ++ codes " [" ++ unit ++ codes "]") (λ z. is_short z ≡ true)
kilometres_law unit free = unit_law (λ t. fixed_said 12 t) (λ z. fixed_text 12 z) (λ z. is_short z ≡ true) unit free (fixed_law 12)

-- ---- miss distances
natural_is : (z : ℤ) (n : ℕ) → natural z ≡ Some n → z ≡ pos n
natural_is (pos k) n h = cc
natural_is (negsuc k) n h = absurd cc

miss_short : (n : ℕ) → is_miss n ≡ true → is_short (pos n) ≡ true
miss_short n is = grind (arith, nat_tests)

metres_law : IsSaid (λ t. kept is_miss (option_and_then natural (fixed_said 9 t))) (λ n. metres (pos n)) (λ n. is_miss n ≡ true)
metres_law = record {
  only = λ t n h.
      let fit = kept_is is_miss (option_and_then natural (fixed_said 9 t)) n h in
      let found = and_then_is natural (fixed_said 9 t) n fit.0 in
      let written = (fixed_law 9).only t found.0 found.1 in
      (written.0 ∙ ap (λ (z : ℤ). fixed_text 9 z) (natural_is found.0 n found.2), fit.1);
  again = λ n fit. kept_found is_miss (option_and_then natural (fixed_said 9 (metres (pos n)))) n (ap (option_and_then natural) ((fixed_law 9).again (pos n) (miss_short n fit))) fit;
  lone = λ n fit. (fixed_law 9).lone (pos n) (miss_short n fit);
}

pub miss_law : IsSaid miss_said (λ n. metres (pos n) ++ codes " [" ++ codes "m" ++ codes "]") (λ n. is_miss n ≡ true)
miss_law = unit_law (λ t. kept is_miss (option_and_then natural (fixed_said 9 t))) (λ n. metres (pos n)) (λ n. is_miss n ≡ true) (codes "m") refl metres_law

-- ---- values along axes
le_is : (x y : ℤ) → int_le x y ≡ true → x ≤ℤ y
le_is x y h = grind (arith, ints)

lt_is : (x y : ℤ) → int_lt x y ≡ true → x <ℤ y
lt_is x y h = grind (arith, ints)

axis_short : (z : ℤ) → is_axis_value z ≡ true → is_short z ≡ true
axis_short z is =
    let parts = and_parts (int_le (neg_ℤ (pos (2 ^ 63))) z) (int_lt z (pos (2 ^ 63))) is in
    let low = le_is (neg_ℤ (pos (2 ^ 63))) z parts.0 in
    let high = lt_is z (pos (2 ^ 63)) parts.1 in
    let small : unsigned_abs z < 10 ^ 36 = omega (arith, ints, low, high) in
    lt-ltb (unsigned_abs z) (10 ^ 36) small

axis_metres_law : IsSaid (λ t. kept is_axis_value (fixed_said 9 t)) (λ z. metres z) (λ z. is_axis_value z ≡ true)
axis_metres_law = record {
  only = λ t z h.
      let fit = kept_is is_axis_value (fixed_said 9 t) z h in
      (((fixed_law 9).only t z fit.0).0, fit.1);
  again = λ z fit. kept_found is_axis_value (fixed_said 9 (metres z)) z ((fixed_law 9).again z (axis_short z fit)) fit;
  lone = λ z fit. (fixed_law 9).lone z (axis_short z fit);
}

pub axis_value_law : (unit : List ℕ) → list_any is_feed unit ≡ false → IsSaid (axis_value_said unit) (λ z. metres z ++ codes " [" ++ unit ++ codes "]") (λ z. is_axis_value z ≡ true)
axis_value_law unit free = unit_law (λ t. kept is_axis_value (fixed_said 9 t)) (λ z. metres z) (λ z. is_axis_value z ≡ true) unit free axis_metres_law

-- ---- the numbers of messages
record IsFigures (text : List ℕ) (n : ℕ) : Type 0 where
  all : are_digits text ≡ true
  some : 0 < length text
  value : digits_value 10 text ≡ n

few_figures : (n : ℕ) → n < 1_000_000 → IsFigures (last_digits 6 n) n
few_figures n few = record {
  all = last_are_digits 6 n;
  some = omega (arith, last_length 6 n);
  value = ap (λ (v : ℕ). digits_value_after 10 v (last_digits 6 n)) (let e : 0 ≡ n / 10 ^ 6 = omega arith in e) ∙ last_value 6 n;
}

many_figures : (n : ℕ) → n < 10 ^ 64 → IsFigures (decimal n) n
many_figures n fits = record { all = decimal_digits n fits; some = decimal_some n fits; value = decimal_value n fits }

figures_by : (n : ℕ) (b : Bool) → nat_lt n 1_000_000 ≡ b → n < 2 ^ 32 → IsFigures (if b then last_digits 6 n else decimal n) n
figures_by n true e fits = few_figures n (grind (arith, nat_tests))
figures_by n false e fits = many_figures n (omega arith)

figures : (n : ℕ) → n < 2 ^ 32 → IsFigures (number_text n) n
figures n fits = figures_by n (nat_lt n 1_000_000) refl fits

figures_read : (text : List ℕ) (n : ℕ) → n < 2 ^ 32 → IsFigures text n → scaled_of 0 text ≡ Ok (pos n)
figures_read text n fits is =
    let same : text ++ [] ≡ text = append-nil text in
    let signs = signed_digits false text [] is.some is.all in
    let sign : starts_with_minus text ≡ false = ap starts_with_minus (sym same) ∙ signs.0 in
    let unsigned : without_leading_sign text ≡ text = ap without_leading_sign (sym same) ∙ signs.1 ∙ same in
    let says = whole_says text text false sign unsigned is.all is.some in
    scaled_told 0 text false n (record { form = says.form; value = says.value ∙ ap (λ (v : ℕ). make false v (pos 0 -ℤ pos 0)) is.value }) (let e : nat_le n (10 ^ 36) ≡ true = grind (arith, nat_tests) in e)

number_small : (n : ℕ) → is_number n ≡ true → n < 2 ^ 32
number_small n is = let parts = and_parts (nat_le 1 n) (nat_lt n (2 ^ 32)) is in grind (arith, nat_tests)

number_law : IsSaid number_said number_text (λ n. is_number n ≡ true)
unfolding number_said
number_law = record {
  only = λ t n h.
      let read = option_and_then natural (result_ok (scaled_of 0 t)) in
      let written = written_only number_text t (kept is_number read) n h in
      (written.0, (kept_is is_number read n written.1).1);
  again = λ n fit.
      let t = number_text n in
      let small = number_small n fit in
      let read = option_and_then natural (result_ok (scaled_of 0 t)) in
      written_again number_text (kept is_number read) n (kept_found is_number read n (ap (λ (r : Result ℤ NumFault). option_and_then natural (result_ok r)) (figures_read t n small (figures n small))) fit);
  lone = λ n fit. digits_free (number_text n) (figures n (number_small n fit)).all;
}

pub id_law : (originator : List ℕ) → list_any is_feed originator ≡ false → IsSaid (id_said originator) (λ n. originator ++ codes "_" ++ number_text n) (λ n. is_number n ≡ true)
id_law originator free = record {
  only = λ t n h.
      let front = originator ++ codes "_" in
      let found = and_then_is number_said (behind_front front t) n h in
      let number = number_law.only found.0 n found.2 in
      (front_is front t found.0 found.1 ∙ ap (λ (v : List ℕ). front ++ v) number.0, number.1);
  again = λ n fit. ap (option_and_then number_said) (front_found (originator ++ codes "_") (number_text n)) ∙ number_law.again n fit;
  lone = λ n fit. free_joined (originator ++ codes "_") (number_text n) (free_joined originator (codes "_") free refl) (number_law.lone n fit);
}

-- ---- powers of ten
padded_figures : (b : Bool) (ds : List ℕ) (n : ℕ) → IsFigures ds n → IsFigures (padded_if b ds) n
padded_figures true ds n is = record { all = is.all; some = omega arith; value = is.value }
padded_figures false ds n is = is

power_figures : (x : ℤ) → unsigned_abs x < 1000 → IsFigures (padded_if (length (decimal (unsigned_abs x)) == 1) (decimal (unsigned_abs x))) (unsigned_abs x)
power_figures x small = padded_figures (length (decimal (unsigned_abs x)) == 1) (decimal (unsigned_abs x)) (unsigned_abs x) (many_figures (unsigned_abs x) (omega arith))

power_read : (x : ℤ) → unsigned_abs x < 1000 → scaled_of 0 (exponent_text x) ≡ Ok x
unfolding exponent_text
power_read x small =
    let n = unsigned_abs x in
    let b = int_lt x (pos 0) in
    let ds = padded_if (length (decimal n) == 1) (decimal n) in
    let is = power_figures x small in
    let signs = behind_sign b ds in
    let says = whole_says (sign_text b ++ ds) ds b signs.0 signs.1 is.all is.some in
    scaled_told 0 (sign_text b ++ ds) b n (record { form = says.form; value = says.value ∙ ap (λ (v : ℕ). make b v (pos 0 -ℤ pos 0)) is.value }) (let e : nat_le n (10 ^ 36) ≡ true = grind (arith, nat_tests) in e)
    ∙ ap (λ (y : ℤ). Ok y) (signed_is x)

-- ---- the digits of an element

abbrev front_text : Number → List ℕ
front_text n = minus_if n.negative ++ significand_text n.digits

front_shape : (m d f rest : List ℕ) → (m ++ ((d ++ 46 ∷ []) ++ f)) ++ rest ≡ m ++ (d ++ 46 ∷ (f ++ rest))
front_shape m d f rest = simp append_assoc

-- what stands before the mark says the same as with a power of ten that is 1
abbrev front_number : Number → Number
front_number n = make n.negative (digits_value 10 (first_digit n.digits ++ other_digits n.digits)) (pos 0 -ℤ pos (length (other_digits n.digits)))

front_says : (n : Number) (rest : List ℕ) → n.digits < 10 ^ 18 → HeadFails is_ascii_digit rest → exponent_said rest ≡ Some (pos 0) → Says (front_text n ++ rest) (front_number n)
unfolding significand_text
front_says n rest short stops exponent =
    let has = digits_of_number n.digits short in
    let says = fraction_says n.negative (first_digit n.digits) (other_digits n.digits) rest (pos 0) has.first has.some has.others stops exponent in
    subst (λ (t : List ℕ). Says t (front_number n)) (sym (front_shape (minus_if n.negative) (first_digit n.digits) (other_digits n.digits) rest)) says

decimal_by : (text : List ℕ) (n : Number) → Says text n → decimal_of text ≡ decimal_form n
decimal_by text n says = rw says.form (ap decimal_form says.value)

no_power : exponent_text (pos 0) ≡ 43 ∷ 48 ∷ 48 ∷ []
unfolding exponent_text
no_power = rw (decimal_digit 0 (omega arith)) refl

front_same : (n : Number) → n.digits < 10 ^ 18 → decimal_of (front_text n) ≡ decimal_of (front_text n ++ 69 ∷ exponent_text (pos 0))
front_same n short =
    let with_power : decimal_of (front_text n ++ 69 ∷ 43 ∷ 48 ∷ 48 ∷ []) ≡ decimal_form (front_number n) = decimal_by (front_text n ++ 69 ∷ 43 ∷ 48 ∷ 48 ∷ []) (front_number n) (front_says n (69 ∷ 43 ∷ 48 ∷ 48 ∷ []) short refl refl) in
    let alone : decimal_of (front_text n ++ []) ≡ decimal_form (front_number n) = decimal_by (front_text n ++ []) (front_number n) (front_says n [] short tt refl) in
    ap decimal_of (sym (append-nil (front_text n))) ∙ alone ∙ sym with_power ∙ ap (λ (t : List ℕ). decimal_of (front_text n ++ 69 ∷ t)) (sym no_power)

-- ---- elements
record IsElement (n : Number) : Type 0 where
  short : n.digits < 10 ^ 18
  zero : n.digits % 10 ≡ 0 → n ≡ zero_number
  power : unsigned_abs n.power ≤ 200

zero_from : (n : Number) → is_zero n ≡ true → n ≡ zero_number
zero_from n is =
    let power = and_parts ((n.digits == 0) && not n.negative) (unsigned_abs n.power == 0) is in
    let digits = and_parts (n.digits == 0) (not n.negative) power.0 in
    kvn.zero_is n (not-true n.negative digits.1) (eqb-true n.digits 0 digits.0) (power_zero n.power power.1)
  where
    power_zero : (z : ℤ) → (unsigned_abs z == 0) ≡ true → z ≡ pos 0
    power_zero (pos k) h = ap (λ (j : ℕ). pos j) (eqb-true k 0 h)
    power_zero (negsuc k) h = absurd (let e : suc k ≡ 0 = eqb-true (suc k) 0 h in omega arith)

element_from : (n : Number) → is_decimal n ≡ true → IsElement n
unfolding is_decimal
element_from n is =
    let power = and_parts (nat_lt n.digits (10 ^ 18) && (not (n.digits % 10 == 0) || is_zero n)) (nat_le (unsigned_abs n.power) 200) is in
    let digits = and_parts (nat_lt n.digits (10 ^ 18)) (not (n.digits % 10 == 0) || is_zero n) power.0 in
    record {
      short = grind (arith, nat_tests);
      zero = λ last. zero_from n (by_digit (n.digits % 10 == 0) (let e : (n.digits % 10 == 0) ≡ true = grind (arith, nat_tests) in e) digits.1);
      power = grind (arith, nat_tests);
    }
  where
    by_digit : (b : Bool) → b ≡ true → (not b || is_zero n) ≡ true → is_zero n ≡ true
    by_digit true e h = h
    by_digit false e h = absurd cc

-- the number with its first digit before the point
abbrev scaled_front : Number → Number
scaled_front n = make n.negative n.digits (n.power -ℤ leading_power n)

record IsFront (n : Number) : Type 0 where
  normal : IsNormal (scaled_front n)
  readable : IsReadable (scaled_front n)
  lead : leading_power (scaled_front n) ≡ pos 0
  back : shifted (scaled_front n) (leading_power n) ≡ n
  power : unsigned_abs (leading_power n) < 1000

zero_front : (n : Number) → n ≡ zero_number → IsFront n
unfolding leading_power
zero_front n e = subst IsFront (sym e) (record {
  normal = record { short = omega arith; zero = λ last. refl };
  readable = zero_readable;
  lead = refl;
  back = refl;
  power = omega arith;
})

some_front : (n : Number) → 0 < n.digits → IsElement n → IsFront n
unfolding leading_power
some_front n some is =
    let count = digit_count n.digits in
    let not_zero : (n.digits == 0) ≡ false = grind (arith, nat_tests) in
    let least = count_pos n.digits some in
    let most = count_most n.digits 18 is.short in
    let lead : leading_power n ≡ n.power +ℤ pos (count - 1) = rw not_zero refl in
    let first : (scaled_front n).power ≡ pos 0 -ℤ pos (count - 1) = omega (arith, ints, lead) in
    record {
      normal = record { short = is.short; zero = λ last. absurd (omega (arith, some, ap (λ (m : Number). m.digits) (is.zero last))) };
      readable = (
        tiny_no (scaled_front n) some (omega (arith, ints, first, least)) ∙ sym not_zero,
        huge_no (scaled_front n) (omega (arith, ints, first, least)),
      );
      lead = rw not_zero (omega (arith, ints, first));
      back = rw not_zero (ap (λ (z : ℤ). make n.negative n.digits z) (omega (arith, ints)));
      power = omega (arith, ints, lead, least, most, is.power);
    }

front_of : (n : Number) → IsElement n → IsFront n
front_of n is = elim (leb_tells 1 n.digits) [
  | inl h ↦ some_front n h.1 is
  | inr h ↦ zero_front n (is.zero (let e : n.digits % 10 ≡ 0 = omega (arith, h.1) in e))
]

whole_shape : (s x : List ℕ) → (s ++ 69 ∷ []) ++ x ≡ s ++ 69 ∷ x
whole_shape s x = append_assoc s (69 ∷ []) x

front_read : (n : Number) → IsElement n → IsFront n → decimal_of (front_text n) ≡ Ok (scaled_front n)
unfolding decimal_text_of
front_read n is front =
    let m = scaled_front n in
    let text : decimal_text_of m ≡ front_text n ++ 69 ∷ exponent_text (pos 0) = ap (λ (z : ℤ). (front_text n ++ 69 ∷ []) ++ exponent_text z) front.lead ∙ whole_shape (front_text n) (exponent_text (pos 0)) in
    let small : unsigned_abs (leading_power m) < 10 ^ 3 = omega (arith, ints, ap unsigned_abs front.lead) in
    front_same n is.short ∙ ap decimal_of (sym text) ∙ kvn.again m front.normal front.readable small

-- no byte of these kinds is within the digits
mark_apart : (b : ℕ) → is_ascii_digit b ≡ true → is_mark b ≡ false
mark_apart b digit = grind (arith, nat_tests)

front_none : (p : ℕ → Bool) → ((b : ℕ) → is_ascii_digit b ≡ true → p b ≡ false) → p 45 ≡ false → p 46 ≡ false → (n : Number) → n.digits < 10 ^ 18 → list_any p (front_text n) ≡ false
unfolding significand_text
front_none p apart dash point n short =
    let has = digits_of_number n.digits short in
    none_joined p (minus_if n.negative) ((first_digit n.digits ++ 46 ∷ []) ++ other_digits n.digits) (minus_none p dash n.negative)
    (none_joined p (first_digit n.digits ++ 46 ∷ []) (other_digits n.digits)
    (none_joined p (first_digit n.digits) (46 ∷ []) (none_among p is_ascii_digit apart (first_digit n.digits) has.first) (rw point refl))
    (none_among p is_ascii_digit apart (other_digits n.digits) has.others))

sign_free : (b : Bool) → list_any is_feed (sign_text b) ≡ false
sign_free true = refl
sign_free false = refl

power_free : (x : ℤ) → unsigned_abs x < 1000 → list_any is_feed (exponent_text x) ≡ false
unfolding exponent_text
power_free x small =
    free_joined (sign_text (int_lt x (pos 0))) (padded_if (length (decimal (unsigned_abs x)) == 1) (decimal (unsigned_abs x))) (sign_free (int_lt x (pos 0)))
    (digits_free (padded_if (length (decimal (unsigned_abs x)) == 1) (decimal (unsigned_abs x))) (power_figures x small).all)

scientific_by : (text front behind : List ℕ) (m n : Number) (x : ℤ) → before_first is_mark text ≡ front → after_first is_mark text ≡ behind → decimal_of front ≡ Ok m → scaled_of 0 behind ≡ Ok x
    → is_power x ≡ true → shifted m x ≡ n → scientific text ≡ Some n
scientific_by text front behind m n x before after significand power fits back =
    rw (before, after, significand, power, fits) (ap (λ (k : Number). Some k) back)

-- the same of what was read
pub scientific_told : (text front behind : List ℕ) (m n : Number) (x : ℤ) → front ≡ before_first is_mark text → behind ≡ after_first is_mark text → decimal_of front ≡ Ok m
    → Some x ≡ kept is_power (result_ok (scaled_of 0 behind)) → n ≡ shifted m x → Some n ≡ scientific text
scientific_told text front behind m n x before after significand power is =
    sym (rw (sym before, sym after, significand, sym power) (ap (λ (k : Number). Some k) (sym is)))

-- a text without a power is none
pub scientific_unraised : (text front behind : List ℕ) (m : Number) → front ≡ before_first is_mark text → behind ≡ after_first is_mark text → decimal_of front ≡ Ok m
    → None ≡ kept is_power (result_ok (scaled_of 0 behind)) → None ≡ scientific text
scientific_unraised text front behind m before after significand power = sym (rw (sym before, sym after, significand, sym power) refl)

unread : (r : Result Decimal NumFault) → None ≡ result_ok r → None ≡ result_ok (number_read r)
unread (Ok d) none = absurd cc
unread (Err e) none = refl

-- nor is one without a number before it
pub scientific_unread : (text front : List ℕ) (r : Result Decimal NumFault) → front ≡ before_first is_mark text → number_read r ≡ decimal_of front → None ≡ result_ok r → None ≡ scientific text
scientific_unread text front r before exact none =
    let no : None ≡ result_ok (decimal_of front) = unread r none ∙ ap result_ok exact in
    sym (rw (sym before, sym no) refl)

scientific_read : (n : Number) → IsElement n → scientific (decimal_text_of n) ≡ Some n
unfolding decimal_text_of
scientific_read n is =
    let front = front_of n is in
    let x = leading_power n in
    let shape = whole_shape (front_text n) (exponent_text x) in
    let cut = cut_at is_mark 69 (front_text n) (exponent_text x) refl (front_none is_mark mark_apart refl refl n is.short) in
    let fits : is_power x ≡ true = grind (arith, nat_tests, front.power) in
    scientific_by (decimal_text_of n) (front_text n) (exponent_text x) (scaled_front n) n x (ap (before_first is_mark) shape ∙ cut.before) (ap (after_first is_mark) shape ∙ cut.after)
    (front_read n is front) (power_read x front.power) fits front.back

decimal_free : (n : Number) → IsElement n → list_any is_feed (decimal_text_of n) ≡ false
unfolding decimal_text_of
decimal_free n is =
    free_joined (front_text n ++ 69 ∷ []) (exponent_text (leading_power n))
    (free_joined (front_text n) (69 ∷ []) (front_none is_feed digit_apart refl refl n is.short) refl)
    (power_free (leading_power n) (front_of n is).power)

decimal_law : IsSaid decimal_said decimal_text_of (λ n. is_decimal n ≡ true)
unfolding decimal_said
decimal_law = record {
  only = λ t n h.
      let written = written_only decimal_text_of t (kept is_decimal (scientific t)) n h in
      (written.0, (kept_is is_decimal (scientific t) n written.1).1);
  again = λ n fit.
      written_again decimal_text_of (kept is_decimal (scientific (decimal_text_of n))) n
      (kept_found is_decimal (scientific (decimal_text_of n)) n (scientific_read n (element_from n fit)) fit);
  lone = λ n fit. decimal_free n (element_from n fit);
}

pub element_law : (unit : List ℕ) → list_any is_feed unit ≡ false → IsSaid (element_said unit) (λ n. decimal_text_of n ++ codes " [" ++ unit ++ codes "]") (λ n. is_decimal n ≡ true)
element_law unit free = unit_law decimal_said decimal_text_of (λ n. is_decimal n ≡ true) unit free decimal_law
