-- Numbers in their texts, and back.
use Rattle.std.proofs.Common.{◌≡◌, ℕ, zero, suc, ◌+◌, ◌-◌, ◌^◌, ◌<◌, ◌≤◌, List, [], ◌∷◌, length, get_or, take, arith, ap, sym, ◌∙◌, refl, subst, true, false, Bool, cond, ℤ, pos, negsuc}
use Rattle.std.proofs.Common.{neg_ℤ, decimal, Some, None}
use Rattle.std.specs.Prelude.{◌==◌, ◌&&◌, not, codes, if◌then◌else◌, unsigned_abs}
use Rattle.std.specs.Char.{is_ascii_digit, digit_value}
use Rattle.std.specs.Fmt.{signed_decimal}
use Rattle.std.specs.List.{list_all}
use Rattle.std.specs.Str.{bytes_eq}
use Rattle.std.specs.Str.Parse.{AllDigits, digits_value, signed_digits_value, starts_with_minus, without_leading_sign}
use Rattle.std.proofs.lemmas.Bool.{and_parts, eqb-true, eq-eqb, not-true}
use Rattle.std.proofs.lemmas.Bool.Decides.{nat_tests}
use Rattle.std.proofs.lemmas.Fmt.{decimal_digit, decimal_is_IsNumeral, decimal-digits_value, first_decimal}
use Rattle.std.proofs.lemmas.List.Sums.{AllPass-from_list_all}
use Rattle.std.proofs.lemmas.List.{length-take}
use Rattle.std.proofs.lemmas.List.Folds.{list_all_more}
use Rattle.std.proofs.lemmas.Str.Parse.{IsNumeralModel, digits_value_short}
use Rattle.cj_cert_text.specs.Numbers.{is_numeral, is_number, number_of, without_minus}
use Rattle.cj_kvn.proofs.NumberTextLemmas.{all_of, is_digit}
use Rattle.cj_kvn.proofs.RunLemmas.{digit_is, in_digits}

-- ---- digits

has_value : (c : ℕ) → is_ascii_digit c ≡ true → digit_value c < 10
has_value c digit = grind (arith, nat_tests)

-- the value of a digit at a place
pub digit_of : (ds : List ℕ) (k : ℕ) → is_ascii_digit (get_or ds k 0) ≡ true → (48 ≤ get_or ds k 0) × (get_or ds k 0 ≤ 57) × (digit_value (get_or ds k 0) ≡ get_or ds k 0 - 48)
digit_of ds k digit = let range = in_digits (get_or ds k 0) digit in (range.0, range.1, digit_is (get_or ds k 0) digit)

-- and of each of the digits
pub digit_in : (ds : List ℕ) (k : ℕ) → list_all is_ascii_digit ds ≡ true → k < length ds → (48 ≤ get_or ds k 0) × (get_or ds k 0 ≤ 57) × (digit_value (get_or ds k 0) ≡ get_or ds k 0 - 48)
digit_in ds k all less = digit_of ds k (AllPass-from_list_all is_ascii_digit ds all k 0 less)

pub one_digit_more : (ds : List ℕ) (k : ℕ) → k < length ds → list_all is_ascii_digit (take k ds) ≡ true → is_ascii_digit (get_or ds k 0) ≡ true
    → list_all is_ascii_digit (take (k + 1) ds) ≡ true
one_digit_more ds k less all digit = list_all_more is_ascii_digit ds k 0 less ∙ rw (all, digit) refl

pub each_of : (ds : List ℕ) → list_all is_ascii_digit ds ≡ true → AllDigits 10 ds
each_of [] all = tt
each_of (c ∷ ds) all = let parts = and_parts (is_ascii_digit c) (list_all is_ascii_digit ds) all in (has_value c parts.0, each_of ds parts.1)

-- a digit alone is a numeral, and so are digits behind one that is not 0
numeral_from : (ds : List ℕ) → AllDigits 10 ds → 48 < get_or ds 0 0 → is_numeral ds ≡ true
numeral_from [] all some = absurd (omega arith)
numeral_from (c ∷ []) all some = is_digit c all.0
numeral_from (c ∷ d ∷ ds) all some = let first : (c == 48) ≡ false = grind (arith, nat_tests) in rw (first, all_of (c ∷ d ∷ ds) all) refl

numeral_zero : (ds : List ℕ) → ds ≡ 48 ∷ [] → is_numeral ds ≡ true
numeral_zero ds e = rw e refl

-- the digits of a numeral
numeral_digits : (ds : List ℕ) → is_numeral ds ≡ true → (0 < length ds) × AllDigits 10 ds
numeral_digits [] is = absurd cc
numeral_digits (c ∷ []) is = (omega arith, (has_value c is, tt))
numeral_digits (c ∷ d ∷ ds) is = (omega arith, each_of (c ∷ d ∷ ds) (and_parts (not (c == 48)) (list_all is_ascii_digit (c ∷ d ∷ ds)) is).1)

numeral_front : (ds : List ℕ) → is_numeral ds ≡ true → get_or ds 0 0 ≡ 48 → length ds ≡ 1
numeral_front [] is front = absurd cc
numeral_front (c ∷ []) is front = refl
numeral_front (c ∷ d ∷ ds) is front =
    let yes_zero : (c == 48) ≡ true = eq-eqb c 48 front in
    let parts = and_parts (not (c == 48)) (list_all is_ascii_digit (c ∷ d ∷ ds)) is in
    absurd (let h : not true ≡ true = subst (λ b. not b ≡ true) yes_zero parts.0 in cc)

own : IsNumeralModel (AllDigits 10) (digits_value 10)
own = record { to = λ ds all. all; from = λ ds all. all; same = λ ds all. refl }

-- the number of the first digits, of which there are few
pub few_digits : (ds : List ℕ) (k : ℕ) → list_all is_ascii_digit (take k ds) ≡ true → k ≤ 18 → digits_value 10 (take k ds) < 10 ^ 18
few_digits ds k all few = digits_value_short own (take k ds) 18 (each_of (take k ds) all) (omega (arith, length-take k ds))

-- a numeral is what is written of its value
pub numeral_written : (ds : List ℕ) → is_numeral ds ≡ true → digits_value 10 ds < 2 ^ 64 → decimal (digits_value 10 ds) ≡ ds
numeral_written ds is small =
    let parts = numeral_digits ds is in
    decimal-digits_value own ds parts.1 parts.0 (numeral_front ds is) small

decimal_digits : (n : ℕ) → n < 2 ^ 64 → AllDigits 10 (decimal n)
decimal_digits n small = (decimal_is_IsNumeral n small).0.1

decimal_numeral : (n : ℕ) → n < 2 ^ 64 → is_numeral (decimal n) ≡ true
decimal_numeral zero small = numeral_zero (decimal 0) (decimal_digit 0 (omega arith))
decimal_numeral (suc n) small = numeral_from (decimal (suc n)) (decimal_digits (suc n) small) (first_decimal (suc n) (omega arith) small)

-- ---- signs

-- before digits there is no sign
record HasNoSign (ds : List ℕ) : Type 0 where
  minus : starts_with_minus ds ≡ false
  rest : without_leading_sign ds ≡ ds
  bare : without_minus ds ≡ ds
  other : bytes_eq ds (codes "-0") ≡ false

no_sign : (ds : List ℕ) → 0 < length ds → AllDigits 10 ds → HasNoSign ds
no_sign [] some all = absurd (omega arith)
no_sign (c ∷ ds) some all =
    let range = in_digits c (is_digit c all.0) in
    let minus : (c == 45) ≡ false = grind (arith, nat_tests) in
    let plus : (c == 43) ≡ false = grind (arith, nat_tests) in
    record { minus = minus; rest = rw (minus, plus) refl; bare = rw minus refl; other = rw minus refl }

signed_by : (ds rest : List ℕ) (b : Bool) → starts_with_minus ds ≡ b → without_leading_sign ds ≡ rest
    → signed_digits_value 10 ds ≡ cond b (neg_ℤ (pos (digits_value 10 rest))) (pos (digits_value 10 rest))
signed_by ds rest b minus behind =
    ap (λ (t : Bool). cond t (neg_ℤ (pos (digits_value 10 (without_leading_sign ds)))) (pos (digits_value 10 (without_leading_sign ds)))) minus
    ∙ ap (λ (r : List ℕ). cond b (neg_ℤ (pos (digits_value 10 r))) (pos (digits_value 10 r))) behind

bare_value : (ds : List ℕ) → HasNoSign ds → signed_digits_value 10 ds ≡ pos (digits_value 10 ds)
bare_value ds bare = signed_by ds ds false bare.minus bare.rest

bare_number : (ds : List ℕ) → HasNoSign ds → is_numeral ds ≡ true → is_number ds ≡ true
bare_number ds bare is = ap (λ (t : List ℕ). is_numeral t && not (bytes_eq ds (codes "-0"))) bare.bare ∙ ap (λ (b : Bool). is_numeral ds && not b) bare.other ∙ rw is refl

-- of digits alone, or behind a minus
said_bare : (ds : List ℕ) → is_numeral ds ≡ true → number_of ds ≡ Some (pos (digits_value 10 ds))
unfolding number_of
said_bare ds is =
    let parts = numeral_digits ds is in
    let bare = no_sign ds parts.0 parts.1 in
    ap (λ (b : Bool). if b then Some (signed_digits_value 10 ds) else None) (bare_number ds bare is) ∙ ap (λ (z : ℤ). Some z) (bare_value ds bare)

said_minus : (ds : List ℕ) → is_numeral ds ≡ true → bytes_eq ds (48 ∷ []) ≡ false → number_of (45 ∷ ds) ≡ Some (neg_ℤ (pos (digits_value 10 ds)))
unfolding number_of
said_minus ds is some = rw (is, some) refl

not_zero : (ds : List ℕ) → 48 < get_or ds 0 0 → bytes_eq ds (48 ∷ []) ≡ false
not_zero [] some = refl
not_zero (c ∷ ds) some = let first : (c == 48) ≡ false = grind (arith, nat_tests) in rw first refl

-- the number that is written is said again
pub said_again : (z : ℤ) → unsigned_abs z < 2 ^ 64 → number_of (signed_decimal z) ≡ Some z
said_again (pos n) small = said_bare (decimal n) (decimal_numeral n small) ∙ ap (λ k. Some (pos k)) ((decimal_is_IsNumeral n small).1)
said_again (negsuc n) small =
    said_minus (decimal (suc n)) (decimal_numeral (suc n) small) (not_zero (decimal (suc n)) (first_decimal (suc n) (omega arith) small))
    ∙ ap (λ k. Some (neg_ℤ (pos k))) ((decimal_is_IsNumeral (suc n) small).1)

-- ---- what is said is written again

chosen : {A : Type 0} (b : Bool) (x y : A) → cond b (Some x) None ≡ Some y → (b ≡ true) × (x ≡ y)
chosen true x y h = (refl, cc)
chosen false x y h = absurd cc

size_of_negative : (n : ℕ) → unsigned_abs (neg_ℤ (pos n)) ≡ n
size_of_negative zero = refl
size_of_negative (suc n) = refl

negative_written : (n : ℕ) (ds : List ℕ) → decimal n ≡ ds → bytes_eq ds (48 ∷ []) ≡ false → signed_decimal (neg_ℤ (pos n)) ≡ 45 ∷ ds
negative_written zero ds e some = absurd (let h : bytes_eq (48 ∷ []) (48 ∷ []) ≡ false = subst (λ t. bytes_eq t (48 ∷ []) ≡ false) (sym e ∙ decimal_digit 0 (omega arith)) some in cc)
negative_written (suc n) ds e some = ap (λ t. 45 ∷ t) e

written_by : (c : ℕ) (cs : List ℕ) (z : ℤ) (b : Bool) → (c == 45) ≡ b → is_number (c ∷ cs) ≡ true → signed_digits_value 10 (c ∷ cs) ≡ z → unsigned_abs z < 2 ^ 64 → c ∷ cs ≡ signed_decimal z
written_by c cs z true minus number value small =
    let first : c ≡ 45 = eqb-true c 45 minus in
    let parts = and_parts (is_numeral (without_minus (c ∷ cs))) (not (bytes_eq (c ∷ cs) (codes "-0"))) number in
    let digits : is_numeral cs ≡ true = rw minus at parts.0 in
    let some : bytes_eq cs (48 ∷ []) ≡ false = not-true (bytes_eq cs (48 ∷ [])) (rw minus at parts.1) in
    let same : neg_ℤ (pos (digits_value 10 cs)) ≡ z = rw minus at value in
    let fits : digits_value 10 cs < 2 ^ 64 = subst (λ n. n < 2 ^ 64) (ap unsigned_abs (sym same) ∙ size_of_negative (digits_value 10 cs)) small in
    ap (λ (k : ℕ). k ∷ cs) first ∙ sym (negative_written (digits_value 10 cs) cs (numeral_written cs digits fits) some) ∙ ap signed_decimal same
written_by c cs z false minus number value small =
    let ds = c ∷ cs in
    let parts = and_parts (is_numeral (without_minus ds)) (not (bytes_eq ds (codes "-0"))) number in
    let digits : is_numeral ds ≡ true = rw minus at parts.0 in
    let found = numeral_digits ds digits in
    let same : pos (digits_value 10 ds) ≡ z = sym (bare_value ds (no_sign ds found.0 found.1)) ∙ value in
    let fits : digits_value 10 ds < 2 ^ 64 = subst (λ n. n < 2 ^ 64) (ap unsigned_abs (sym same)) small in
    sym (numeral_written ds digits fits) ∙ ap signed_decimal same

pub written_again : (text : List ℕ) (z : ℤ) → number_of text ≡ Some z → unsigned_abs z < 2 ^ 64 → text ≡ signed_decimal z
unfolding number_of
written_again [] z said small = absurd cc
written_again (c ∷ cs) z said small =
    let here = chosen (is_number (c ∷ cs)) (signed_digits_value 10 (c ∷ cs)) z said in
    written_by c cs z (c == 45) refl here.0 here.1 small
