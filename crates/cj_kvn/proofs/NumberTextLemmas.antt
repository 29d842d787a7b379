-- The number that a text says: a sign or none, digits, perhaps a point with digits, and perhaps an exponent.
use Rattle.std.proofs.Common.{◌≡◌, ℕ, zero, suc, ◌+◌, ◌*◌, ◌^◌, ◌<◌, Bool, true, false, List, [], ◌∷◌, ◌++◌, length, ap, sym, ◌∙◌, refl, subst, arith, append-nil, Some, Ok, ℤ, pos, negsuc, ◌-ℤ◌, decimal, append_assoc}
use Rattle.std.specs.Prelude.{◌==◌, nat_le, int_lt, unsigned_abs}
use Rattle.std.specs.Char.{digit_value, is_ascii_digit}
use Rattle.std.specs.Str.Parse.{AllDigits, digits_value, digits_value_after, starts_with_minus, without_leading_sign}
use Rattle.std.proofs.lemmas.Bool.{and_parts}
use Rattle.std.proofs.lemmas.Bool.Decides.{nat_tests}
use Rattle.std.proofs.lemmas.Fmt.{decimal_is_IsNumeral_wide}
use Rattle.std.proofs.lemmas.Int.{ints}
use Rattle.cj_kvn.specs.Decimals.{minus_if}
use Rattle.cj_base.specs.Numbers.{Number}
use Rattle.cj_kvn.specs.Numbers.{Parts, are_digits, digits, exponent_value, is_number, nearest, number, parts_of, scaled, scaled_of, scaled_size, signed}
use Rattle.cj_kvn.specs.Scanning.{after_fraction, after_run, exponent_said, fraction_run, run}
use Rattle.cj_kvn.proofs.ListLemmas.{HeadFails, behind_no, behind_yes, take_while_no, take_while_yes}
use Rattle.cj_kvn.proofs.PartsLemmas.{Reads}
use Rattle.cj_kvn.proofs.PowerLemmas.{nearest_one, nearest_times, ten_pos}
use Rattle.cj_kvn.proofs.ScanLemmas.{Read, exponent_is, is_of_form, value_append}

-- ---- digits

-- by std's word and by ours
pub is_digit : (c : ℕ) → digit_value c < 10 → is_ascii_digit c ≡ true
is_digit c small = grind (arith, nat_tests)

pub all_of : (ds : List ℕ) → AllDigits 10 ds → are_digits ds ≡ true
all_of [] all = refl
all_of (c ∷ ds) all = grind (arith, is_digit c all.0, all_of ds all.1)

pub decimal_digits : (n : ℕ) → n < 10 ^ 64 → are_digits (decimal n) ≡ true
decimal_digits n fits = all_of (decimal n) (decimal_is_IsNumeral_wide n fits).0.1

pub decimal_value : (n : ℕ) → n < 10 ^ 64 → digits_value 10 (decimal n) ≡ n
decimal_value n fits = (decimal_is_IsNumeral_wide n fits).1

pub decimal_some : (n : ℕ) → n < 10 ^ 64 → 0 < length (decimal n)
decimal_some n fits = (decimal_is_IsNumeral_wide n fits).0.0

-- digits at the front of a text
front_end : (rest : List ℕ) → HeadFails is_ascii_digit rest → (run rest ≡ []) × (after_run rest ≡ rest)
front_end [] fails = (refl, refl)
front_end (c ∷ rest) fails = (take_while_no is_ascii_digit c rest fails, behind_no is_ascii_digit c rest fails)

run_front : (ds rest : List ℕ) → are_digits ds ≡ true → HeadFails is_ascii_digit rest → (run (ds ++ rest) ≡ ds) × (after_run (ds ++ rest) ≡ rest)
run_front [] rest all fails = front_end rest fails
run_front (c ∷ ds) rest all fails =
    let parts = and_parts (is_ascii_digit c) (are_digits ds) all in
    let next = run_front ds rest parts.1 fails in (
      take_while_yes is_ascii_digit c (ds ++ rest) parts.0 ∙ ap (λ (xs : List ℕ). c ∷ xs) next.0,
      behind_yes is_ascii_digit c (ds ++ rest) parts.0 ∙ next.1,
    )

-- a minus sign or none before digits
signed_front : (b : Bool) (c : ℕ) (rest : List ℕ) → is_ascii_digit c ≡ true
    → (starts_with_minus (minus_if b ++ c ∷ rest) ≡ b) × (without_leading_sign (minus_if b ++ c ∷ rest) ≡ c ∷ rest)
signed_front true c rest digit = (refl, refl)
signed_front false c rest digit =
    let no_minus : (c == 45) ≡ false = grind (arith, nat_tests) in
    let no_plus : (c == 43) ≡ false = grind (arith, nat_tests) in
    (no_minus, rw (no_minus, no_plus) refl)

pub signed_digits : (b : Bool) (ds rest : List ℕ) → 0 < length ds → are_digits ds ≡ true
    → (starts_with_minus (minus_if b ++ (ds ++ rest)) ≡ b) × (without_leading_sign (minus_if b ++ (ds ++ rest)) ≡ ds ++ rest)
signed_digits b [] rest some all = absurd (omega arith)
signed_digits b (c ∷ ds) rest some all = signed_front b c (ds ++ rest) (and_parts (is_ascii_digit c) (are_digits ds) all).0

-- ---- the number that a text says

abbrev pub make : Bool → ℕ → ℤ → Number
make negative digits power = record { negative = negative; digits = digits; power = power }

number_told : (p : Parts) (b : Bool) (w f : List ℕ) (power : ℤ) → Reads p b w f power → number p ≡ make b (digits_value 10 (w ++ f)) (power -ℤ pos (length f))
unfolding number
number_told p b w f power reads =
    ap (λ (q : Parts). make q.negative (digits_value 10 (digits q)) (exponent_value q.exponent -ℤ pos (length q.fraction))) reads.same
    ∙ ap (λ (z : ℤ). make b (digits_value 10 (w ++ f)) (z -ℤ pos (length f))) reads.value

pub record Says (text : List ℕ) (n : Number) : Type 0 where
  pub form : is_number (parts_of text) ≡ true
  pub value : number (parts_of text) ≡ n

-- a sign or none, digits, a point with digits or none, and an exponent or none
record IsNumberText (text : List ℕ) (b : Bool) (w f rest : List ℕ) (power : ℤ) : Type 0 where
  tail : List ℕ
  sign : starts_with_minus text ≡ b
  unsigned : without_leading_sign text ≡ w ++ tail
  whole : are_digits w ≡ true
  stops : HeadFails is_ascii_digit tail
  fraction : fraction_run tail ≡ f
  behind : after_fraction tail ≡ rest
  all : are_digits f ≡ true
  some : 0 < length w + length f
  exponent : exponent_said rest ≡ Some power

text_says : (text : List ℕ) (b : Bool) (w f rest : List ℕ) (power : ℤ) → IsNumberText text b w f rest power
    → Says text (make b (digits_value 10 (w ++ f)) (power -ℤ pos (length f)))
text_says text b w f rest power t =
    let front = run_front w t.tail t.whole t.stops in
    let read : Read text (w ++ t.tail) t.tail rest = record { sign = sym t.unsigned; whole = sym front.1; fraction = sym t.behind } in
    let reads = exponent_is text (w ++ t.tail) t.tail rest power read t.exponent in
    let with_sign = subst (λ (s : Bool). Reads (parts_of text) s (run (w ++ t.tail)) (fraction_run t.tail) power) t.sign reads in
    let with_whole = subst (λ (v : List ℕ). Reads (parts_of text) b v (fraction_run t.tail) power) front.0 with_sign in
    let all = subst (λ (v : List ℕ). Reads (parts_of text) b w v power) t.fraction with_whole in
    record { form = is_of_form (parts_of text) b w f power all t.whole t.all t.some; value = number_told (parts_of text) b w f power all }

-- digits alone
pub whole_says : (text ds : List ℕ) (b : Bool) → starts_with_minus text ≡ b → without_leading_sign text ≡ ds → are_digits ds ≡ true → 0 < length ds → Says text (make b (digits_value 10 ds) (pos 0 -ℤ pos 0))
whole_says text ds b sign unsigned all some =
    let same : ds ++ [] ≡ ds = append-nil ds in
    let says = text_says text b ds [] [] (pos 0) (record {
      tail = [];
      sign = sign;
      unsigned = unsigned ∙ sym same;
      whole = all;
      stops = tt;
      fraction = refl;
      behind = refl;
      all = refl;
      some = omega (arith, some);
      exponent = refl;
    }) in
    record { form = says.form; value = says.value ∙ ap (λ (t : List ℕ). make b (digits_value 10 t) (pos 0 -ℤ pos 0)) same }

-- digits, a point and digits, and an exponent or none
pub fraction_says : (b : Bool) (w f rest : List ℕ) (power : ℤ) → are_digits w ≡ true → 0 < length w → are_digits f ≡ true → HeadFails is_ascii_digit rest → exponent_said rest ≡ Some power
    → Says (minus_if b ++ (w ++ 46 ∷ (f ++ rest))) (make b (digits_value 10 (w ++ f)) (power -ℤ pos (length f)))
fraction_says b w f rest power all some fraction stops exponent =
    let signs = signed_digits b w (46 ∷ (f ++ rest)) some all in
    let front = run_front f rest fraction stops in
    text_says (minus_if b ++ (w ++ 46 ∷ (f ++ rest))) b w f rest power (record {
      tail = 46 ∷ (f ++ rest);
      sign = signs.0;
      unsigned = signs.1;
      whole = all;
      stops = refl;
      fraction = front.0;
      behind = front.1;
      all = fraction;
      some = omega (arith, some);
      exponent = exponent;
    })

-- in the order in which they are written
pub decimals_shape : (m w f : List ℕ) → m ++ w ++ 46 ∷ [] ++ f ≡ m ++ (w ++ 46 ∷ f)
decimals_shape m w f = append_assoc (m ++ w) (46 ∷ []) f ∙ append_assoc m w (46 ∷ f)

-- the same of a whole number and k decimals
pub decimals_say : (k : ℕ) (b : Bool) (whole : ℕ) (f : List ℕ) (size : ℕ) → whole < 10 ^ 64 → are_digits f ≡ true → length f ≡ k → digits_value_after 10 whole f ≡ size
    → Says (minus_if b ++ (decimal whole ++ 46 ∷ f)) (make b size (pos 0 -ℤ pos k))
decimals_say k b whole f size fits fraction long value =
    let w = decimal whole in
    let says = fraction_says b w f [] (pos 0) (decimal_digits whole fits) (decimal_some whole fits) fraction tt refl in
    let same : digits_value 10 (w ++ f) ≡ size = value_append 0 w f ∙ ap (λ (v : ℕ). digits_value_after 10 v f) (decimal_value whole fits) ∙ value in
    let told : make b (digits_value 10 (w ++ f)) (pos 0 -ℤ pos (length f)) ≡ make b size (pos 0 -ℤ pos k) =
    ap (λ (v : ℕ). make b v (pos 0 -ℤ pos (length f))) same ∙ ap (λ (j : ℕ). make b size (pos 0 -ℤ pos j)) long in
    subst (λ (t : List ℕ). Says (minus_if b ++ (w ++ 46 ∷ t)) (make b size (pos 0 -ℤ pos k))) (append-nil f) (record { form = says.form; value = says.value ∙ told })

-- ---- the number in units of its last decimal

unscaled : (k : ℕ) (b : Bool) (n : ℕ) → scaled_size k (make b n (pos 0 -ℤ pos k)) ≡ n
unfolding scaled_size
unscaled zero b n = ap (λ (m : ℕ). nearest m 1) (let e : n * 1 * 1 ≡ n = omega arith in e) ∙ nearest_one n
unscaled (suc k) b n =
    ap (λ (z : ℤ). scaled_size (suc k) (make b n z)) (let e : pos 0 -ℤ pos (suc k) ≡ negsuc k = omega (arith, ints) in e)
    ∙ ap (λ (m : ℕ). nearest (m * 10 ^ suc k) (10 ^ suc k)) (let e : n * 1 ≡ n = omega arith in e) ∙ nearest_times n (10 ^ suc k) (ten_pos (suc k))

pub scaled_by : (k : ℕ) (text : List ℕ) (n : Number) → Says text n → scaled_of k text ≡ scaled k n
scaled_by k text n says = rw (says.form, says.value) refl

pub scaled_told : (k : ℕ) (text : List ℕ) (b : Bool) (n : ℕ) → Says text (make b n (pos 0 -ℤ pos k)) → nat_le n (10 ^ 36) ≡ true → scaled_of k text ≡ Ok (signed b n)
scaled_told k text b n says fits =
    let size : scaled_size k (number (parts_of text)) ≡ n = ap (scaled_size k) says.value ∙ unscaled k b n in
    let sign : (number (parts_of text)).negative ≡ b = ap (λ (m : Number). m.negative) says.value in
    rw (says.form, size, fits, sign) refl

pub signed_is : (z : ℤ) → signed (int_lt z (pos 0)) (unsigned_abs z) ≡ z
signed_is (pos n) = let not_below : int_lt (pos n) (pos 0) ≡ false = grind (arith, nat_tests) in rw not_below refl
signed_is (negsuc n) = refl
