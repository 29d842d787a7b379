-- Printed numbers and epochs as fields.
use Rattle.std.proofs.Common.{◌≡◌, ℕ, zero, suc, ◌+◌, ◌-◌, ◌/◌, ◌%◌, ◌^◌, ◌<◌, List, [], ◌∷◌, ◌++◌, Bool, true, false, length, take, drop, decimal, ℤ, pos, refl, arith, ap, ◌∙◌}
use Rattle.std.specs.Prelude.{◌==◌, nat_lt, if◌then◌else◌, int_lt, unsigned_abs}
use Rattle.std.specs.Char.{is_ascii_digit}
use Rattle.std.specs.List.{list_all}
use Rattle.std.proofs.lemmas.Bool.{and_parts}
use Rattle.std.proofs.lemmas.Bool.Decides.{nat_tests}
use Rattle.std.proofs.lemmas.List.{length-append}
use Rattle.cj_kvn.specs.Decimals.{decimal_text_of, exponent_text, leading_power, significand_text, minus_if}
use Rattle.cj_base.specs.Numbers.{Number}
use Rattle.cj_kvn.specs.Numbers.{are_digits}
use Rattle.cj_kvn.proofs.ListLemmas.{all_append}
use Rattle.cj_kvn.proofs.NumberTextLemmas.{decimal_digits, decimals_shape}
use Rattle.cj_base.specs.Ticks.{DAY, HOUR, MINUTE, SECOND}
use Rattle.cj_base.specs.Calendar.{civil_of}
use Rattle.cj_epoch.specs.Written.{clock_text, date_text, epoch_of, four, six, two}
use Rattle.cj_oem.specs.Canonical.{figure_text, twelve}
use Rattle.cj_oem.proofs.FigureLemmas.{padded, zeros}
use Rattle.cj_oem.proofs.PrintedRowLemmas.{is_field, is_figure_byte}
use Rattle.cj_oem.proofs.PrintedTextLemmas.{all_weaker}

abbrev Bytes : List ℕ → Type 0
Bytes text = list_all is_figure_byte text ≡ true

pub field_is : (text : List ℕ) → 0 < length text → Bytes text → is_field text ≡ true
field_is text some bytes =
    let long : nat_lt 0 (length text) ≡ true = grind (arith, nat_tests) in
    rw (long, bytes) refl

append_bytes : (xs ys : List ℕ) → Bytes xs → Bytes ys → Bytes (xs ++ ys)
append_bytes = all_append is_figure_byte

some_behind : (xs ys : List ℕ) → 0 < length ys → 0 < length (xs ++ ys)
some_behind xs ys some = omega (arith, length-append xs ys)

-- ---- digits

digit_byte : (b : ℕ) → is_ascii_digit b ≡ true → is_figure_byte b ≡ true
digit_byte b h = grind (arith, nat_tests)

digits_bytes : (ds : List ℕ) → are_digits ds ≡ true → Bytes ds
digits_bytes = all_weaker is_ascii_digit is_figure_byte digit_byte

first_bytes : (k : ℕ) (ds : List ℕ) → Bytes ds → Bytes (take k ds)
first_bytes zero ds bytes = refl
first_bytes (suc k) [] bytes = refl
first_bytes (suc k) (d ∷ ds) bytes =
    let parts = and_parts (is_figure_byte d) (list_all is_figure_byte ds) bytes in
    rw parts.0 (first_bytes k ds parts.1)

other_bytes : (k : ℕ) (ds : List ℕ) → Bytes ds → Bytes (drop k ds)
other_bytes zero ds bytes = bytes
other_bytes (suc k) [] bytes = refl
other_bytes (suc k) (d ∷ ds) bytes = other_bytes k ds (and_parts (is_figure_byte d) (list_all is_figure_byte ds) bytes).1

either_bytes : (b : Bool) (xs ys : List ℕ) → Bytes xs → Bytes ys → Bytes (if b then xs else ys)
either_bytes true xs ys first second = first
either_bytes false xs ys first second = second

-- ---- epochs

last_byte : (n : ℕ) → is_figure_byte (48 + n % 10) ≡ true
last_byte n = grind (arith, nat_tests)

two_bytes : (n : ℕ) → Bytes (two n)
two_bytes n = rw (last_byte (n / 10), last_byte n) refl

four_bytes : (n : ℕ) → Bytes (four n)
four_bytes n = append_bytes (two (n / 100)) (two n) (two_bytes (n / 100)) (two_bytes n)

six_bytes : (n : ℕ) → Bytes (six n)
six_bytes n = append_bytes (two (n / 10_000) ++ two (n / 100)) (two n) (append_bytes (two (n / 10_000)) (two (n / 100)) (two_bytes (n / 10_000)) (two_bytes (n / 100))) (two_bytes n)

pub epoch_field : (t : ℕ) → is_field (epoch_of t) ≡ true
unfolding epoch_of
epoch_field t =
    let c = civil_of (t / DAY) in
    let date = append_bytes (four c.year ++ 45 ∷ [] ++ two c.month ++ 45 ∷ []) (two c.day)
    (append_bytes (four c.year ++ 45 ∷ [] ++ two c.month) (45 ∷ []) (append_bytes (four c.year ++ 45 ∷ []) (two c.month) (append_bytes (four c.year) (45 ∷ []) (four_bytes c.year) refl) (two_bytes c.month)) refl)
    (two_bytes c.day) in
    let hour = t / HOUR % 24 in
    let minute = t / MINUTE % 60 in
    let second = t / SECOND % 60 in
    let clock = append_bytes (two hour ++ 58 ∷ [] ++ two minute ++ 58 ∷ []) (two second)
    (append_bytes (two hour ++ 58 ∷ [] ++ two minute) (58 ∷ []) (append_bytes (two hour ++ 58 ∷ []) (two minute) (append_bytes (two hour) (58 ∷ []) (two_bytes hour) refl) (two_bytes minute)) refl)
    (two_bytes second) in
    let day = date_text c in
    field_is (epoch_of t) (omega arith)
    (append_bytes (day ++ 84 ∷ [] ++ clock_text t ++ 46 ∷ []) (six (t % SECOND))
    (append_bytes (day ++ 84 ∷ [] ++ clock_text t) (46 ∷ []) (append_bytes (day ++ 84 ∷ []) (clock_text t) (append_bytes day (84 ∷ []) date refl) clock) refl)
    (six_bytes (t % SECOND)))

-- ---- numbers with twelve decimals

zeros_digits : (k : ℕ) → are_digits (zeros k) ≡ true
zeros_digits zero = refl
zeros_digits (suc k) = zeros_digits k

pub padded_digits : (count n : ℕ) → n < 2 ^ 64 → are_digits (padded count n) ≡ true
padded_digits count n fits =
    let k = count - length (decimal n) in
    all_append is_ascii_digit (zeros k) (decimal n) (zeros_digits k) (decimal_digits n (omega arith))

-- a sign or none, a whole number, a point and decimals
pub decimals_field : (b : Bool) (whole : ℕ) (f : List ℕ) → whole < 10 ^ 64 → are_digits f ≡ true → is_field (minus_if b ++ (decimal whole ++ 46 ∷ f)) ≡ true
decimals_field b whole f fits fraction =
    let w = decimal whole in
    field_is (minus_if b ++ (w ++ 46 ∷ f)) (some_behind (minus_if b) (w ++ 46 ∷ f) (some_behind w (46 ∷ f) (omega arith)))
    (append_bytes (minus_if b) (w ++ 46 ∷ f) (either_bytes b (45 ∷ []) [] refl refl)
    (append_bytes w (46 ∷ f) (digits_bytes w (decimal_digits whole fits)) (digits_bytes f fraction)))

pub figure_shape : (z : ℤ) → figure_text z ≡ minus_if (int_lt z (pos 0)) ++ (decimal (unsigned_abs z / 10 ^ 12) ++ 46 ∷ twelve (unsigned_abs z % 10 ^ 12))
unfolding figure_text
figure_shape z = decimals_shape (minus_if (int_lt z (pos 0))) (decimal (unsigned_abs z / 10 ^ 12)) (twelve (unsigned_abs z % 10 ^ 12))

pub figure_field : (z : ℤ) → unsigned_abs z < 2 ^ 64 → is_field (figure_text z) ≡ true
figure_field z fits =
    let size = unsigned_abs z in
    ap is_field (figure_shape z)
    ∙ decimals_field (int_lt z (pos 0)) (size / 10 ^ 12) (twelve (size % 10 ^ 12)) (omega arith) (padded_digits 12 (size % 10 ^ 12) (omega arith))

-- ---- decimal numbers

wider : (n : ℕ) → n < 2 ^ 64 → n < 10 ^ 64
wider n fits = omega arith

pub decimal_field : (n : Number) → n.digits < 2 ^ 64 → unsigned_abs (leading_power n) < 2 ^ 64 → is_field (decimal_text_of n) ≡ true
unfolding decimal_text_of significand_text exponent_text
decimal_field n short small =
    let minus = if n.negative then 45 ∷ [] else [] in
    let ds = decimal n.digits in
    let x = leading_power n in
    let es = decimal (unsigned_abs x) in
    let digits = digits_bytes ds (decimal_digits n.digits (wider n.digits short)) in
    let exponent = digits_bytes es (decimal_digits (unsigned_abs x) (wider (unsigned_abs x) small)) in
    let significand = append_bytes (take 1 ds ++ 46 ∷ []) (if length ds == 1 then 48 ∷ [] else drop 1 ds)
    (append_bytes (take 1 ds) (46 ∷ []) (first_bytes 1 ds digits) refl)
    (either_bytes (length ds == 1) (48 ∷ []) (drop 1 ds) refl (other_bytes 1 ds digits)) in
    let front = append_bytes minus (significand_text n.digits) (either_bytes n.negative (45 ∷ []) [] refl refl) significand in
    let sign = if int_lt x (pos 0) then 45 ∷ [] else 43 ∷ [] in
    let size = if length es == 1 then 48 ∷ es else es in
    let behind = append_bytes sign size (either_bytes (int_lt x (pos 0)) (45 ∷ []) (43 ∷ []) refl refl) (either_bytes (length es == 1) (48 ∷ es) es exponent exponent) in
    let mark = append_bytes (minus ++ significand_text n.digits) (69 ∷ []) front refl in
    field_is (decimal_text_of n) (omega (arith, length-append (minus ++ significand_text n.digits ++ 69 ∷ []) (sign ++ size), length-append (minus ++ significand_text n.digits) (69 ∷ [])))
    (append_bytes (minus ++ significand_text n.digits ++ 69 ∷ []) (sign ++ size) mark behind)
