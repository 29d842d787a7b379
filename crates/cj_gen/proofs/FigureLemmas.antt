-- The numbers of a catalogue are read: with three decimals, and with six.
use Rattle.std.proofs.Common.{◌≡◌, ℕ, ◌+◌, ◌*◌, ◌/◌, ◌%◌, ◌^◌, ◌<◌, List, [], ◌∷◌, ◌++◌, Bool, true, decimal, ℤ, pos, negsuc, ◌*ℤ◌}
use Rattle.std.proofs.Common.{Ok, ap, ◌∙◌, refl, arith}
use Rattle.std.specs.Prelude.{nat_le, int_lt, unsigned_abs}
use Rattle.std.specs.Str.Parse.{digits_value_after}
use Rattle.std.proofs.lemmas.Bool.{le-leb, le-ltb}
use Rattle.std.proofs.lemmas.Int.{ints}
use Rattle.cj_kvn.specs.Decimals.{minus_if}
use Rattle.cj_kvn.specs.Numbers.{are_digits, nearest, scaled, scaled_of, scaled_size, signed}
use Rattle.cj_kvn.proofs.NumberTextLemmas.{decimals_say, decimals_shape, make, scaled_by}
use Rattle.cj_kvn.proofs.PowerLemmas.{nearest_times}
use Rattle.cj_epoch.specs.Written.{six}
use Rattle.cj_epoch.proofs.WrittenLemmas.{digits_are, value_is}
use Rattle.cj_oem.proofs.PrintedNumberLemmas.{decimals_field}
use Rattle.cj_oem.proofs.PrintedRowLemmas.{is_field}
use Rattle.cj_gen.specs.Texts.{kilometres, kilometres_a_second, sign, three}

-- ---- the decimals

three_said : (w n : ℕ) → n < 1_000 → digits_value_after 10 w (three n) ≡ w * 1_000 + n
three_said w n small = omega (arith, value_is (n / 100), value_is (n / 10), value_is n)

six_said : (w n : ℕ) → n < 1_000_000 → digits_value_after 10 w (six n) ≡ w * 1_000_000 + n
six_said w n small =
    omega (arith, value_is (n / 10_000 / 10), value_is (n / 10_000), value_is (n / 100 / 10), value_is (n / 100), value_is (n / 10), value_is n)

three_digits : (n : ℕ) → are_digits (three n) ≡ true
three_digits n = digits_are (n / 100 ∷ n / 10 ∷ n ∷ [])

six_digits : (n : ℕ) → are_digits (six n) ≡ true
six_digits n = digits_are (n / 10_000 / 10 ∷ n / 10_000 ∷ n / 100 / 10 ∷ n / 100 ∷ n / 10 ∷ n ∷ [])

-- ---- a sign, whole digits, a point, decimals

abbrev shape : Bool → ℕ → List ℕ → List ℕ
shape b whole f = minus_if b ++ (decimal whole ++ 46 ∷ f)

-- ---- a number in units of 10 ^ -3, and of 10 ^ -6, in those of 10 ^ -12

signed_larger : (z : ℤ) (m n : ℕ) → n ≡ unsigned_abs z * m → signed (int_lt z (pos 0)) n ≡ z *ℤ pos m
signed_larger (pos k) m n e = rw (le-ltb k 0 (omega arith)) (omega (arith, ints))
signed_larger (negsuc k) m n e = omega (arith, ints)

from_third : (b : Bool) (size : ℕ) → size < 2 ^ 63 → scaled 12 (make b size (negsuc 2)) ≡ Ok (signed b (size * 1_000_000_000))
unfolding scaled_size
from_third b size small =
    let more : size * 1 * 10 ^ 12 ≡ size * 1_000_000_000 * 10 ^ 3 = omega arith in
    let same : nearest (size * 1 * 10 ^ 12) (10 ^ 3) ≡ size * 1_000_000_000 = ap (λ (n : ℕ). nearest n (10 ^ 3)) more ∙ nearest_times (size * 1_000_000_000) (10 ^ 3) (omega arith) in
    let within : nat_le (size * 1_000_000_000) (10 ^ 36) ≡ true = le-leb (size * 1_000_000_000) (10 ^ 36) (omega arith) in
    rw (same, within) refl

from_sixth : (b : Bool) (size : ℕ) → size < 2 ^ 63 → scaled 12 (make b size (negsuc 5)) ≡ Ok (signed b (size * 1_000_000))
unfolding scaled_size
from_sixth b size small =
    let more : size * 1 * 10 ^ 12 ≡ size * 1_000_000 * 10 ^ 6 = omega arith in
    let same : nearest (size * 1 * 10 ^ 12) (10 ^ 6) ≡ size * 1_000_000 = ap (λ (n : ℕ). nearest n (10 ^ 6)) more ∙ nearest_times (size * 1_000_000) (10 ^ 6) (omega arith) in
    let within : nat_le (size * 1_000_000) (10 ^ 36) ≡ true = le-leb (size * 1_000_000) (10 ^ 36) (omega arith) in
    rw (same, within) refl

pub kilometres_shape : (z : ℤ) → kilometres z ≡ shape (int_lt z (pos 0)) (unsigned_abs z / 1_000) (three (unsigned_abs z % 1_000))
unfolding kilometres
kilometres_shape z = decimals_shape (sign z) (decimal (unsigned_abs z / 1_000)) (three (unsigned_abs z % 1_000))

pub rate_shape : (z : ℤ) → kilometres_a_second z ≡ shape (int_lt z (pos 0)) (unsigned_abs z / 1_000_000) (six (unsigned_abs z % 1_000_000))
unfolding kilometres_a_second
rate_shape z = decimals_shape (sign z) (decimal (unsigned_abs z / 1_000_000)) (six (unsigned_abs z % 1_000_000))

pub kilometres_field : (z : ℤ) → unsigned_abs z < 2 ^ 63 → is_field (kilometres z) ≡ true
kilometres_field z small =
    let n = unsigned_abs z in
    ap is_field (kilometres_shape z) ∙ decimals_field (int_lt z (pos 0)) (n / 1_000) (three (n % 1_000)) (omega arith) (three_digits (n % 1_000))

pub rate_field : (z : ℤ) → unsigned_abs z < 2 ^ 63 → is_field (kilometres_a_second z) ≡ true
rate_field z small =
    let n = unsigned_abs z in
    ap is_field (rate_shape z) ∙ decimals_field (int_lt z (pos 0)) (n / 1_000_000) (six (n % 1_000_000)) (omega arith) (six_digits (n % 1_000_000))

pub kilometres_read : (z : ℤ) → unsigned_abs z < 2 ^ 63 → scaled_of 12 (kilometres z) ≡ Ok (z *ℤ pos 1_000_000_000)
kilometres_read z small =
    let n = unsigned_abs z in
    let b = int_lt z (pos 0) in
    let whole = n / 1_000 in
    let f = three (n % 1_000) in
    let value : digits_value_after 10 whole f ≡ n = three_said whole (n % 1_000) (omega arith) ∙ omega arith in
    ap (scaled_of 12) (kilometres_shape z)
    ∙ scaled_by 12 (shape b whole f) (make b n (negsuc 2)) (decimals_say 3 b whole f n (omega arith) (three_digits (n % 1_000)) refl value)
    ∙ from_third b n small
    ∙ ap (λ (y : ℤ). Ok y) (signed_larger z 1_000_000_000 (n * 1_000_000_000) refl)

pub rate_read : (z : ℤ) → unsigned_abs z < 2 ^ 63 → scaled_of 12 (kilometres_a_second z) ≡ Ok (z *ℤ pos 1_000_000)
rate_read z small =
    let n = unsigned_abs z in
    let b = int_lt z (pos 0) in
    let whole = n / 1_000_000 in
    let f = six (n % 1_000_000) in
    let value : digits_value_after 10 whole f ≡ n = six_said whole (n % 1_000_000) (omega arith) ∙ omega arith in
    ap (scaled_of 12) (rate_shape z)
    ∙ scaled_by 12 (shape b whole f) (make b n (negsuc 5)) (decimals_say 6 b whole f n (omega arith) (six_digits (n % 1_000_000)) refl value)
    ∙ from_sixth b n small
    ∙ ap (λ (y : ℤ). Ok y) (signed_larger z 1_000_000 (n * 1_000_000) refl)
