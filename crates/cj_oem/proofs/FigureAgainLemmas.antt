-- A number that was printed with twelve decimals is read again.
use Rattle.std.proofs.Common.{◌≡◌, ℕ, zero, suc, ◌+◌, ◌*◌, ◌-◌, ◌/◌, ◌%◌, ◌^◌, ◌<◌, [], ◌∷◌, ◌++◌, true, length, decimal, ℤ, pos, Ok, ap, sym, ◌∙◌, refl, arith}
use Rattle.std.specs.Prelude.{nat_le, int_lt, unsigned_abs}
use Rattle.std.specs.Str.Parse.{digits_value_after}
use Rattle.std.proofs.Math.Nat.{mul_assoc}
use Rattle.std.proofs.lemmas.Bool.{le-leb}
use Rattle.std.proofs.lemmas.Fmt.{length-decimal-le}
use Rattle.std.proofs.lemmas.List.{length-append}
use Rattle.cj_kvn.specs.Decimals.{minus_if}
use Rattle.cj_kvn.specs.Numbers.{scaled_of}
use Rattle.cj_kvn.proofs.NumberTextLemmas.{decimals_say, scaled_told, signed_is}
use Rattle.cj_kvn.proofs.PowerLemmas.{ten_more}
use Rattle.cj_kvn.proofs.ScanLemmas.{value_append}
use Rattle.cj_epoch.proofs.WrittenLemmas.{value_is}
use Rattle.cj_oem.specs.Canonical.{figure_text, twelve}
use Rattle.cj_oem.proofs.FigureLemmas.{padded, padded_more, padded_one, zeros}
use Rattle.cj_oem.proofs.PrintedNumberLemmas.{padded_digits, figure_shape}

-- ---- the digits of the decimals

-- the value of digits behind others
digit_behind : (w n : ℕ) → digits_value_after 10 w ((48 + n % 10) ∷ []) ≡ w * 10 + n % 10
digit_behind w n = ap (λ d. w * 10 + d) (value_is n)

pub padded_value : (k w n : ℕ) → n < 10 ^ suc k → n < 2 ^ 64 → digits_value_after 10 w (padded (suc k) n) ≡ w * 10 ^ suc k + n
padded_value zero w n small fits =
    let last : n ≡ n % 10 = omega arith in
    ap (digits_value_after 10 w) (padded_one n (omega arith) ∙ ap (λ d. (48 + d) ∷ []) last) ∙ digit_behind w n ∙ omega arith
padded_value (suc k) w n small fits =
    let ten : 10 ^ suc (suc k) ≡ 10 ^ suc k * 10 = ap (λ j. 10 ^ j) (let e : suc (suc k) ≡ suc k + 1 = omega arith in e) ∙ ten_more (suc k) in
    let before = padded_value k w (n / 10) (omega (arith, ten)) (omega arith) in
    let front = padded (suc k) (n / 10) in
    let whole : w * (10 ^ suc k * 10) ≡ w * 10 ^ suc k * 10 = sym (mul_assoc w (10 ^ suc k) 10) in
    ap (digits_value_after 10 w) (padded_more k n fits)
    ∙ value_append w front ((48 + n % 10) ∷ [])
    ∙ ap (λ v. digits_value_after 10 v ((48 + n % 10) ∷ [])) before
    ∙ digit_behind (w * 10 ^ suc k + n / 10) n
    ∙ omega (arith, ten, whole, ap (λ t. w * t) ten)

zeros_length : (k : ℕ) → length (zeros k) ≡ k
zeros_length zero = refl
zeros_length (suc k) = omega (arith, zeros_length k)

twelve_length : (n : ℕ) → n < 10 ^ 12 → length (twelve n) ≡ 12
twelve_length n small =
    let few = length-decimal-le 12 n (omega arith) small (omega arith) in
    omega (arith, few, length-append (zeros (12 - length (decimal n))) (decimal n), zeros_length (12 - length (decimal n)))

-- ---- the value

pub figure_again : (z : ℤ) → unsigned_abs z < 10 ^ 18 → scaled_of 12 (figure_text z) ≡ Ok z
figure_again z small =
    let size = unsigned_abs z in
    let b = int_lt z (pos 0) in
    let whole = size / 10 ^ 12 in
    let part = size % 10 ^ 12 in
    let value : digits_value_after 10 whole (twelve part) ≡ size = padded_value 11 whole part (omega arith) (omega arith) ∙ omega arith in
    let says = decimals_say 12 b whole (twelve part) size (omega arith) (padded_digits 12 part (omega arith)) (twelve_length part (omega arith)) value in
    let within : nat_le size (10 ^ 36) ≡ true = le-leb size (10 ^ 36) (omega arith) in
    ap (scaled_of 12) (figure_shape z)
    ∙ scaled_told 12 (minus_if b ++ (decimal whole ++ 46 ∷ twelve part)) b size says within
    ∙ ap (λ y. Ok y) (signed_is z)
