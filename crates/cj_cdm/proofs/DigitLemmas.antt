-- The last digits of a number.
use Rattle.std.proofs.Common.{◌≡◌, ℕ, zero, suc, ◌+◌, ◌*◌, ◌/◌, ◌%◌, ◌^◌, true, [], ◌∷◌, length, ap, sym, ◌∙◌, refl, arith}
use Rattle.std.specs.Char.{digit_value, is_ascii_digit}
use Rattle.std.specs.Str.Parse.{digits_value_after}
use Rattle.std.proofs.Math.Nat.{div-div-eq-div-mul, div-one}
use Rattle.std.proofs.lemmas.List.{length-append}
use Rattle.cj_epoch.proofs.WrittenLemmas.{digit_is, value_is}
use Rattle.cj_kvn.specs.Numbers.{are_digits}
use Rattle.cj_kvn.proofs.ListLemmas.{all_append}
use Rattle.cj_kvn.proofs.ScanLemmas.{value_append}
use Rattle.cj_cdm.specs.Texts.{last_digits}

pub last_are_digits : (k n : ℕ) → are_digits (last_digits k n) ≡ true
unfolding last_digits
last_are_digits zero n = refl
last_are_digits (suc k) n =
    all_append is_ascii_digit (last_digits k (n / 10)) ((48 + n % 10) ∷ []) (last_are_digits k (n / 10)) (rw (digit_is n) refl)

pub last_length : (k n : ℕ) → length (last_digits k n) ≡ k
unfolding last_digits
last_length zero n = refl
last_length (suc k) n = omega (arith, length-append (last_digits k (n / 10)) ((48 + n % 10) ∷ []), last_length k (n / 10))

-- the last digits behind those before them are the number
pub last_value : (k n : ℕ) → digits_value_after 10 (n / 10 ^ k) (last_digits k n) ≡ n
unfolding last_digits
last_value zero n = div-one n
last_value (suc k) n =
    let front : n / 10 ^ suc k ≡ n / 10 / 10 ^ k = ap (λ (d : ℕ). n / d) (let e : 10 ^ suc k ≡ 10 * 10 ^ k = omega arith in e) ∙ sym (div-div-eq-div-mul n 10 (10 ^ k)) in
    value_append (n / 10 ^ suc k) (last_digits k (n / 10)) ((48 + n % 10) ∷ [])
    ∙ ap (λ (v : ℕ). digits_value_after 10 v (last_digits k (n / 10)) * 10 + digit_value (48 + n % 10)) front
    ∙ ap (λ (v : ℕ). v * 10 + digit_value (48 + n % 10)) (last_value k (n / 10))
    ∙ ap (λ (d : ℕ). n / 10 * 10 + d) (value_is n)
    ∙ omega arith
