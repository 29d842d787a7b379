-- The zero digits at the end of a number.
use Rattle.std.proofs.Common.{◌≡◌, ℕ, ◌+◌, ◌/◌, ◌%◌, ◌^◌, ◌<◌, ◌≤◌, List, [], ◌∷◌, ◌++◌, cond, arith, ap, sym, ◌∙◌}
use Rattle.std.specs.Prelude.{nat_eq}
use Rattle.std.specs.Int.Digits.{digits_of}
use Rattle.std.specs.List.{prefix_len, suffix_len}
use Rattle.std.proofs.Math.Nat.{div-div-eq-div-mul, mul_comm}
use Rattle.std.proofs.lemmas.Bool.Decides.{nat_tests}
use Rattle.std.proofs.lemmas.Int.Digits.{digits_of_step, length-digits_of-le}
use Rattle.std.proofs.lemmas.List.{reverse-append}
use Rattle.std.proofs.lemmas.List.Sums.{suffix_len-le-length}
use Rattle.cj_kvn.specs.Decimals.{trailing_zeros}
use Rattle.cj_kvn.proofs.PowerLemmas.{ten_more}

suffix_push : (xs : List ℕ) (x : ℕ) → suffix_len (nat_eq 0) (xs ++ x ∷ []) ≡ cond (nat_eq 0 x) (1 + suffix_len (nat_eq 0) xs) 0
suffix_push xs x = ap (prefix_len (nat_eq 0)) (reverse-append xs (x ∷ []))

-- one zero more
pub zeros_more : (n : ℕ) → 0 < n → n % 10 ≡ 0 → trailing_zeros n ≡ trailing_zeros (n / 10) + 1
unfolding trailing_zeros
zeros_more n some zero_digit =
    ap (suffix_len (nat_eq 0)) (digits_of_step 10 n (omega arith) some)
    ∙ suffix_push (digits_of 10 (n / 10)) (n % 10)
    ∙ ap (λ (d : ℕ). cond (nat_eq 0 d) (1 + suffix_len (nat_eq 0) (digits_of 10 (n / 10))) 0) zero_digit
    ∙ omega arith

-- none
pub zeros_none : (n : ℕ) → 0 < n → 0 < n % 10 → trailing_zeros n ≡ 0
unfolding trailing_zeros
zeros_none n some digit =
    ap (suffix_len (nat_eq 0)) (digits_of_step 10 n (omega arith) some)
    ∙ suffix_push (digits_of 10 (n / 10)) (n % 10)
    ∙ grind (arith, nat_tests)

pub zeros_most : (n k : ℕ) → n < 10 ^ k → trailing_zeros n ≤ k
unfolding trailing_zeros
zeros_most n k small = omega (arith, suffix_len-le-length (nat_eq 0) (digits_of 10 n), length-digits_of-le 10 k n (omega arith) small)

-- without its zeros a number is the same with one zero less
pub cut_more : (n : ℕ) → 0 < n → n % 10 ≡ 0 → n / 10 / 10 ^ trailing_zeros (n / 10) ≡ n / 10 ^ trailing_zeros n
cut_more n some zero_digit =
    let t = trailing_zeros (n / 10) in
    div-div-eq-div-mul n 10 (10 ^ t)
    ∙ ap (λ (d : ℕ). n / d) (mul_comm 10 (10 ^ t) ∙ sym (ten_more t) ∙ ap (λ (j : ℕ). 10 ^ j) (sym (zeros_more n some zero_digit)))
