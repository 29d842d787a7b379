-- The digits at the front of a text, read one by one.
use Rattle.std.proofs.Common.{◌≡◌, ℕ, ◌+◌, ◌*◌, ◌-◌, ◌<◌, ◌≤◌, List, [], ◌∷◌, true, false, length, get_or, take, arith, ap, sym, ◌∙◌, refl}
use Rattle.std.specs.Char.{is_ascii_digit, digit_value}
use Rattle.std.specs.Str.Parse.{digits_value, digits_value_after}
use Rattle.std.specs.List.{list_all}
use Rattle.std.proofs.lemmas.Int.Digits.{digits_value_more}
use Rattle.std.proofs.lemmas.List.Sums.{AllPass-from_list_all}
use Rattle.std.proofs.lemmas.Bool.Decides.{nat_tests}
use Rattle.std.proofs.lemmas.Str.{digit_value_digit}
use Rattle.cj_kvn.specs.Scanning.{run, after_run}
use Rattle.cj_kvn.proofs.ListLemmas.{tail_of, tail_of-cons, take_while_yes, take_while_no, behind_yes, behind_no}

pub in_digits : (b : ℕ) → is_ascii_digit b ≡ true → (48 ≤ b) × (b ≤ 57)
in_digits b h = grind (arith, nat_tests)

pub digit_is : (b : ℕ) → is_ascii_digit b ≡ true → digit_value b ≡ b - 48
digit_is b h = omega (arith, digit_value_digit b (in_digits b h))

pub run_more : (rest : List ℕ) (m : ℕ) → 1 ≤ length rest → is_ascii_digit (get_or rest 0 0) ≡ true
    → digits_value_after 10 (m * 10 + (get_or rest 0 0 - 48)) (run (tail_of rest)) ≡ digits_value_after 10 m (run rest)
run_more [] m some h = absurd (omega arith)
run_more (b ∷ text) m some h =
    ap (λ (t : List ℕ). digits_value_after 10 (m * 10 + (b - 48)) (run t)) (tail_of-cons b text)
    ∙ ap (λ (d : ℕ). digits_value_after 10 (m * 10 + d) (run text)) (sym (digit_is b h))
    ∙ ap (λ (t : List ℕ). digits_value_after 10 m t) (sym (take_while_yes is_ascii_digit b text h))

pub after_run_more : (rest : List ℕ) → 1 ≤ length rest → is_ascii_digit (get_or rest 0 0) ≡ true → after_run (tail_of rest) ≡ after_run rest
after_run_more [] some h = absurd (omega arith)
after_run_more (b ∷ text) some h = ap after_run (tail_of-cons b text) ∙ sym (behind_yes is_ascii_digit b text h)

-- no digit stands at the front
pub run_none : (rest : List ℕ) → (1 ≤ length rest → is_ascii_digit (get_or rest 0 0) ≡ false) → (run rest ≡ []) × (after_run rest ≡ rest)
run_none [] h = (refl, refl)
run_none (b ∷ text) h =
    let no : is_ascii_digit b ≡ false = h (omega arith) in
    (take_while_no is_ascii_digit b text no, behind_no is_ascii_digit b text no)

-- each of the digits
pub digit_at : (text : List ℕ) (i : ℕ) → list_all is_ascii_digit text ≡ true → i < length text → (48 ≤ get_or text i 0) × (get_or text i 0 ≤ 57)
digit_at text i all below = in_digits (get_or text i 0) (AllPass-from_list_all is_ascii_digit text all i 0 below)

-- the value with one more digit
pub value_more : (text : List ℕ) (i : ℕ) → list_all is_ascii_digit text ≡ true → i < length text
    → digits_value 10 (take (i + 1) text) ≡ digits_value 10 (take i text) * 10 + (get_or text i 0 - 48)
value_more text i all below =
    digits_value_more 10 text i below
    ∙ ap (λ (d : ℕ). digits_value 10 (take i text) * 10 + d) (omega (arith, digit_value_digit (get_or text i 0) (digit_at text i all below)))
