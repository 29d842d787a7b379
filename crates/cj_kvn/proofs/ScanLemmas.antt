-- A whole number's text, read from left to right.
use Rattle.std.proofs.Common.{◌≡◌, ℕ, ◌+◌, ◌*◌, ◌/◌, ◌^◌, ◌<◌, List, [], ◌∷◌, ◌++◌, Bool, true, false, length, arith, ap, sym, ◌∙◌, refl, subst, Option, Some, None, ℤ, pos, ◌+ℤ◌, ◌-ℤ◌, inl, inr}
use Rattle.std.proofs.Math.Nat.{zero-div}
use Rattle.std.specs.Prelude.{◌&&◌, MatchOption, nat_le, if◌then◌else◌}
use Rattle.std.specs.Char.{is_ascii_digit, digit_value}
use Rattle.std.specs.Str.Parse.{digits_value, digits_value_after, starts_with_minus, without_leading_sign}
use Rattle.std.proofs.lemmas.Bool.Decides.{leb_tells}
use Rattle.std.proofs.lemmas.List.{length-append, nil_from_length}
use Rattle.cj_kvn.specs.declared.leading.Leading.{Leading}
use Rattle.cj_kvn.specs.declared.leading.Scanned.{Scanned}
use Rattle.cj_kvn.specs.Numbers.{Parts, parts_of, is_number, number, is_exponent, exponent_value, is_point, digits, are_digits}
use Rattle.cj_kvn.specs.Scanning.{Begins, Leads, run, after_run, fraction_run, after_fraction, exponent_said}
use Rattle.cj_kvn.proofs.ListLemmas.{all_take_while, front_behind, all_append}
use Rattle.cj_kvn.proofs.PartsLemmas.{Reads, Told, told}

-- the text, and what stands behind its sign, its whole digits and its digits behind a point
pub record Read (text unsigned behind rest : List ℕ) : Type 0 where
  pub sign : unsigned ≡ without_leading_sign text
  pub whole : behind ≡ after_run unsigned
  pub fraction : rest ≡ after_fraction behind

told_of : (text unsigned behind rest : List ℕ) → Read text unsigned behind rest
    → Told (parts_of text) (starts_with_minus text) (run unsigned) (fraction_run behind) rest
told_of text unsigned behind rest r =
    let p = parts_of text in
    let n = starts_with_minus text in
    let first = subst (λ (u : List ℕ). Told p n (run u) (fraction_run (after_run u)) (after_fraction (after_run u))) (sym r.sign) (told text) in
    let second = subst (λ (b : List ℕ). Told p n (run unsigned) (fraction_run b) (after_fraction b)) (sym r.whole) first in
    subst (Told p n (run unsigned) (fraction_run behind)) (sym r.fraction) second

-- no exponent where one should stand
pub no_exponent : (text unsigned behind rest : List ℕ) → Read text unsigned behind rest → exponent_said rest ≡ None → is_number (parts_of text) ≡ false
no_exponent text unsigned behind rest r none =
    subst (λ (o : Option ℤ). MatchOption o (is_number (parts_of text) ≡ false) (Reads (parts_of text) (starts_with_minus text) (run unsigned) (fraction_run behind)))
    none (told_of text unsigned behind rest r)

-- an exponent of this value
pub exponent_is : (text unsigned behind rest : List ℕ) (power : ℤ) → Read text unsigned behind rest → exponent_said rest ≡ Some power
    → Reads (parts_of text) (starts_with_minus text) (run unsigned) (fraction_run behind) power
exponent_is text unsigned behind rest power r some =
    subst (λ (o : Option ℤ). MatchOption o (is_number (parts_of text) ≡ false) (Reads (parts_of text) (starts_with_minus text) (run unsigned) (fraction_run behind)))
    some (told_of text unsigned behind rest r)

-- no digit at all
pub without_digits : (p : Parts) → digits p ≡ [] → is_number p ≡ false
unfolding is_number
without_digits p none = ap (λ (ds : List ℕ). nat_le 1 (length ds) && are_digits ds && is_exponent p.exponent) none

empty_by : (p : Parts) (n : Bool) (w f : List ℕ) (o : Option ℤ) → w ≡ [] → f ≡ [] → MatchOption o (is_number p ≡ false) (Reads p n w f) → is_number p ≡ false
empty_by p n w f None none_whole none_fraction t = t
empty_by p n w f (Some z) none_whole none_fraction t =
    without_digits p (ap digits t.same ∙ ap (λ (v : List ℕ). v ++ f) none_whole ∙ none_fraction)

pub split_length : (unsigned behind : List ℕ) → behind ≡ after_run unsigned → length unsigned ≡ length (run unsigned) + length behind
split_length unsigned behind e =
    let split : unsigned ≡ run unsigned ++ behind = front_behind is_ascii_digit unsigned ∙ ap (λ (b : List ℕ). run unsigned ++ b) (sym e) in
    ap length split ∙ length-append (run unsigned) behind

pub no_digits : (text unsigned behind rest : List ℕ) → Read text unsigned behind rest → length behind ≡ length unsigned → length (fraction_run behind) ≡ 0
    → is_number (parts_of text) ≡ false
no_digits text unsigned behind rest r same none =
    let long = split_length unsigned behind r.whole in
    empty_by (parts_of text) (starts_with_minus text) (run unsigned) (fraction_run behind) (exponent_said rest)
    (nil_from_length (run unsigned) (omega arith)) (nil_from_length (fraction_run behind) none) (told_of text unsigned behind rest r)

-- digits throughout
all_fraction : (text : List ℕ) → are_digits (fraction_run text) ≡ true
all_fraction [] = refl
all_fraction (b ∷ text) = elim (is_point b) as (λ (t : Bool). are_digits (if t then run text else []) ≡ true) [
  | true ↦ all_take_while is_ascii_digit text
  | false ↦ refl
]

pub value_append : (n : ℕ) (xs ys : List ℕ) → digits_value_after 10 n (xs ++ ys) ≡ digits_value_after 10 (digits_value_after 10 n xs) ys
value_append n [] ys = refl
value_append n (x ∷ xs) ys = value_append (n * 10 + digit_value x) xs ys

pub is_of_form : (p : Parts) (n : Bool) (w f : List ℕ) (power : ℤ) → Reads p n w f power → are_digits w ≡ true → are_digits f ≡ true
    → 0 < length w + length f → is_number p ≡ true
unfolding is_number
is_of_form p n w f power r whole fraction some =
    let same : digits p ≡ w ++ f = ap digits r.same in
    let form : is_exponent p.exponent ≡ true = ap (λ (q : Parts). is_exponent q.exponent) r.same ∙ r.form in
    let all : are_digits (digits p) ≡ true = ap are_digits same ∙ all_append is_ascii_digit w f whole fraction in
    let long : length (digits p) ≡ length w + length f = ap length same ∙ length-append w f in
    let enough : nat_le 1 (length (digits p)) ≡ true = elim (leb_tells 1 (length (digits p))) [ inl h ↦ h.0 | inr h ↦ absurd (omega arith) ] in
    rw (enough, all, form) refl

pub scanned : (text unsigned behind rest : List ℕ) (power : ℤ) (l : Leading) (s : Scanned) → Read text unsigned behind rest
    → exponent_said rest ≡ Some power → 0 < length (run unsigned) + length (fraction_run behind)
    → Leads l (digits_value_after 10 (digits_value_after 10 0 (run unsigned)) (fraction_run behind))
    → s.negative ≡ starts_with_minus text → s.leading ≡ l.value → s.power ≡ (power -ℤ pos (length (fraction_run behind))) +ℤ pos l.past
    → (is_number (parts_of text) ≡ true) × Begins s (number (parts_of text))
unfolding number
scanned text unsigned behind rest power l s r some digits_there leads negative leading whole_power =
    let reads = exponent_is text unsigned behind rest power r some in
    let w = run unsigned in
    let f = fraction_run behind in
    let value : digits_value 10 (digits (parts_of text)) ≡ digits_value_after 10 (digits_value_after 10 0 w) f =
    ap (λ (p : Parts). digits_value 10 (digits p)) reads.same ∙ value_append 0 w f in
    let tens : exponent_value (parts_of text).exponent -ℤ pos (length (parts_of text).fraction) ≡ power -ℤ pos (length f) =
    ap (λ (p : Parts). exponent_value p.exponent -ℤ pos (length p.fraction)) reads.same ∙ ap (λ (z : ℤ). z -ℤ pos (length f)) reads.value in (
      is_of_form (parts_of text) (starts_with_minus text) w f power reads (all_take_while is_ascii_digit unsigned) (all_fraction behind) digits_there,
      record {
        past = l.past;
        negative = negative ∙ sym (ap (λ (p : Parts). p.negative) reads.same);
        leading = leading ∙ leads.value ∙ ap (λ (n : ℕ). n / 10 ^ l.past) (sym value);
        full = λ h. omega (arith, leads.full h);
        power = whole_power ∙ ap (λ (z : ℤ). z +ℤ pos l.past) (sym tens);
      },
    )

-- the number 0, before any digit
pub leads_none : (l : Leading) → l.value ≡ 0 → l.past ≡ 0 → Leads l 0
leads_none l value past = record { value = value ∙ sym (zero-div (10 ^ l.past)); full = λ h. absurd (omega arith) }
