-- What a warning shows is printable.
use Rattle.std.proofs.Common.{◌≡◌, ℕ, ◌<◌, ◌^◌, true, List, [], ◌∷◌, ◌++◌, arith, refl, ap, ◌∙◌, append_assoc}
use Rattle.std.proofs.lemmas.Bool.Decides.{nat_tests}
use Rattle.std.specs.Char.{is_ascii_digit}
use Rattle.std.specs.Fmt.{decimal}
use Rattle.std.specs.List.{list_all}
use Rattle.std.specs.Prelude.{codes}
use Rattle.std.proofs.lemmas.Bool.{and_parts}
use Rattle.cj_kvn.specs.Numbers.{are_digits}
use Rattle.cj_kvn.proofs.ListLemmas.{all_append}
use Rattle.cj_kvn.proofs.NumberTextLemmas.{decimal_digits}
use Rattle.cj_status.specs.Faults.{shown_byte, shown_name}
use Rattle.cj_advice.specs.Warnings.{IsAppended, IsWarning, is_shown}

digit_shown : (c : ℕ) → is_ascii_digit c ≡ true → is_shown c ≡ true
digit_shown c digit = grind (arith, nat_tests)

digits_shown : (ds : List ℕ) → are_digits ds ≡ true → list_all is_shown ds ≡ true
digits_shown [] all = refl
digits_shown (c ∷ ds) all =
    let parts = and_parts (is_ascii_digit c) (are_digits ds) all in
    rw (digit_shown c parts.0) (digits_shown ds parts.1)

byte_shown : (b : ℕ) → is_shown (shown_byte b) ≡ true
byte_shown b = grind (arith, nat_tests)

pub name_shown : (name : List ℕ) → list_all is_shown (shown_name name) ≡ true
name_shown [] = refl
name_shown (b ∷ name) = rw (byte_shown b) (name_shown name)

-- what stands between the words of a warning and a name
pub count_shown : (count : ℕ) → count < 2 ^ 64 → list_all is_shown (codes ": " ++ (decimal count ++ codes ", first ")) ≡ true
count_shown count fits =
    all_append is_shown (codes ": ") (decimal count ++ codes ", first ") refl
    (all_append is_shown (decimal count) (codes ", first ") (digits_shown (decimal count) (decimal_digits count (omega arith))) refl)

pub both_appended : (before middle more after : List ℕ) → after ≡ (before ++ middle) ++ more → list_all is_shown middle ≡ true
    → list_all is_shown more ≡ true → IsAppended before after
both_appended before middle more after same first second =
    (middle ++ more, same ∙ append_assoc before middle more, all_append is_shown middle more first second)

-- words, and what is appended to them, and an end
pub warned : (words text whole : List ℕ) → list_all is_shown words ≡ true → IsAppended (codes "conj: warning: " ++ words) text
    → whole ≡ text ++ 10 ∷ [] → IsWarning whole
warned words text whole shown more same = (
  words ++ more.0,
  same ∙ ap (λ (t : List ℕ). t ++ 10 ∷ []) (more.1 ∙ append_assoc (codes "conj: warning: ") words more.0),
  all_append is_shown words more.0 shown more.2,
)
