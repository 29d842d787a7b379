-- Where the digits of an epoch text stand.
use Prim.Native.String.{String}
use Rattle.std.proofs.Common.{◌≡◌, ℕ, ◌≤◌, List, [], ◌∷◌, length, map, take, drop, true, false, Bool, cond, subst, ◌∙◌, sym, arith, refl}
use Rattle.std.specs.Prelude.{IsTrue, ◌||◌, ◌==◌, codes, nat_le}
use Rattle.std.specs.Char.{is_ascii_digit}
use Rattle.std.specs.List.{list_all, list_any, filter, zip}
use Rattle.std.proofs.lemmas.Bool.{leb-true}
use Rattle.std.proofs.lemmas.Bool.Decides.{nat_tests}
use Rattle.cj_epoch.specs.Picture.{stands_for, is_like, begins_like, digits_at}
use Rattle.cj_epoch.specs.Reading.{CALENDAR, ORDINAL}
use Rattle.cj_epoch.proofs.DigitLemmas.{and_is, both}

-- the bytes are digits
abbrev pub AreDigits : List ℕ → Type 0
AreDigits text = IsTrue (list_all is_ascii_digit text)

-- a byte at the place of this letter is a digit
abbrev IsPlace : String → Type 0
IsPlace letter = (sign byte : ℕ) → list_any (λ (l : ℕ). l == sign) (codes letter) ≡ true → stands_for sign byte ≡ is_ascii_digit byte

more : (here : Bool) (sign byte : ℕ) (others : List (ℕ × ℕ)) → (here ≡ true → IsTrue (is_ascii_digit byte)) → AreDigits (map (λ (p : ℕ × ℕ). p.1) others) → AreDigits (map (λ (p : ℕ × ℕ). p.1) (cond here ((sign, byte) ∷ others) others))
more true sign byte others first rest = both (is_ascii_digit byte) (list_all is_ascii_digit (map (λ (p : ℕ × ℕ). p.1) others)) (first refl) rest
more false sign byte others first rest = rest

digits_at-digits : (picture text : List ℕ) (letter : String) → IsPlace letter → IsTrue (is_like picture text) → AreDigits (digits_at picture text letter)
digits_at-digits [] text letter place like = refl
digits_at-digits (sign ∷ picture) [] letter place like = refl
digits_at-digits (sign ∷ picture) (byte ∷ text) letter place like =
    let parts = and_is (stands_for sign byte) (is_like picture text) like in
    more (list_any (λ (l : ℕ). l == sign) (codes letter)) sign byte (filter (λ (p : ℕ × ℕ). list_any (λ (l : ℕ). l == p.0) (codes letter)) (zip picture text))
    (λ here. sym (place sign byte here) ∙ parts.0)
    (digits_at-digits picture text letter place parts.1)

is_sign : (l sign : ℕ) → ((l == sign) || false) ≡ true → l ≡ sign
is_sign l sign h = grind (arith, nat_tests)

is_place : (l : ℕ) → ((byte : ℕ) → stands_for l byte ≡ is_ascii_digit byte) → (sign byte : ℕ) → ((l == sign) || false) ≡ true → stands_for sign byte ≡ is_ascii_digit byte
is_place l stands sign byte h = subst (λ (s : ℕ). stands_for s byte ≡ is_ascii_digit byte) (is_sign l sign h) (stands byte)

-- these bytes are what the text has at the letter, and digits
pub record IsNumber (picture text : List ℕ) (letter : String) (bytes : List ℕ) : Type 0 where
  pub here : bytes ≡ digits_at picture text letter
  pub digits : AreDigits bytes

number_is : (picture text : List ℕ) (letter : String) (bytes : List ℕ) → IsPlace letter → IsTrue (begins_like picture text) → bytes ≡ digits_at picture text letter → IsNumber picture text letter bytes
number_is picture text letter bytes place begins here =
    let like = (and_is (nat_le (length picture) (length text)) (is_like picture text) begins).1 in
    record { here = here; digits = subst AreDigits (sym here) (digits_at-digits picture text letter place like) }

-- such a text is as long as the picture
at_least : (picture text : List ℕ) → begins_like picture text ≡ true → length picture ≤ length text
at_least picture text begins =
    let long = (and_is (nat_le (length picture) (length text)) (is_like picture text) begins).0 in
    leb-true (length picture) (length text) long

pub calendar_long : (text : List ℕ) → begins_like CALENDAR text ≡ true → 19 ≤ length text
calendar_long text begins = at_least CALENDAR text begins

pub ordinal_long : (text : List ℕ) → begins_like ORDINAL text ≡ true → 17 ≤ length text
ordinal_long text begins = at_least ORDINAL text begins

-- the places of the calendar form
record CalendarPlaces (text : List ℕ) : Type 0 where
  year : take 4 text ≡ digits_at CALENDAR text "Y"
  month : take 2 (drop 5 text) ≡ digits_at CALENDAR text "M"
  day : take 2 (drop 8 text) ≡ digits_at CALENDAR text "D"
  hour : take 2 (drop 11 text) ≡ digits_at CALENDAR text "h"
  minute : take 2 (drop 14 text) ≡ digits_at CALENDAR text "m"
  second : take 2 (drop 17 text) ≡ digits_at CALENDAR text "s"

calendar_places : (text : List ℕ) → IsTrue (begins_like CALENDAR text) → CalendarPlaces text
calendar_places (y1 ∷ y2 ∷ y3 ∷ y4 ∷ p ∷ m1 ∷ m2 ∷ q ∷ d1 ∷ d2 ∷ t ∷ h1 ∷ h2 ∷ r ∷ n1 ∷ n2 ∷ s ∷ s1 ∷ s2 ∷ rest) begins =
    record { year = refl; month = refl; day = refl; hour = refl; minute = refl; second = refl }
calendar_places _ begins = absurd cc

pub record CalendarNumbers (text : List ℕ) : Type 0 where
  pub year : IsNumber CALENDAR text "Y" (take 4 text)
  pub month : IsNumber CALENDAR text "M" (take 2 (drop 5 text))
  pub day : IsNumber CALENDAR text "D" (take 2 (drop 8 text))
  pub hour : IsNumber CALENDAR text "h" (take 2 (drop 11 text))
  pub minute : IsNumber CALENDAR text "m" (take 2 (drop 14 text))
  pub second : IsNumber CALENDAR text "s" (take 2 (drop 17 text))

pub calendar_numbers : (text : List ℕ) → IsTrue (begins_like CALENDAR text) → CalendarNumbers text
calendar_numbers text begins =
    let places = calendar_places text begins in
    record {
      year = number_is CALENDAR text "Y" _ (is_place 89 (λ (b : ℕ). refl)) begins places.year;
      month = number_is CALENDAR text "M" _ (is_place 77 (λ (b : ℕ). refl)) begins places.month;
      day = number_is CALENDAR text "D" _ (is_place 68 (λ (b : ℕ). refl)) begins places.day;
      hour = number_is CALENDAR text "h" _ (is_place 104 (λ (b : ℕ). refl)) begins places.hour;
      minute = number_is CALENDAR text "m" _ (is_place 109 (λ (b : ℕ). refl)) begins places.minute;
      second = number_is CALENDAR text "s" _ (is_place 115 (λ (b : ℕ). refl)) begins places.second;
    }

-- the places of the ordinal form
record OrdinalPlaces (text : List ℕ) : Type 0 where
  year : take 4 text ≡ digits_at ORDINAL text "Y"
  day : take 3 (drop 5 text) ≡ digits_at ORDINAL text "D"
  hour : take 2 (drop 9 text) ≡ digits_at ORDINAL text "h"
  minute : take 2 (drop 12 text) ≡ digits_at ORDINAL text "m"
  second : take 2 (drop 15 text) ≡ digits_at ORDINAL text "s"

ordinal_places : (text : List ℕ) → IsTrue (begins_like ORDINAL text) → OrdinalPlaces text
ordinal_places (y1 ∷ y2 ∷ y3 ∷ y4 ∷ p ∷ d1 ∷ d2 ∷ d3 ∷ t ∷ h1 ∷ h2 ∷ r ∷ n1 ∷ n2 ∷ s ∷ s1 ∷ s2 ∷ rest) begins =
    record { year = refl; day = refl; hour = refl; minute = refl; second = refl }
ordinal_places _ begins = absurd cc

pub record OrdinalNumbers (text : List ℕ) : Type 0 where
  pub year : IsNumber ORDINAL text "Y" (take 4 text)
  pub day : IsNumber ORDINAL text "D" (take 3 (drop 5 text))
  pub hour : IsNumber ORDINAL text "h" (take 2 (drop 9 text))
  pub minute : IsNumber ORDINAL text "m" (take 2 (drop 12 text))
  pub second : IsNumber ORDINAL text "s" (take 2 (drop 15 text))

pub ordinal_numbers : (text : List ℕ) → IsTrue (begins_like ORDINAL text) → OrdinalNumbers text
ordinal_numbers text begins =
    let places = ordinal_places text begins in
    record {
      year = number_is ORDINAL text "Y" _ (is_place 89 (λ (b : ℕ). refl)) begins places.year;
      day = number_is ORDINAL text "D" _ (is_place 68 (λ (b : ℕ). refl)) begins places.day;
      hour = number_is ORDINAL text "h" _ (is_place 104 (λ (b : ℕ). refl)) begins places.hour;
      minute = number_is ORDINAL text "m" _ (is_place 109 (λ (b : ℕ). refl)) begins places.minute;
      second = number_is ORDINAL text "s" _ (is_place 115 (λ (b : ℕ). refl)) begins places.second;
    }
