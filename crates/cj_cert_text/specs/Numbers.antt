-- The numbers in the text of a certificate: decimal without leading zeros, `-` before a negative one, no `-0`.
use Rattle.std.specs.Prelude.{ℕ, ◌==◌, Bool, false, not, ◌&&◌, if◌then◌else◌, ℤ, List, [], ◌∷◌, codes, drop, Option, Some, None}
use Rattle.std.specs.Char.{is_ascii_digit}
use Rattle.std.specs.List.{list_all}
use Rattle.std.specs.Str.{bytes_eq}
use Rattle.std.specs.Str.Parse.{signed_digits_value, starts_with_minus}

-- one digit or more, and no zero in front of others
abbrev pub is_numeral : List ℕ → Bool
is_numeral [] = false
is_numeral (d ∷ []) = is_ascii_digit d
is_numeral (d ∷ e ∷ ds) = not (d == 48) && list_all is_ascii_digit (d ∷ e ∷ ds)

-- a text without the minus in front
abbrev pub without_minus : List ℕ → List ℕ
without_minus text = if starts_with_minus text then drop 1 text else text

abbrev pub is_number : List ℕ → Bool
is_number text = is_numeral (without_minus text) && not (bytes_eq text (codes "-0"))

-- the number that a text says
unfoldable pub number_of : List ℕ → Option ℤ
number_of text = if is_number text then Some (signed_digits_value 10 text) else None

abbrev pub in_front : Option ℤ → List ℤ → List ℤ
in_front None numbers = []
in_front (Some z) numbers = z ∷ numbers

-- the numbers in front of other words
unfoldable pub numbers_in : List (List ℕ) → List ℤ
numbers_in [] = []
numbers_in (word ∷ words) = in_front (number_of word) (numbers_in words)

-- the first word that is no number, and all behind it
unfoldable pub others_in : List (List ℕ) → List (List ℕ)
others_in [] = []
others_in (word ∷ words) = if is_number word then others_in words else word ∷ words
