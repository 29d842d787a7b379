-- What the text of a number says, and how its value is rounded.
use Rattle.std.specs.Prelude.{ℕ, true, ◌+◌, ◌*◌, ◌/◌, ◌^◌, Bool, ◌&&◌, ◌||◌, ◌==◌, nat_le, if◌then◌else◌, List, ◌++◌, length, Option, Some, None, Result, Ok, Err, ℤ, pos, negsuc, neg_ℤ, ◌-ℤ◌}
use Rattle.std.specs.Char.{is_ascii_digit}
use Rattle.std.specs.List.{before_first, after_first, list_all, list_any}
use Rattle.std.specs.Str.Parse.{digits_value, signed_digits_value, starts_with_minus, without_leading_sign}
use Rattle.cj_base.specs.Numbers.{Number, numerator, denominator}
use Rattle.cj_kvn.specs.declared.numbers.NumFault.{NumFault}
use Rattle.cj_kvn.specs.declared.numbers.NumFault.TheVariants.{NotNumber, TooLarge}

-- E or e
abbrev pub is_exponent_mark : ℕ → Bool
is_exponent_mark b = (b == 69) || (b == 101)

abbrev pub is_point : ℕ → Bool
is_point b = b == 46

abbrev pub are_digits : List ℕ → Bool
are_digits text = list_all is_ascii_digit text

-- a text of the form of a number, cut at its point and at its exponent's mark
pub record Parts : Type 0 where
  pub negative : Bool
  pub whole : List ℕ
  pub fraction : List ℕ
  pub exponent : Option (List ℕ)

unfoldable pub parts_of : List ℕ → Parts
parts_of text =
    let unsigned = without_leading_sign text in
    let significand = before_first is_exponent_mark unsigned in
    record {
      negative = starts_with_minus text;
      whole = before_first is_point significand;
      fraction = after_first is_point significand;
      exponent = if list_any is_exponent_mark unsigned then Some (after_first is_exponent_mark unsigned) else None;
    }

-- the digits before the point and behind it
abbrev pub digits : Parts → List ℕ
digits p = p.whole ++ p.fraction

-- none, or one to four digits, perhaps behind a sign
abbrev pub is_exponent : Option (List ℕ) → Bool
is_exponent None = true
is_exponent (Some text) =
    let size = without_leading_sign text in
    nat_le 1 (length size) && nat_le (length size) 4 && are_digits size

abbrev pub exponent_value : Option (List ℕ) → ℤ
exponent_value None = pos 0
exponent_value (Some text) = signed_digits_value 10 text

-- the parts are those of a number: one or more digits, and perhaps an exponent
unfoldable pub is_number : Parts → Bool
is_number p = nat_le 1 (length (digits p)) && are_digits (digits p) && is_exponent p.exponent

-- the number that the parts say
unfoldable pub number : Parts → Number
number p = record {
  negative = p.negative;
  digits = digits_value 10 (digits p);
  power = exponent_value p.exponent -ℤ pos (length p.fraction);
}

-- the whole number nearest to a fraction, halves upward
abbrev pub nearest : ℕ → ℕ → ℕ
nearest n d = (2 * n + d) / (2 * d)

abbrev pub signed : Bool → ℕ → ℤ
signed negative size = if negative then neg_ℤ (pos size) else pos size

-- the size of a number times 10 ^ places, as the nearest whole number
unfoldable pub scaled_size : ℕ → Number → ℕ
scaled_size places n = nearest (numerator n * 10 ^ places) (denominator n)

-- the number times 10 ^ places, halves away from zero, where it is at most 10 ^ 36 in size
abbrev pub scaled : ℕ → Number → Result ℤ NumFault
scaled places n = if nat_le (scaled_size places n) (10 ^ 36) then Ok (signed n.negative (scaled_size places n)) else Err TooLarge

-- the number of a text times 10 ^ places, or why there is none
abbrev pub scaled_of : ℕ → List ℕ → Result ℤ NumFault
scaled_of places text = if is_number (parts_of text) then scaled places (number (parts_of text)) else Err NotNumber
