-- Decimal numbers of 18 significant digits, and their one text.
use Rattle.std.specs.Prelude.{ℕ, ◌-◌, ◌/◌, ◌^◌, Bool, false, ◌==◌, nat_eq, if◌then◌else◌, ℤ, pos, ◌+ℤ◌, unsigned_abs, int_lt}
use Rattle.std.specs.Prelude.{List, [], ◌∷◌, ◌++◌, length, take, drop, Result, Ok, Err, decimal}
use Rattle.std.specs.Int.Digits.{digits_of}
use Rattle.std.specs.List.{suffix_len}
use Rattle.cj_base.specs.Decimals.{number_of, is_tiny, is_huge}
use Rattle.cj_base.specs.Numbers.{Number}
use Rattle.cj_kvn.specs.Numbers.{is_number, nearest, number, parts_of}
use Rattle.cj_base.specs.declared.decimals.Decimal.{Decimal}
use Rattle.cj_kvn.specs.declared.rounded.Rounded.{Rounded}
use Rattle.cj_kvn.specs.declared.numbers.NumFault.{NumFault}
use Rattle.cj_kvn.specs.declared.numbers.NumFault.TheVariants.{NotNumber, TooLarge}

-- the number that was read, or the fault
abbrev pub number_read : Result Decimal NumFault → Result Number NumFault
number_read (Ok d) = Ok (number_of d)
number_read (Err e) = Err e

-- a number that is rounded already
abbrev pub rounded_number : Rounded → Number
rounded_number r = record { negative = r.negative; digits = r.digits; power = r.power }

abbrev pub zero_number : Number
zero_number = record { negative = false; digits = 0; power = pos 0 }

-- how many digits a whole number has, and none for 0
unfoldable pub digit_count : ℕ → ℕ
digit_count n = length (digits_of 10 n)

-- how many zero digits stand at its end
unfoldable pub trailing_zeros : ℕ → ℕ
trailing_zeros n = suffix_len (nat_eq 0) (digits_of 10 n)

-- the number with no zero digit at its end
unfoldable pub without_trailing_zeros : Number → Number
without_trailing_zeros n =
    let k = trailing_zeros n.digits in
    record { negative = n.negative; digits = n.digits / 10 ^ k; power = n.power +ℤ pos k }

-- the number to 18 significant digits, halves away from zero
unfoldable pub rounded : Number → Number
rounded n =
    let dropped = digit_count n.digits - 18 in
    record { negative = n.negative; digits = nearest n.digits (10 ^ dropped); power = n.power +ℤ pos dropped }

-- a number as a decimal, where it is not too large
abbrev pub decimal_form : Number → Result Number NumFault
decimal_form n =
    if is_tiny n then Ok zero_number
    else if is_huge (rounded n) then Err TooLarge
    else Ok (without_trailing_zeros (rounded n))

-- the decimal of a text, or why there is none
abbrev pub decimal_of : List ℕ → Result Number NumFault
decimal_of text = if is_number (parts_of text) then decimal_form (number (parts_of text)) else Err NotNumber

-- the power of ten of the first digit
unfoldable pub leading_power : Number → ℤ
leading_power n = if n.digits == 0 then pos 0 else n.power +ℤ pos (digit_count n.digits - 1)

abbrev pub minus_if : Bool → List ℕ
minus_if negative = if negative then 45 ∷ [] else []

-- the first digit, a point, and the other digits or 0
unfoldable pub significand_text : ℕ → List ℕ
significand_text n =
    let ds = decimal n in
    take 1 ds ++ 46 ∷ [] ++ (if length ds == 1 then 48 ∷ [] else drop 1 ds)

-- a sign and at least two digits
unfoldable pub exponent_text : ℤ → List ℕ
exponent_text x =
    let ds = decimal (unsigned_abs x) in
    (if int_lt x (pos 0) then 45 ∷ [] else 43 ∷ []) ++ (if length ds == 1 then 48 ∷ ds else ds)

-- a minus sign if negative, the digits with their point, E, and the exponent
unfoldable pub decimal_text_of : Number → List ℕ
decimal_text_of n = minus_if n.negative ++ significand_text n.digits ++ 69 ∷ [] ++ exponent_text (leading_power n)
