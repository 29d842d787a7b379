-- Decimal numbers of 18 significant digits.
use Rattle.std.specs.Prelude.{◌≡◌, ◌*◌, ◌^◌, Bool, false, ◌==◌, nat_lt, nat_le, if◌then◌else◌, ℤ, ◌+ℤ◌}
use Rattle.cj_base.specs.Numbers.{Number, numerator, denominator, ten_above, ten_below}
use Rattle.cj_base.specs.declared.decimals.Decimal.{Decimal}

-- the number that a decimal is
abbrev pub number_of : Decimal → Number
number_of d = record { negative = d.negative; digits = d.digits; power = d.exponent }

-- the size is below 10 ^ -99
unfoldable pub is_tiny : Number → Bool
is_tiny n = nat_lt (numerator n * 10 ^ 99) (denominator n)

-- the size is 10 ^ 100 or more
unfoldable pub is_huge : Number → Bool
is_huge n = nat_le (denominator n * 10 ^ 100) (numerator n)

-- zero, or a size from 10 ^ -99 on and below 10 ^ 100
abbrev pub IsReadable : Number → Type 0
IsReadable n = (is_tiny n ≡ (n.digits == 0)) × (is_huge n ≡ false)

-- the number times 10 ^ by
abbrev pub shifted : Number → ℤ → Number
shifted n by = if n.digits == 0 then n else record n { power = n.power +ℤ by }

-- m is the number n times 10 ^ by
pub record IsTenfold (n : Number) (by : ℤ) (m : Number) : Type 0 where
  pub negative : m.negative ≡ n.negative
  pub size : numerator m * (denominator n * ten_below by) ≡ numerator n * ten_above by * denominator m
