-- Decimal numbers as fractions.
use Rattle.std.specs.Prelude.{ℕ, suc, ◌*◌, ◌^◌, Bool, ℤ, pos, negsuc}

-- a decimal number: its sign, and its digits as a whole number times a power of ten
pub record Number : Type 0 where
  pub negative : Bool
  pub digits : ℕ
  pub power : ℤ

-- ten to a whole power, as a fraction
abbrev pub ten_above : ℤ → ℕ
ten_above (pos k) = 10 ^ k
ten_above (negsuc k) = 1

abbrev pub ten_below : ℤ → ℕ
ten_below (pos k) = 1
ten_below (negsuc k) = 10 ^ suc k

-- the size of a number, as a fraction
abbrev pub numerator : Number → ℕ
numerator n = n.digits * ten_above n.power

abbrev pub denominator : Number → ℕ
denominator n = ten_below n.power
