-- Quotients rounded down and up.
use Rattle.std.specs.Prelude.{ℕ, ℤ, pos, neg_ℤ}
use Rattle.std.specs.Int.{int_div_euclid}

-- the greatest whole number that is at most z / d, for d at least 1
unfoldable pub floor_div : ℤ → ℕ → ℤ
floor_div z d = int_div_euclid z (pos d)

-- the least whole number that is at least z / d, for d at least 1
unfoldable pub ceil_div : ℤ → ℕ → ℤ
ceil_div z d = neg_ℤ (int_div_euclid (neg_ℤ z) (pos d))
