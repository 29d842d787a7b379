-- What lies between two ends, and the ends of a product.
use Rattle.std.specs.Prelude.{ℤ, ◌≤ℤ◌}
use Rattle.std.specs.Int.{int_min, int_max}
pub use Rattle.cj_interval.specs.Sizes.{IsWithin}

-- x lies between two ends
pub record IsIn (lo hi x : ℤ) : Type 0 where
  pub low : lo ≤ℤ x
  pub high : x ≤ℤ hi

-- the least of four
unfoldable pub least : ℤ → ℤ → ℤ → ℤ → ℤ
least a b c d = int_min (int_min a b) (int_min c d)

-- the greatest of four
unfoldable pub greatest : ℤ → ℤ → ℤ → ℤ → ℤ
greatest a b c d = int_max (int_max a b) (int_max c d)
