-- Whole square roots.
use Rattle.std.specs.Prelude.{ℕ, ◌*◌, nat_le}
use Rattle.cj_interval.specs.Passing.{greatest_to, least_from}

-- the greatest whole number whose square is at most n
unfoldable pub floor_root : ℕ → ℕ
floor_root n = greatest_to n (λ r. nat_le (r * r) n)

-- the least whole number whose square is at least n
unfoldable pub ceil_root : ℕ → ℕ
ceil_root n = least_from n 0 (λ r. nat_le n (r * r))
