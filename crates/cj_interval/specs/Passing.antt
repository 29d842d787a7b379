-- The greatest and the least number that passes a test.
use Rattle.std.specs.Prelude.{ℕ, zero, suc, ◌+◌, Bool, if◌then◌else◌}

-- the greatest number up to n that passes a test, else 0
unfoldable pub greatest_to : ℕ → (ℕ → Bool) → ℕ
greatest_to zero test = 0
greatest_to (suc n) test = if test (suc n) then suc n else greatest_to n test

-- the least of the n numbers from r on that passes a test, else the number behind them
unfoldable pub least_from : ℕ → ℕ → (ℕ → Bool) → ℕ
least_from zero r test = r
least_from (suc n) r test = if test r then r else least_from n (r + 1) test
