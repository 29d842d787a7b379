-- Sizes: how large a number is, whatever its sign.
use Rattle.std.specs.Prelude.{ℕ, ◌≤◌, ℤ, unsigned_abs}

-- z is at most m in size
abbrev pub IsWithin : ℕ → ℤ → Type 0
IsWithin m z = unsigned_abs z ≤ m
