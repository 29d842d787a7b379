-- The limits on nodes.
use Rattle.std.specs.Prelude.{ℕ, ℤ, pos, neg_ℤ, ◌≤ℤ◌}

-- at most this in size
abbrev pub IsWithin : ℕ → ℤ → Type 0
IsWithin n z = (neg_ℤ (pos n) ≤ℤ z) × (z ≤ℤ pos n)

-- 500,000 km in nm
abbrev pub MAX_COORDINATE : ℕ
MAX_COORDINATE = 500_000_000_000_000_000

-- 20 km/s in nm/s
abbrev pub MAX_RATE : ℕ
MAX_RATE = 20_000_000_000_000

-- an hour in microseconds: the greatest distance of neighbouring nodes
abbrev pub MAX_STEP : ℕ
MAX_STEP = 3_600_000_000
