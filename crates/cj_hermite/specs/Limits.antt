-- Limits: how far two nodes are apart, and how far and how fast their interpolant goes.
use Rattle.std.specs.Prelude.{ℕ}

-- the greatest time between two nodes: an hour in microseconds
abbrev pub MAX_SPAN : ℕ
MAX_SPAN = 3_600_000_000

-- how far a piece reaches: 524,000 km in nm
abbrev pub REACH : ℕ
REACH = 524_000_000_000_000_000

-- the same in the unit of the control values
abbrev pub CONTROL_REACH : ℕ
CONTROL_REACH = 1_572_000_000_000_000_000_000_000

-- the greatest rate of a piece in nm/s, where its nodes are one microsecond apart
abbrev pub RATE_REACH : ℕ
RATE_REACH = 3_144_000_000_000_000_000_000_000
