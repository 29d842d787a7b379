-- The limits of a size.
use Rattle.std.specs.Prelude.{ℕ, ◌^◌}

-- a kilometre in nm: the greatest radius
abbrev pub MAX_RADIUS : ℕ
MAX_RADIUS = 10 ^ 12
