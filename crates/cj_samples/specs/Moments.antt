-- Moments of the first hour of 2025, and what stands at them.
use Rattle.std.specs.Prelude.{ℕ, ◌+◌}
use Rattle.cj_track.specs.Limits.{MAX_COORDINATE, MAX_RATE, IsWithin}
use Rattle.cj_track.specs.declared.vec3.Vec3.{Vec3}

-- the tick so many microseconds after 2025-01-01T00:00:00
abbrev pub tick_of : ℕ → ℕ
tick_of micros = 1_735_689_600_000_000 + micros

-- a place and a rate within the limits of a node
abbrev pub IsPlace : Vec3 → Type 0
IsPlace p = IsWithin MAX_COORDINATE p.x × IsWithin MAX_COORDINATE p.y × IsWithin MAX_COORDINATE p.z

abbrev pub IsRate : Vec3 → Type 0
IsRate v = IsWithin MAX_RATE v.x × IsWithin MAX_RATE v.y × IsWithin MAX_RATE v.z
