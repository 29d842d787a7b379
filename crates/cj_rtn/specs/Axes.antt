-- The axes of an object: along its place, along its angular momentum, and across both. Long products are divided, so that those of them fit.
use Rattle.std.specs.Prelude.{ℕ, ◌<◌, Bool, nat_le, ◌&&◌, if◌then◌else◌, Option, Some, None, unsigned_abs}
use Rattle.cj_track.specs.Limits.{MAX_RATE}
use Rattle.cj_rtn.specs.declared.axes.Axes.{Axes}
use Rattle.cj_rtn.specs.declared.state.State.{State}
use Rattle.cj_rtn.specs.declared.vector.Vector.{Vector}
use Rattle.cj_rtn.specs.Vectors.{IsEachWithin, cross, divided, square, size}

-- the square of the least length of a place in nm, and of a normal, that gives an axis
abbrev pub LEAST_SQUARE : ℕ
LEAST_SQUARE = 1_000_000_000_000_000_000_000_000_000_000

-- what a normal is divided by
abbrev pub NORMAL_UNIT : ℕ
NORMAL_UNIT = 10_000_000_000_000

-- what a transverse is divided by
abbrev pub TRANSVERSE_UNIT : ℕ
TRANSVERSE_UNIT = 1_000_000_000_000_000_000

-- across the place and the rate
unfoldable pub normal : State → Vector
normal s = divided (cross s.place s.rate) NORMAL_UNIT

-- across the normal and the place, on the side of the rate
unfoldable pub transverse : State → Vector
transverse s = divided (cross (normal s) s.place) TRANSVERSE_UNIT

-- long enough to give an axis
abbrev pub is_long : Vector → Bool
is_long a = nat_le LEAST_SQUARE (square a)

abbrev pub axes : State → Axes
axes s = record { radial = s.place; transverse = transverse s; normal = normal s }

-- the axes, or none where the place or the normal is too short
unfoldable pub axes_of : State → Option Axes
axes_of s = if is_long s.place && is_long (normal s) then Some (axes s) else None

-- no component of the rate exceeds that of a node
unfoldable pub is_slow : State → Bool
is_slow s = nat_le (unsigned_abs s.rate.x) MAX_RATE && nat_le (unsigned_abs s.rate.y) MAX_RATE && nat_le (unsigned_abs s.rate.z) MAX_RATE

-- an axis has a length, and its components fit
pub record IsAxis (b : Vector) : Type 0 where
  pub some : 0 < size b
  pub within : IsEachWithin 2_305_843_009_213_693_952 b

pub record AreAxes (a : Axes) : Type 0 where
  pub radial : IsAxis a.radial
  pub transverse : IsAxis a.transverse
  pub normal : IsAxis a.normal
