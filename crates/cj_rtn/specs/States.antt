-- The state of an object at a tick, in whole nm and nm/s: the middle of what encloses the interpolant there.
use Rattle.std.specs.Prelude.{ℕ, ◌-◌, ℤ, ◌+ℤ◌}
use Rattle.cj_interval.specs.Rounding.{floor_div, ceil_div}
use Rattle.cj_hermite.specs.declared.box3.Box3.{Box3}
use Rattle.cj_hermite.specs.Interpolant.{Four, Curve}
use Rattle.cj_hermite.specs.Levels.{polar, rate_value}
use Rattle.cj_rtn.specs.declared.state.State.{State}
use Rattle.cj_rtn.specs.declared.vector.Vector.{Vector}

-- the middle of two bounds, rounded down
unfoldable pub middle : ℤ → ℤ → ℤ
middle lo hi = floor_div (lo +ℤ hi) 2

-- the middle of a box
abbrev pub middle_of_box : Box3 → Vector
middle_of_box b = record { x = middle b.x.lo b.x.hi; y = middle b.y.lo b.y.hi; z = middle b.z.lo b.z.hi }

-- the place of an axis, u of t ticks after the first tick
abbrev pub axis_place : Four → ℕ → ℕ → ℤ
axis_place k t u = middle (polar floor_div k t u u u) (polar ceil_div k t u u u)

-- the rate of an axis
abbrev pub axis_rate : Four → ℕ → ℕ → ℤ
axis_rate k t u = middle (rate_value floor_div k t u) (rate_value ceil_div k t u)

-- the place at tick m
unfoldable pub place_at : Curve → ℕ → Vector
place_at c m = record {
  x = axis_place c.x c.span (m - c.start);
  y = axis_place c.y c.span (m - c.start);
  z = axis_place c.z c.span (m - c.start);
}

-- the rate at tick m
unfoldable pub rate_at : Curve → ℕ → Vector
rate_at c m = record {
  x = axis_rate c.x c.span (m - c.start);
  y = axis_rate c.y c.span (m - c.start);
  z = axis_rate c.z c.span (m - c.start);
}

-- both
abbrev pub state_at : Curve → ℕ → State
state_at c m = record { place = place_at c m; rate = rate_at c m }
