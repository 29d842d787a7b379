-- Rates: boxes in nm/s. The rates that they bound, and the exact rate that they hold.
use Rattle.std.specs.Prelude.{◌≡◌, ℕ, ◌-◌, pos, ◌*ℤ◌}
use Rattle.cj_interval.specs.declared.span.Span.{Span}
use Rattle.cj_interval.specs.Rounding.{floor_div, ceil_div}
use Rattle.cj_interval.specs.Spans.{IsIn}
use Rattle.cj_hermite.specs.declared.box3.Box3.{Box3}
use Rattle.cj_hermite.specs.Interpolant.{Four, Curve, rate_numerator, rate_denominator}
use Rattle.cj_hermite.specs.Levels.{rate_value}

-- the rate of an axis, rounded down and up
pub record IsAxisRate (k : Four) (t u : ℕ) (s : Span) : Type 0 where
  pub lower : s.lo ≡ rate_value floor_div k t u
  pub upper : s.hi ≡ rate_value ceil_div k t u

-- the rates at tick m
pub record IsRate (c : Curve) (m : ℕ) (b : Box3) : Type 0 where
  pub x : IsAxisRate c.x c.span (m - c.start) b.x
  pub y : IsAxisRate c.y c.span (m - c.start) b.y
  pub z : IsAxisRate c.z c.span (m - c.start) b.z

-- the exact rate of an axis, u of t ticks after its first tick, lies in the span
pub record HoldsAxisRate (k : Four) (t u : ℕ) (s : Span) : Type 0 where
  pub rate : IsIn (s.lo *ℤ pos (rate_denominator t)) (s.hi *ℤ pos (rate_denominator t)) (rate_numerator k t u)

-- the exact rate at tick m lies in the box
pub record HoldsRate (c : Curve) (m : ℕ) (b : Box3) : Type 0 where
  pub x : HoldsAxisRate c.x c.span (m - c.start) b.x
  pub y : HoldsAxisRate c.y c.span (m - c.start) b.y
  pub z : HoldsAxisRate c.z c.span (m - c.start) b.z
