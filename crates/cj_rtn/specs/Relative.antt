-- The state of an object relative to another, along the axes of the other.
use Rattle.std.specs.Prelude.{ℕ, ◌&&◌, if◌then◌else◌, Option, None, option_map, option_and_then}
use Rattle.cj_case.specs.PlainProblems.{PlainProblem}
use Rattle.cj_hermite.specs.Interpolant.{Curve}
use Rattle.cj_hermite.specs.ObjectsAtTicks.{curve_at}
use Rattle.cj_rtn.specs.declared.axes.Axes.{Axes}
use Rattle.cj_rtn.specs.declared.relative.AxisValues.{AxisValues}
use Rattle.cj_rtn.specs.declared.relative.Rtn.{Rtn}
use Rattle.cj_rtn.specs.declared.state.State.{State}
use Rattle.cj_rtn.specs.declared.vector.Vector.{Vector}
use Rattle.cj_rtn.specs.Axes.{axes_of, is_slow}
use Rattle.cj_rtn.specs.States.{state_at}
use Rattle.cj_rtn.specs.Vectors.{less, along}

-- a vector along axes
unfoldable pub values_along : Axes → Vector → AxisValues
values_along axes x = record { r = along x axes.radial; t = along x axes.transverse; n = along x axes.normal }

-- the second object relative to the first, along these axes
abbrev pub relative_along : State → State → Axes → Rtn
relative_along a b axes = record { place = values_along axes (less b.place a.place); rate = values_along axes (less b.rate a.rate) }

-- the second object relative to the first, along the axes of the first, or none where it has none or one of both is too fast
unfoldable pub relative_of : State → State → Option Rtn
relative_of a b = if is_slow a && is_slow b then option_map (relative_along a b) (axes_of a) else None

-- of two interpolants at tick m
abbrev pub relative_at : Curve → Curve → ℕ → Option Rtn
relative_at c d m = relative_of (state_at c m) (state_at d m)

-- of the objects a and b, or none where one of both has no state
unfoldable pub object_relative : PlainProblem → ℕ → ℕ → ℕ → Option Rtn
object_relative case a b m = option_and_then (λ c. option_and_then (λ d. relative_at c d m) (curve_at case b m)) (curve_at case a m)
