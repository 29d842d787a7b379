-- How near the values along the axes are to the exact ones. Exact lengths are no fractions, so they are compared by their squares.
use Rattle.std.specs.Prelude.{◌≡◌, ℕ, suc, ◌-◌, ◌*◌, ◌<◌, ◌≤◌, Some, IfSome, ℤ, pos, negsuc, neg_ℤ, ◌+ℤ◌, ◌-ℤ◌, ◌*ℤ◌}
use Rattle.cj_hermite.specs.Distance.{BAND, IsWithinAt}
use Rattle.cj_case.specs.PlainProblems.{PlainProblem}
use Rattle.cj_hermite.specs.ObjectsAtTicks.{curve_at}
use Rattle.cj_hermite.specs.Pieces.{PlainPiece, curve_of_piece}
use Rattle.cj_hermite.specs.Interpolant.{AreBounded, Curve, place_numerator, place_denominator, rate_numerator, rate_denominator}
use Rattle.cj_rtn.specs.declared.relative.AxisValues.{AxisValues}
use Rattle.cj_rtn.specs.declared.relative.Rtn.{Rtn}
use Rattle.cj_rtn.specs.declared.vector.Vector.{Vector}
use Rattle.cj_rtn.specs.Relative.{object_relative}
use Rattle.cj_rtn.specs.Vectors.{dot, cross, square}

-- within this distance in nm the values are exact to one millimetre: 1,100 km
abbrev pub MOST_DISTANCE : ℕ
MOST_DISTANCE = 1_100_000_000_000_000

-- y times the root of s is at most z
abbrev pub IsTimesAtMost : ℤ → ℕ → ℤ → Type 0
IsTimesAtMost (pos y) s (pos z) = y * y * s ≤ z * z
IsTimesAtMost (pos y) s (negsuc z) = ⊥
IsTimesAtMost (negsuc y) s (pos z) = Unit {0}
IsTimesAtMost (negsuc y) s (negsuc z) = suc z * suc z ≤ suc y * suc y * s

-- c is within one millimetre, or one millimetre per second, of what x / q is along b
pub record IsNearly (c : ℤ) (x b : Vector) (q : ℕ) : Type 0 where
  pub low : IsTimesAtMost ((c -ℤ pos BAND) *ℤ pos q) (square b) (dot x b)
  pub high : IsTimesAtMost (neg_ℤ ((c +ℤ pos BAND) *ℤ pos q)) (square b) (neg_ℤ (dot x b))

-- so are the values along the axes of an object whose place is p and whose rate v, both times any positive numbers
pub record AreNearly (values : AxisValues) (x p v : Vector) (q : ℕ) : Type 0 where
  pub radial : IsNearly values.r x p q
  pub transverse : IsNearly values.t x (cross (cross p v) p) q
  pub normal : IsNearly values.n x (cross p v) q

-- the exact place at tick m, times its denominator
unfoldable pub exact_place : Curve → ℕ → Vector
exact_place c m = record {
  x = place_numerator c.x c.span (m - c.start);
  y = place_numerator c.y c.span (m - c.start);
  z = place_numerator c.z c.span (m - c.start);
}

-- the exact rate at tick m, times its denominator
unfoldable pub exact_rate : Curve → ℕ → Vector
exact_rate c m = record {
  x = rate_numerator c.x c.span (m - c.start);
  y = rate_numerator c.y c.span (m - c.start);
  z = rate_numerator c.z c.span (m - c.start);
}

-- y / t less x / s, times both denominators
unfoldable pub difference : Vector → ℕ → Vector → ℕ → Vector
difference x s y t = record {
  x = pos s *ℤ y.x -ℤ pos t *ℤ x.x;
  y = pos s *ℤ y.y -ℤ pos t *ℤ x.y;
  z = pos s *ℤ y.z -ℤ pos t *ℤ x.z;
}

-- the second interpolant relative to the first at tick m, along the axes of the first, is nearly this
pub record IsNearlyAt (c d : Curve) (m : ℕ) (x : Rtn) : Type 0 where
  pub place : AreNearly x.place (difference (exact_place c m) (place_denominator c.span) (exact_place d m) (place_denominator d.span))
      (exact_place c m) (exact_rate c m) (place_denominator c.span * place_denominator d.span)
  pub rate : AreNearly x.rate (difference (exact_rate c m) (rate_denominator c.span) (exact_rate d m) (rate_denominator d.span))
      (exact_place c m) (exact_rate c m) (rate_denominator c.span * rate_denominator d.span)

-- whichever two objects are not too far apart at whichever tick, what the second is relative to the first is nearly exact
abbrev pub AreExact : PlainProblem → Type 0
AreExact case = (a b m : ℕ) (c d : Curve) → curve_at case a m ≡ Some c → curve_at case b m ≡ Some d → IsWithinAt c d MOST_DISTANCE m
    → IfSome (object_relative case a b m) (IsNearlyAt c d m)

-- a piece whose second node comes after its first, with bounded control values
pub record IsTame (piece : PlainPiece) : Type 0 where
  pub rises : piece.from.at < piece.to.at
  pub x : AreBounded (curve_of_piece piece).x
  pub y : AreBounded (curve_of_piece piece).y
  pub z : AreBounded (curve_of_piece piece).z
