-- Hulls: the control points of an interpolant over a run of ticks, rounded outward.
use Rattle.std.specs.Prelude.{ℕ, ◌-◌, ℤ, pos, ◌*ℤ◌, List, map}
use Rattle.cj_interval.specs.declared.span.Span.{Span}
use Rattle.cj_interval.specs.Rounding.{floor_div, ceil_div}
use Rattle.cj_interval.specs.Spans.{IsIn, least, greatest}
use Rattle.cj_hermite.specs.declared.box3.Box3.{Box3}
use Rattle.cj_hermite.specs.Interpolant.{Four, four_of, Curve, place_numerator, place_denominator}
use Rattle.cj_hermite.specs.Levels.{polar}

-- four spans of an axis, by their lower and their upper ends
pub record Ends : Type 0 where
  pub low : Four
  pub high : Four

-- four spans on each axis
pub record PlainHull : Type 0 where
  pub x : Ends
  pub y : Ends
  pub z : Ends

-- the polar values at (a,a,a), (a,a,b), (a,b,b) and (b,b,b)
abbrev pub hull_four : (ℤ → ℕ → ℤ) → Four → ℕ → ℕ → ℕ → Four
hull_four round k t a b = record {
  k0 = polar round k t a a a;
  k1 = polar round k t a a b;
  k2 = polar round k t a b b;
  k3 = polar round k t b b b;
}

-- the hull of an axis between a and b of t ticks
abbrev pub hull_ends : Four → ℕ → ℕ → ℕ → Ends
hull_ends k t a b = record { low = hull_four floor_div k t a b; high = hull_four ceil_div k t a b }

-- the hull of an interpolant over the ticks from first to last
unfoldable pub hull_axes : Curve → ℕ → ℕ → PlainHull
hull_axes c first last = record {
  x = hull_ends c.x c.span (first - c.start) (last - c.start);
  y = hull_ends c.y c.span (first - c.start) (last - c.start);
  z = hull_ends c.z c.span (first - c.start) (last - c.start);
}

-- the exact place of an axis, u of t ticks after its first tick, lies between the least lower and the greatest upper end
pub record EnclosesAxis (e : Ends) (k : Four) (t u : ℕ) : Type 0 where
  pub place : IsIn (least e.low.k0 e.low.k1 e.low.k2 e.low.k3 *ℤ pos (place_denominator t)) (greatest e.high.k0 e.high.k1 e.high.k2 e.high.k3 *ℤ pos (place_denominator t)) (place_numerator k t u)

-- the exact place at tick m lies between the least lower and the greatest upper end on each axis
pub record Encloses (h : PlainHull) (c : Curve) (m : ℕ) : Type 0 where
  pub x : EnclosesAxis h.x c.x c.span (m - c.start)
  pub y : EnclosesAxis h.y c.y c.span (m - c.start)
  pub z : EnclosesAxis h.z c.z c.span (m - c.start)

-- ---- spans and boxes by their ends

-- the lower ends of a list of spans
abbrev pub lows : List Span → List ℤ
lows xs = map (λ s. s.lo) xs

-- the upper ends of a list of spans
abbrev pub highs : List Span → List ℤ
highs xs = map (λ s. s.hi) xs

-- the ends of four spans
abbrev pub ends_of : List Span → Ends
ends_of xs = record { low = four_of (lows xs); high = four_of (highs xs) }

-- the ends of four boxes on each axis
unfoldable pub axes_of : List Box3 → PlainHull
axes_of bs = record {
  x = ends_of (map (λ b. b.x) bs);
  y = ends_of (map (λ b. b.y) bs);
  z = ends_of (map (λ b. b.z) bs);
}
