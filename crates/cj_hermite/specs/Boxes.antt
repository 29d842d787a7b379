-- Boxes: spans on three axes. How far they reach and how wide they are, the polar values that they bound, and the exact place that they hold.
use Rattle.std.specs.Prelude.{◌≡◌, ℕ, ◌-◌, ℤ, pos, ◌+ℤ◌, ◌*ℤ◌, ◌≤ℤ◌}
use Rattle.cj_interval.specs.declared.span.Span.{Span}
use Rattle.cj_interval.specs.Rounding.{floor_div, ceil_div}
use Rattle.cj_interval.specs.Sizes.{IsWithin}
use Rattle.cj_interval.specs.Spans.{IsIn}
use Rattle.cj_hermite.specs.declared.box3.Box3.{Box3}
use Rattle.cj_hermite.specs.declared.level_spans.FirstLevel.{FirstLevel}
use Rattle.cj_hermite.specs.declared.level_spans.SecondLevel.{SecondLevel}
use Rattle.cj_hermite.specs.Interpolant.{Four, Curve, place_numerator, place_denominator}
use Rattle.cj_hermite.specs.Levels.{Three, Two, polar}

-- both ends are at most m in size
pub record IsSpanWithin (m : ℕ) (lo hi : ℤ) : Type 0 where
  pub low : IsWithin m lo
  pub high : IsWithin m hi

-- all ends are at most m in size
pub record IsBoxWithin (m : ℕ) (b : Box3) : Type 0 where
  pub x : IsSpanWithin m b.x.lo b.x.hi
  pub y : IsSpanWithin m b.y.lo b.y.hi
  pub z : IsSpanWithin m b.z.lo b.z.hi

-- each span is at most w wide
pub record IsBoxNarrow (w : ℕ) (b : Box3) : Type 0 where
  pub x : b.x.hi ≤ℤ (b.x.lo +ℤ pos w)
  pub y : b.y.hi ≤ℤ (b.y.lo +ℤ pos w)
  pub z : b.z.hi ≤ℤ (b.z.lo +ℤ pos w)

-- the lower ends of a level
abbrev pub first_lows : FirstLevel → Three
first_lows l = record { a = l.a.lo; b = l.b.lo; c = l.c.lo }

abbrev pub second_lows : SecondLevel → Two
second_lows l = record { a = l.a.lo; b = l.b.lo }

-- the upper ends of a level
abbrev pub first_highs : FirstLevel → Three
first_highs l = record { a = l.a.hi; b = l.b.hi; c = l.c.hi }

abbrev pub second_highs : SecondLevel → Two
second_highs l = record { a = l.a.hi; b = l.b.hi }

-- the polar value of an axis, rounded down and up
pub record IsPolar (k : Four) (t u v w : ℕ) (s : Span) : Type 0 where
  pub lower : s.lo ≡ polar floor_div k t u v w
  pub upper : s.hi ≡ polar ceil_div k t u v w

-- the polar values at one tick
pub record IsPoint (c : Curve) (m : ℕ) (b : Box3) : Type 0 where
  pub x : IsPolar c.x c.span (m - c.start) (m - c.start) (m - c.start) b.x
  pub y : IsPolar c.y c.span (m - c.start) (m - c.start) (m - c.start) b.y
  pub z : IsPolar c.z c.span (m - c.start) (m - c.start) (m - c.start) b.z

-- the exact place of an axis, u of t ticks after its first tick, lies in the span
pub record HoldsAxis (k : Four) (t u : ℕ) (s : Span) : Type 0 where
  pub place : IsIn (s.lo *ℤ pos (place_denominator t)) (s.hi *ℤ pos (place_denominator t)) (place_numerator k t u)

-- the exact place at tick m lies in the box
pub record HoldsPlace (c : Curve) (m : ℕ) (b : Box3) : Type 0 where
  pub x : HoldsAxis c.x c.span (m - c.start) b.x
  pub y : HoldsAxis c.y c.span (m - c.start) b.y
  pub z : HoldsAxis c.z c.span (m - c.start) b.z
