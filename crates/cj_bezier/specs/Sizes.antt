-- Sizes: how far hulls and their differences reach, and bounds on the ends and the widths of spans.
use Rattle.std.specs.Prelude.{ℕ, pos, ◌+ℤ◌, ◌≤ℤ◌}
use Rattle.cj_interval.specs.declared.span.Span.{Span}
use Rattle.cj_hermite.specs.Boxes.{IsSpanWithin}

-- how far a hull may reach: 525,000 km in nm
abbrev pub HULL_REACH : ℕ
HULL_REACH = 525_000_000_000_000_000

-- how far the difference of two hulls then reaches
abbrev pub DIFFERENCE_REACH : ℕ
DIFFERENCE_REACH = 1_050_000_000_000_000_000

-- how large a product of two differences then is, in nm²
abbrev pub SQUARE_REACH : ℕ
SQUARE_REACH = 1_102_500_000_000_000_000_000_000_000_000_000_000

-- both ends are at most m in size
abbrev pub HasEndsWithin : ℕ → Span → Type 0
HasEndsWithin m s = IsSpanWithin m s.lo s.hi

-- at most w wide
pub record IsNarrow (w : ℕ) (s : Span) : Type 0 where
  pub width : s.hi ≤ℤ (s.lo +ℤ pos w)
