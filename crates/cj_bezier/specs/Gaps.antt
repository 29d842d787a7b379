-- Gaps: the squared distance of two hulls in Bernstein form of degree 6, as seven spans.
use Rattle.std.specs.Prelude.{◌≡◌, ℕ, zero, suc, ◌≤◌, ℤ, pos, ◌+ℤ◌, ◌-ℤ◌, ◌*ℤ◌, List, [], ◌∷◌}
use Rattle.cj_interval.specs.declared.span.Span.{Span}
use Rattle.cj_interval.specs.Spans.{least, greatest}
use Rattle.cj_hermite.specs.declared.box3.Box3.{Box3}
use Rattle.cj_hermite.specs.Interpolant.{Four, Curve, IsOver}
use Rattle.cj_bezier.specs.Hulls.{Ends, PlainHull, hull_axes, lows, highs}

-- value n of four, the last for each further n
abbrev pub value_at : Four → ℕ → ℤ
value_at k zero = k.k0
value_at k (suc zero) = k.k1
value_at k (suc (suc zero)) = k.k2
value_at k (suc (suc (suc n))) = k.k3

-- the sum over i + j = k of C(3,i) C(3,j) p i j
abbrev pub coefficient : (ℕ → ℕ → ℤ) → ℕ → ℤ
coefficient p zero = p 0 0
coefficient p (suc zero) = pos 3 *ℤ p 0 1 +ℤ pos 3 *ℤ p 1 0
coefficient p (suc (suc zero)) = pos 3 *ℤ p 0 2 +ℤ pos 9 *ℤ p 1 1 +ℤ pos 3 *ℤ p 2 0
coefficient p (suc (suc (suc zero))) = p 0 3 +ℤ pos 9 *ℤ p 1 2 +ℤ pos 9 *ℤ p 2 1 +ℤ p 3 0
coefficient p (suc (suc (suc (suc zero)))) = pos 3 *ℤ p 1 3 +ℤ pos 9 *ℤ p 2 2 +ℤ pos 3 *ℤ p 3 1
coefficient p (suc (suc (suc (suc (suc zero))))) = pos 3 *ℤ p 2 3 +ℤ pos 3 *ℤ p 3 2
coefficient p (suc (suc (suc (suc (suc (suc n)))))) = p 3 3

-- the differences of four values
abbrev pub less : Four → Four → Four
less a b = record { k0 = a.k0 -ℤ b.k0; k1 = a.k1 -ℤ b.k1; k2 = a.k2 -ℤ b.k2; k3 = a.k3 -ℤ b.k3 }

-- the differences of four spans: a lower end less an upper one, an upper end less a lower one
abbrev pub apart : Ends → Ends → Ends
apart a b = record { low = less a.low b.high; high = less a.high b.low }

-- the differences on each axis
unfoldable pub apart_axes : PlainHull → PlainHull → PlainHull
apart_axes a b = record { x = apart a.x b.x; y = apart a.y b.y; z = apart a.z b.z }

-- the hull of one interpolant less that of another, over the ticks from first to last
abbrev pub hull_gap : Curve → Curve → ℕ → ℕ → PlainHull
hull_gap a b first last = apart_axes (hull_axes a first last) (hull_axes b first last)

-- the lower end of the product of spans i and j: the least of the four products of ends
abbrev pub product_low : Ends → ℕ → ℕ → ℤ
product_low e i j = least (value_at e.low i *ℤ value_at e.low j) (value_at e.low i *ℤ value_at e.high j) (value_at e.high i *ℤ value_at e.low j) (value_at e.high i *ℤ value_at e.high j)

-- the upper end: the greatest of them
abbrev pub product_high : Ends → ℕ → ℕ → ℤ
product_high e i j = greatest (value_at e.low i *ℤ value_at e.low j) (value_at e.low i *ℤ value_at e.high j) (value_at e.high i *ℤ value_at e.low j) (value_at e.high i *ℤ value_at e.high j)

-- the lower end of coefficient k of a gap, summed over the axes
abbrev pub gap_low : PlainHull → ℕ → ℤ
gap_low d k = coefficient (λ i j. product_low d.x i j +ℤ product_low d.y i j +ℤ product_low d.z i j) k

-- the upper end
abbrev pub gap_high : PlainHull → ℕ → ℤ
gap_high d k = coefficient (λ i j. product_high d.x i j +ℤ product_high d.y i j +ℤ product_high d.z i j) k

-- the ends of the seven coefficients of a gap
pub record PlainGap : Type 0 where
  pub low : List ℤ
  pub high : List ℤ

-- the gap of four spans on each axis: those of a difference, or those of one hull for the gap against the origin
unfoldable pub gap_terms : PlainHull → PlainGap
gap_terms d = record {
  low = gap_low d 0 ∷ gap_low d 1 ∷ gap_low d 2 ∷ gap_low d 3 ∷ gap_low d 4 ∷ gap_low d 5 ∷ gap_low d 6 ∷ [];
  high = gap_high d 0 ∷ gap_high d 1 ∷ gap_high d 2 ∷ gap_high d 3 ∷ gap_high d 4 ∷ gap_high d 5 ∷ gap_high d 6 ∷ [];
}

-- g is the gap of the hulls of two interpolants over the ticks from first to last
pub record IsGapOver (g : PlainGap) (a b : Curve) (first last : ℕ) : Type 0 where
  pub some : first ≤ last
  pub a_over : IsOver a first last
  pub b_over : IsOver b first last
  pub terms : g ≡ gap_terms (hull_gap a b first last)

-- ---- the same of spans and boxes

-- the ends of a list of spans
abbrev pub terms_of : List Span → PlainGap
terms_of xs = record { low = lows xs; high = highs xs }

-- the lower end of the product of two spans
abbrev pub span_product_low : Span → Span → ℤ
span_product_low a b = least (a.lo *ℤ b.lo) (a.lo *ℤ b.hi) (a.hi *ℤ b.lo) (a.hi *ℤ b.hi)

-- the upper end of the product of two spans
abbrev pub span_product_high : Span → Span → ℤ
span_product_high a b = greatest (a.lo *ℤ b.lo) (a.lo *ℤ b.hi) (a.hi *ℤ b.lo) (a.hi *ℤ b.hi)

-- the lower end of the product of two boxes, summed over the axes
abbrev pub dot_low : Box3 → Box3 → ℤ
dot_low a b = span_product_low a.x b.x +ℤ span_product_low a.y b.y +ℤ span_product_low a.z b.z

-- the upper end of the product of two boxes, summed over the axes
abbrev pub dot_high : Box3 → Box3 → ℤ
dot_high a b = span_product_high a.x b.x +ℤ span_product_high a.y b.y +ℤ span_product_high a.z b.z

-- d is a less b on each axis
pub record IsLess (d a b : Box3) : Type 0 where
  pub x_lower : d.x.lo ≡ a.x.lo -ℤ b.x.hi
  pub x_upper : d.x.hi ≡ a.x.hi -ℤ b.x.lo
  pub y_lower : d.y.lo ≡ a.y.lo -ℤ b.y.hi
  pub y_upper : d.y.hi ≡ a.y.hi -ℤ b.y.lo
  pub z_lower : d.z.lo ≡ a.z.lo -ℤ b.z.hi
  pub z_upper : d.z.hi ≡ a.z.hi -ℤ b.z.lo
