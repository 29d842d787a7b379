-- The shell of a gap against the origin, and the distance that it holds at each tick.
use Rattle.std.proofs.Common.{◌≡◌, ℕ, zero, suc, ◌+◌, ◌-◌, ◌*◌, ◌^◌, ◌<◌, ◌≤◌, ◌⊎◌, inl, inr, arith, refl, sym, ap, subst, ◌∙◌, [], ◌∷◌, List, slice_index_or, length}
use Rattle.std.proofs.Math.Nat.{mul-le-mul}
use Rattle.std.proofs.lemmas.Bool.{cases_lt}
use Rattle.std.proofs.lemmas.Int.{ints, clamps, by_lt_z}
use Rattle.std.specs.Int.{int_min, int_max}
use Rattle.std.specs.List.{All}
use Rattle.std.specs.Prelude.{ℤ, pos, negsuc, ◌+ℤ◌, ◌*ℤ◌, ◌≤ℤ◌, ◌<ℤ◌}
use Rattle.cj_interval.specs.declared.span.Span.{Span}
use Rattle.cj_interval.specs.Rounding.{floor_div, ceil_div}
use Rattle.cj_interval.proofs.IntegerLemmas.{add-mul_ℤ, mul-le_right, le_refl_ℤ, le_trans_ℤ}
use Rattle.cj_interval.proofs.RoundingLemmas.{floor_div-le, floor_div-gt, ceil_div-ge, ceil_div-lt}
use Rattle.cj_interval.proofs.SquareLemmas.{square_is, root-le}
use Rattle.cj_interval.proofs.SizeLemmas.{greatest_within}
use Rattle.cj_interval.proofs.MachineLemmas.{product_within}
use Rattle.cj_interval.specs.Sizes.{IsWithin}
use Rattle.cj_hermite.specs.declared.box3.Box3.{Box3}
use Rattle.cj_hermite.specs.Boxes.{IsSpanWithin, IsBoxWithin}
use Rattle.cj_hermite.specs.Interpolant.{Four, Curve, IsOver, place_numerator, place_denominator}
use Rattle.cj_hermite.specs.Levels.{exact_polar}
use Rattle.cj_hermite.proofs.LevelLemmas.{polar-low, polar-high, exact_polar-same}
use Rattle.cj_bezier.specs.Hulls.{Ends, PlainHull, ends_of, axes_of, hull_ends, hull_axes, lows, highs}
use Rattle.cj_bezier.specs.Sizes.{HULL_REACH}
use Rattle.cj_bezier.specs.Gaps.{PlainGap, gap_terms, value_at, product_high, coefficient, gap_high}
use Rattle.cj_bezier.specs.Verdicts.{choose6, share, AreAtLeast, AreAtMost}
use Rattle.cj_bezier.specs.Squares.{from_zero, part_down, part_up, least_part, greatest_part, least_square, greatest_square}
use Rattle.cj_bezier.specs.Shells.{IsInner, IsOuter, IsRadiusWithin, square_radius}
use Rattle.cj_bezier.proofs.GapLemmas.{HoldsFour, IsCubic, IsGapAt, polar_four, at_tick, first_only, at_least_of_gap, at_most_of_gap, coefficient-le, squares}
use Rattle.cj_bezier.proofs.SevenLemmas.{seven_cases}
use Rattle.cj_bezier.proofs.VerdictLemmas.{all_at_least, all_at_most, are_at_most_from}

-- ---- a share of an end and the end's part

below_floor : (n : ℕ) (z : ℤ) (d : ℕ) → 0 < d → pos (d * n) ≤ℤ z → pos n ≤ℤ floor_div z d
below_floor n z d p h =
    let f = floor_div z d in
    let gt = floor_div-gt z d p in
    by_lt_z f (pos n)
    (λ l.
    let q : (f +ℤ pos 1) ≤ℤ pos n = omega (arith, ints) in
    let r = mul-le_right (f +ℤ pos 1) (pos n) d q in
    absurd (clash (f *ℤ pos d) ((f +ℤ pos 1) *ℤ pos d) z n d (add-mul_ℤ f (pos 1) (pos d)) gt h r))
    (λ l. l)
  where
    clash : (fd s z : ℤ) (n d : ℕ) → s ≡ fd +ℤ pos (1 * d) → z <ℤ (fd +ℤ pos d) → pos (d * n) ≤ℤ z → s ≤ℤ pos (n * d) → ⊥
    clash fd s z n d e gt h r = omega (arith, ints)

from_floor : (n : ℕ) (z : ℤ) (d : ℕ) → 0 < d → pos n ≤ℤ floor_div z d → pos (d * n) ≤ℤ z
from_floor n z d p h =
    let r = mul-le_right (pos n) (floor_div z d) d h in
    let l = floor_div-le z d p in
    let same : n * d ≡ d * n = omega arith in
    le_trans_ℤ _ _ _ (subst (λ (k : ℕ). pos k ≤ℤ (floor_div z d *ℤ pos d)) same r) l

above_ceil : (n : ℕ) (z : ℤ) (d : ℕ) → 0 < d → z ≤ℤ pos (d * n) → ceil_div z d ≤ℤ pos n
above_ceil n z d p h =
    let c = ceil_div z d in
    let lt = ceil_div-lt z d p in
    by_lt_z (pos n) c
    (λ l.
    let q : pos (n + 1) ≤ℤ c = omega (arith, ints) in
    let r = mul-le_right (pos (n + 1)) c d q in
    absurd (clash (c *ℤ pos d) z n d lt h r))
    (λ l. l)
  where
    clash : (cd z : ℤ) (n d : ℕ) → cd <ℤ (z +ℤ pos d) → z ≤ℤ pos (d * n) → (pos (n + 1) *ℤ pos d) ≤ℤ cd → ⊥
    clash cd z n d lt h r = omega (arith, ints)

from_ceil : (n : ℕ) (z : ℤ) (d : ℕ) → 0 < d → ceil_div z d ≤ℤ pos n → z ≤ℤ pos (d * n)
from_ceil n z d p h =
    let r = mul-le_right (ceil_div z d) (pos n) d h in
    let g = ceil_div-ge z d p in
    let same : n * d ≡ d * n = omega arith in
    subst (λ (k : ℕ). z ≤ℤ pos k) same (le_trans_ℤ _ _ _ g r)

-- ---- seven parts

pub le-min : (x a b : ℤ) → x ≤ℤ a → x ≤ℤ b → x ≤ℤ int_min a b
le-min x a b h k = omega (arith, ints, clamps)

pub min-left : (x a b : ℤ) → x ≤ℤ int_min a b → x ≤ℤ a
min-left x a b h = omega (arith, ints, clamps)

pub min-right : (x a b : ℤ) → x ≤ℤ int_min a b → x ≤ℤ b
min-right x a b h = omega (arith, ints, clamps)

pub max-le : (x a b : ℤ) → a ≤ℤ x → b ≤ℤ x → int_max a b ≤ℤ x
max-le x a b h k = omega (arith, ints, clamps)

pub max-left : (x a b : ℤ) → int_max a b ≤ℤ x → a ≤ℤ x
max-left x a b h = omega (arith, ints, clamps)

pub max-right : (x a b : ℤ) → int_max a b ≤ℤ x → b ≤ℤ x
max-right x a b h = omega (arith, ints, clamps)

to_least : (ends : List ℤ) (r : ℕ) → AreAtLeast ends r → pos (r * r) ≤ℤ least_part ends
unfolding AreAtLeast least_part
to_least ends r h =
    let at = λ (k : ℕ) (l : k < 7) (p : 0 < choose6 k). below_floor (r * r) (slice_index_or ends k (pos 0)) (choose6 k) p (h k l) in
    le-min _ _ _ (le-min _ _ _ (le-min _ _ _ (le-min _ _ _ (le-min _ _ _ (le-min _ _ _
    (at 0 (omega arith) (omega arith)) (at 1 (omega arith) (omega arith))) (at 2 (omega arith) (omega arith))) (at 3 (omega arith) (omega arith))) (at 4 (omega arith) (omega arith))) (at 5 (omega arith) (omega arith))) (at 6 (omega arith) (omega arith))

-- where the least part is n or more, each end is C(6,k) n or more
pub shares_of_least : (ends : List ℤ) (n : ℕ) → pos n ≤ℤ least_part ends → (k : ℕ) → k < 7 → pos (choose6 k * n) ≤ℤ slice_index_or ends k (pos 0)
unfolding least_part
shares_of_least ends n h6 k l =
    let h5 = min-left _ _ _ h6 in let h4 = min-left _ _ _ h5 in let h3 = min-left _ _ _ h4 in let h2 = min-left _ _ _ h3 in let h1 = min-left _ _ _ h2 in
    seven_cases (λ k. pos (choose6 k * n) ≤ℤ slice_index_or ends k (pos 0))
    (at 0 (omega arith) (min-left _ _ _ h1)) (at 1 (omega arith) (min-right _ _ _ h1)) (at 2 (omega arith) (min-right _ _ _ h2)) (at 3 (omega arith) (min-right _ _ _ h3))
    (at 4 (omega arith) (min-right _ _ _ h4)) (at 5 (omega arith) (min-right _ _ _ h5)) (at 6 (omega arith) (min-right _ _ _ h6)) k l
  where
    at : (k : ℕ) → 0 < choose6 k → pos n ≤ℤ part_down ends k → pos (choose6 k * n) ≤ℤ slice_index_or ends k (pos 0)
    at k p h = from_floor n (slice_index_or ends k (pos 0)) (choose6 k) p h

from_least : (ends : List ℤ) (r : ℕ) → pos (r * r) ≤ℤ least_part ends → AreAtLeast ends r
unfolding AreAtLeast
from_least ends r h = shares_of_least ends (r * r) h

to_greatest : (ends : List ℤ) (r : ℕ) → AreAtMost ends r → greatest_part ends ≤ℤ pos (r * r)
unfolding AreAtMost greatest_part
to_greatest ends r h =
    let at = λ (k : ℕ) (l : k < 7) (p : 0 < choose6 k). above_ceil (r * r) (slice_index_or ends k (pos 0)) (choose6 k) p (h k l) in
    max-le _ _ _ (max-le _ _ _ (max-le _ _ _ (max-le _ _ _ (max-le _ _ _ (max-le _ _ _
    (at 0 (omega arith) (omega arith)) (at 1 (omega arith) (omega arith))) (at 2 (omega arith) (omega arith))) (at 3 (omega arith) (omega arith))) (at 4 (omega arith) (omega arith))) (at 5 (omega arith) (omega arith))) (at 6 (omega arith) (omega arith))

from_greatest : (ends : List ℤ) (r : ℕ) → greatest_part ends ≤ℤ pos (r * r) → AreAtMost ends r
unfolding AreAtMost greatest_part
from_greatest ends r h6 k l =
    let h5 = max-left _ _ _ h6 in let h4 = max-left _ _ _ h5 in let h3 = max-left _ _ _ h4 in let h2 = max-left _ _ _ h3 in let h1 = max-left _ _ _ h2 in
    seven_cases (λ k. slice_index_or ends k (pos 0) ≤ℤ share r k)
    (at 0 (omega arith) (max-left _ _ _ h1)) (at 1 (omega arith) (max-right _ _ _ h1)) (at 2 (omega arith) (max-right _ _ _ h2)) (at 3 (omega arith) (max-right _ _ _ h3))
    (at 4 (omega arith) (max-right _ _ _ h4)) (at 5 (omega arith) (max-right _ _ _ h5)) (at 6 (omega arith) (max-right _ _ _ h6)) k l
  where
    at : (k : ℕ) → 0 < choose6 k → part_up ends k ≤ℤ pos (r * r) → slice_index_or ends k (pos 0) ≤ℤ share r k
    at k p h = from_ceil (r * r) (slice_index_or ends k (pos 0)) (choose6 k) p h

-- ---- inner and outer radii by their squares

le-from_zero : (n : ℕ) (z : ℤ) → pos n ≤ℤ z → n ≤ from_zero z
le-from_zero n (pos m) h = omega (arith, ints)
le-from_zero n (negsuc m) h = absurd (omega (arith, ints))

from_zero-pos : (n : ℕ) (z : ℤ) → 0 < n → n ≤ from_zero z → pos n ≤ℤ z
from_zero-pos n (pos m) p h = omega (arith, ints)
from_zero-pos n (negsuc m) p h = absurd (omega arith)

from_zero-le : (n : ℕ) (z : ℤ) → z ≤ℤ pos n → from_zero z ≤ n
from_zero-le n (pos m) h = omega (arith, ints)
from_zero-le n (negsuc m) h = omega arith

pub from_zero-mono : (x y : ℤ) → x ≤ℤ y → from_zero x ≤ from_zero y
from_zero-mono (pos m) (pos n) h = omega (arith, ints)
from_zero-mono (pos m) (negsuc n) h = absurd (omega (arith, ints))
from_zero-mono (negsuc m) (pos n) h = omega arith
from_zero-mono (negsuc m) (negsuc n) h = omega arith

le_pos : (n : ℕ) (z : ℤ) → from_zero z ≤ n → z ≤ℤ pos n
le_pos n (pos m) h = omega (arith, ints)
le_pos n (negsuc m) h = omega (arith, ints)

pub square_of_inner : (g : PlainGap) (r : ℕ) → IsInner g r → r * r ≤ least_square g
square_of_inner g r (inl e) = let z : r * r ≡ 0 = ap (λ (n : ℕ). n * n) e in omega arith
square_of_inner g r (inr h) = le-from_zero (r * r) (least_part g.low) (to_least g.low r h)

pub inner_of_square : (g : PlainGap) (r : ℕ) → r * r ≤ least_square g → IsInner g r
inner_of_square g zero h = inl refl
inner_of_square g (suc n) h = inr (from_least g.low (suc n) (from_zero-pos (suc n * suc n) (least_part g.low) (omega arith) h))

pub square_of_outer : (g : PlainGap) (r : ℕ) → IsOuter g r → greatest_square g ≤ r * r
square_of_outer g r h = from_zero-le (r * r) (greatest_part g.high) (to_greatest g.high r h)

pub outer_of_square : (g : PlainGap) (r : ℕ) → greatest_square g ≤ r * r → IsOuter g r
outer_of_square g r h = from_greatest g.high r (le_pos (r * r) (greatest_part g.high) h)

too_large : (a b n : ℕ) → a ≤ b → b * b ≤ n → n < a * a → ⊥
too_large a b n h s l = let q : a * a ≤ b * b = mul-le-mul h h in omega arith

-- the greatest whole root is the greatest inner radius
pub greatest_inner : (g : PlainGap) (lo r : ℕ) → least_square g < (lo + 1) * (lo + 1) → IsInner g r → r ≤ lo
greatest_inner g lo r next h = by_order (cases_lt lo r)
  where
    by_order : (lo < r) ⊎ (r ≤ lo) → r ≤ lo
    by_order (inr l) = l
    by_order (inl l) =
        let s = square_of_inner g r h in
        absurd (too_large (lo + 1) r (least_square g) (omega arith) s next)

-- an inner radius is at most an outer one, where the ends are ordered
pub inner-le_outer : (g : PlainGap) (lo hi : ℕ) → slice_index_or g.low 0 (pos 0) ≤ℤ slice_index_or g.high 0 (pos 0) → IsInner g lo → IsOuter g hi → lo ≤ hi
unfolding AreAtLeast AreAtMost
inner-le_outer g lo hi o (inl e) h = omega arith
inner-le_outer g lo hi o (inr l) h = root-le lo hi (squares_le (lo * lo) (hi * hi) _ _ (l 0 (omega arith)) o (h 0 (omega arith)))
  where
    squares_le : (m n : ℕ) (a b : ℤ) → pos (1 * m) ≤ℤ a → a ≤ℤ b → b ≤ℤ pos (1 * n) → m ≤ n
    squares_le m n a b p q r = omega (arith, ints)

pub first_ordered : (xs : List Span) → slice_index_or (lows xs) 0 (pos 0) ≤ℤ slice_index_or (highs xs) 0 (pos 0)
first_ordered [] = le_refl_ℤ (pos 0)
first_ordered (x ∷ xs) = x.ordered

-- ---- the distance from the origin at each tick

-- the gap of a hull against the origin at a tick
pub origin_gap_at : (c : Curve) (first m last : ℕ) → first ≤ m → m ≤ last → IsOver c first last
    → IsGapAt (place_denominator c.span) (hull_axes c first last) (place_numerator c.x c.span (m - c.start)) (place_numerator c.y c.span (m - c.start)) (place_numerator c.z c.span (m - c.start))
unfolding HoldsFour hull_axes
origin_gap_at c first m last p q over = by_width (cases_lt first last)
  where
    holds : (k : Four) → HoldsFour (place_denominator c.span) (hull_ends k c.span (first - c.start) (last - c.start)) (polar_four k c.span (first - c.start) (last - c.start))
    holds k zero = record { low = polar-low k c.span _ _ _ over.some; high = polar-high k c.span _ _ _ over.some }
    holds k (suc zero) = record { low = polar-low k c.span _ _ _ over.some; high = polar-high k c.span _ _ _ over.some }
    holds k (suc (suc zero)) = record { low = polar-low k c.span _ _ _ over.some; high = polar-high k c.span _ _ _ over.some }
    holds k (suc (suc (suc n))) = record { low = polar-low k c.span _ _ _ over.some; high = polar-high k c.span _ _ _ over.some }

    wide_axis : (k : Four) → IsCubic (m - first) (last - m) (polar_four k c.span (first - c.start) (last - c.start)) (place_numerator k c.span (m - c.start))
    wide_axis k = record { cubic = at_tick k c.start c.span first m last p q over.from over.to }

    one_axis : (k : Four) → first ≡ m → IsCubic 0 1 (polar_four k c.span (first - c.start) (last - c.start)) (place_numerator k c.span (m - c.start))
    one_axis k e =
        let same : exact_polar k c.span (first - c.start) (first - c.start) (first - c.start) ≡ place_numerator k c.span (m - c.start) =
        exact_polar-same k c.span (first - c.start) ∙ ap (λ (n : ℕ). place_numerator k c.span (n - c.start)) e in
        first_only (polar_four k c.span (first - c.start) (last - c.start)) (place_numerator k c.span (m - c.start)) same

    by_width : (first < last) ⊎ (last ≤ first) → IsGapAt (place_denominator c.span) (hull_axes c first last) (place_numerator c.x c.span (m - c.start)) (place_numerator c.y c.span (m - c.start)) (place_numerator c.z c.span (m - c.start))
    by_width (inl w) = record {
      i = m - first;
      j = last - m;
      x = polar_four c.x c.span (first - c.start) (last - c.start);
      y = polar_four c.y c.span (first - c.start) (last - c.start);
      z = polar_four c.z c.span (first - c.start) (last - c.start);
      some = omega arith;
      holds_x = holds c.x;
      holds_y = holds c.y;
      holds_z = holds c.z;
      cubic_x = wide_axis c.x;
      cubic_y = wide_axis c.y;
      cubic_z = wide_axis c.z;
    }
    by_width (inr w) = record {
      i = 0;
      j = 1;
      x = polar_four c.x c.span (first - c.start) (last - c.start);
      y = polar_four c.y c.span (first - c.start) (last - c.start);
      z = polar_four c.z c.span (first - c.start) (last - c.start);
      some = omega arith;
      holds_x = holds c.x;
      holds_y = holds c.y;
      holds_z = holds c.z;
      cubic_x = one_axis c.x (omega arith);
      cubic_y = one_axis c.y (omega arith);
      cubic_z = one_axis c.z (omega arith);
    }

-- a sum of squares is at least 0 times a scale
pub not_negative : (q : ℕ) (x y z : ℤ) → pos (0 * q) ≤ℤ squares x y z
not_negative q x y z =
    let a = square_is x in let b = square_is y in let d = square_is z in
    omega (arith, ints)

pub radius_within : (c : Curve) (first m last lo hi : ℕ) → first ≤ m → m ≤ last → IsOver c first last
    → IsInner (gap_terms (hull_axes c first last)) lo → IsOuter (gap_terms (hull_axes c first last)) hi → IsRadiusWithin c m lo hi
radius_within c first m last lo hi p q over inner outer =
    let at = origin_gap_at c first m last p q over in
    record {
      some = over.some;
      least = by_inner inner;
      most = at_most_of_gap (place_denominator c.span) (hi * hi) (hull_axes c first last) _ _ _ at (all_at_most (hull_axes c first last) hi outer);
    }
  where
    by_inner : IsInner (gap_terms (hull_axes c first last)) lo → pos (lo * lo * (place_denominator c.span * place_denominator c.span)) ≤ℤ square_radius c m
    by_inner (inl e) = subst (λ (n : ℕ). pos (n * n * (place_denominator c.span * place_denominator c.span)) ≤ℤ square_radius c m) (sym e) (not_negative (place_denominator c.span * place_denominator c.span) (place_numerator c.x c.span (m - c.start)) (place_numerator c.y c.span (m - c.start)) (place_numerator c.z c.span (m - c.start)))
    by_inner (inr h) =
        at_least_of_gap (place_denominator c.span) (lo * lo) (hull_axes c first last) _ _ _
        (origin_gap_at c first m last p q over) (all_at_least (hull_axes c first last) lo h)

-- ---- how far out a hull lies

-- the ends of four spans are at most r in size
record AreWithin (r : ℕ) (e : Ends) : Type 0 where
  low : (n : ℕ) → IsWithin r (value_at e.low n)
  high : (n : ℕ) → IsWithin r (value_at e.high n)

each_value : (r : ℕ) (k : Four) → IsWithin r k.k0 → IsWithin r k.k1 → IsWithin r k.k2 → IsWithin r k.k3 → (n : ℕ) → IsWithin r (value_at k n)
each_value r k a b c d zero = a
each_value r k a b c d (suc zero) = b
each_value r k a b c d (suc (suc zero)) = c
each_value r k a b c d (suc (suc (suc n))) = d

on_axis : (r : ℕ) (p q s t : Span) → IsSpanWithin r p.lo p.hi → IsSpanWithin r q.lo q.hi → IsSpanWithin r s.lo s.hi → IsSpanWithin r t.lo t.hi → AreWithin r (ends_of (p ∷ q ∷ s ∷ t ∷ []))
on_axis r p q s t a b c d = record {
  low = each_value r _ a.low b.low c.low d.low;
  high = each_value r _ a.high b.high c.high d.high;
}

product_reach : (r : ℕ) (e : Ends) → AreWithin r e → (i j : ℕ) → IsWithin (r * r) (product_high e i j)
product_reach r e w i j =
    let a = value_at e.low i in
    let b = value_at e.high i in
    let c = value_at e.low j in
    let d = value_at e.high j in
    greatest_within (r * r) (a *ℤ c) (a *ℤ d) (b *ℤ c) (b *ℤ d)
    (product_within a c r r (w.low i) (w.low j)) (product_within a d r r (w.low i) (w.high j))
    (product_within b c r r (w.high i) (w.low j)) (product_within b d r r (w.high i) (w.high j))

coefficient_same : (s : ℕ) (k : ℕ) → coefficient (λ _ _. pos s) k ≡ pos (choose6 k * s)
coefficient_same s zero = omega (arith, ints)
coefficient_same s (suc zero) = omega (arith, ints)
coefficient_same s (suc (suc zero)) = omega (arith, ints)
coefficient_same s (suc (suc (suc zero))) = omega (arith, ints)
coefficient_same s (suc (suc (suc (suc zero)))) = omega (arith, ints)
coefficient_same s (suc (suc (suc (suc (suc zero))))) = omega (arith, ints)
coefficient_same s (suc (suc (suc (suc (suc (suc n)))))) = omega (arith, ints)

outer_of_axes : (r e : ℕ) (d : PlainHull) → 3 * (r * r) ≤ e * e → AreWithin r d.x → AreWithin r d.y → AreWithin r d.z → IsOuter (gap_terms d) e
outer_of_axes r e d wide x y z =
    are_at_most_from d e (λ k. subst (λ (t : ℤ). gap_high d k ≤ℤ t) (coefficient_same (e * e) k)
    (coefficient-le (λ i j. product_high d.x i j +ℤ product_high d.y i j +ℤ product_high d.z i j) (λ _ _. pos (e * e))
    (λ i j. sum_below (product_high d.x i j) (product_high d.y i j) (product_high d.z i j) (r * r) (e * e) wide (product_reach r d.x x i j) (product_reach r d.y y i j) (product_reach r d.z z i j)) k))
  where
    sum_below : (a b c : ℤ) (m n : ℕ) → 3 * m ≤ n → IsWithin m a → IsWithin m b → IsWithin m c → (a +ℤ b +ℤ c) ≤ℤ pos n
    sum_below a b c m n h p q s = omega (arith, ints)

-- four boxes of a hull lie within a million kilometres of the origin
pub outer_of_hull : (bs : List Box3) → length bs ≡ 4 → All (IsBoxWithin HULL_REACH) bs → IsOuter (gap_terms (axes_of bs)) (10 ^ 18)
unfolding axes_of
outer_of_hull [] l w = absurd (omega arith)
outer_of_hull (a ∷ []) l w = absurd (omega arith)
outer_of_hull (a ∷ b ∷ []) l w = absurd (omega arith)
outer_of_hull (a ∷ b ∷ c ∷ []) l w = absurd (omega arith)
outer_of_hull (a ∷ b ∷ c ∷ d ∷ []) l w =
    let wa = w 0 a (omega arith) in
    let wb = w 1 a (omega arith) in
    let wc = w 2 a (omega arith) in
    let wd = w 3 a (omega arith) in
    outer_of_axes HULL_REACH (10 ^ 18) (axes_of (a ∷ b ∷ c ∷ d ∷ [])) (omega arith)
    (on_axis HULL_REACH a.x b.x c.x d.x wa.x wb.x wc.x wd.x)
    (on_axis HULL_REACH a.y b.y c.y d.y wa.y wb.y wc.y wd.y)
    (on_axis HULL_REACH a.z b.z c.z d.z wa.z wb.z wc.z wd.z)
outer_of_hull (a ∷ b ∷ c ∷ d ∷ e ∷ bs) l w = absurd (omega arith)
