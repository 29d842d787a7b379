-- The gap of two hulls of one tick is never split: its ends are so near each other that it is far, near or in the band.
use Rattle.std.proofs.Common.{◌≡◌, ℕ, zero, suc, ◌+◌, ◌-◌, ◌*◌, ◌^◌, ◌<◌, ◌≤◌, arith, refl, sym, ap, subst, ◌∙◌, false, [], ◌∷◌}
use Rattle.std.proofs.lemmas.Bool.{both_ways}
use Rattle.std.proofs.lemmas.Int.{ints, by_lt_z}
use Rattle.std.specs.Prelude.{ℤ, pos, ◌+ℤ◌, ◌-ℤ◌, ◌*ℤ◌, ◌≤ℤ◌, ◌<ℤ◌}
use Rattle.cj_interval.specs.Rounding.{floor_div, ceil_div}
use Rattle.cj_interval.specs.Spans.{least, greatest}
use Rattle.cj_interval.proofs.RingLemmas.{ring, var, num, ◌:+◌, ◌:*◌, from}
use Rattle.cj_interval.proofs.IntegerLemmas.{mul-le_right, le_from_mul, le_trans_ℤ, sub-le}
use Rattle.cj_interval.proofs.SizeLemmas.{mul_pos}
use Rattle.cj_hermite.specs.Interpolant.{Four, Curve, IsOver, place_denominator}
use Rattle.cj_hermite.specs.Levels.{polar}
use Rattle.cj_hermite.specs.Distance.{BAND}
use Rattle.cj_hermite.proofs.LevelLemmas.{polar-low, polar-high, polar-width}
use Rattle.cj_case.specs.declared.kind.Kind.TheVariants as kinds
use Rattle.cj_bezier.specs.Hulls.{Ends, PlainHull, hull_ends, hull_axes}
use Rattle.cj_bezier.specs.Gaps.{PlainGap, value_at, coefficient, apart, apart_axes, product_low, product_high, gap_low, gap_high, gap_terms, hull_gap}
use Rattle.cj_bezier.specs.Verdicts.{choose6, share, Supports, supported}
use Rattle.cj_bezier.proofs.GapLemmas.{LowsAbove, LowsAtLeast, HighsAtMost}
use Rattle.cj_bezier.proofs.OneTickLemmas.{band_of_one}
use Rattle.cj_bezier.proofs.SevenLemmas.{choose6-bounds}
use Rattle.cj_bezier.proofs.TestLemmas.{decides_supports}
use Rattle.cj_bezier.proofs.VerdictLemmas.{are_above_from, are_at_least_from, are_at_most_from}

-- a coefficient of equal products
coefficient_same : (p : ℕ → ℕ → ℤ) (c : ℤ) → ((i j : ℕ) → p i j ≡ c) → (k : ℕ) → coefficient p k ≡ pos (choose6 k) *ℤ c
coefficient_same p c h k = ap (λ (q : ℕ → ℕ → ℤ). coefficient q k) (λ t i j. h i j t) ∙ constant c k
  where
    constant : (c : ℤ) (k : ℕ) → coefficient (λ i j. c) k ≡ pos (choose6 k) *ℤ c
    constant c zero = ring (from (c ∷ [])) (var 0) (num (pos 1) :* var 0) refl
    constant c (suc zero) = ring (from (c ∷ [])) (num (pos 3) :* var 0 :+ num (pos 3) :* var 0) (num (pos 6) :* var 0) refl
    constant c (suc (suc zero)) = ring (from (c ∷ [])) (num (pos 3) :* var 0 :+ num (pos 9) :* var 0 :+ num (pos 3) :* var 0) (num (pos 15) :* var 0) refl
    constant c (suc (suc (suc zero))) = ring (from (c ∷ [])) (var 0 :+ num (pos 9) :* var 0 :+ num (pos 9) :* var 0 :+ var 0) (num (pos 20) :* var 0) refl
    constant c (suc (suc (suc (suc zero)))) = ring (from (c ∷ [])) (num (pos 3) :* var 0 :+ num (pos 9) :* var 0 :+ num (pos 3) :* var 0) (num (pos 15) :* var 0) refl
    constant c (suc (suc (suc (suc (suc zero))))) = ring (from (c ∷ [])) (num (pos 3) :* var 0 :+ num (pos 3) :* var 0) (num (pos 6) :* var 0) refl
    constant c (suc (suc (suc (suc (suc (suc n)))))) = ring (from (c ∷ [])) (var 0) (num (pos 1) :* var 0) refl

-- the square of a span: its lower and its upper end
abbrev pub square_low : ℤ → ℤ → ℤ
square_low l h = least (l *ℤ l) (l *ℤ h) (h *ℤ l) (h *ℤ h)

abbrev pub square_high : ℤ → ℤ → ℤ
square_high l h = greatest (l *ℤ l) (l *ℤ h) (h *ℤ l) (h *ℤ h)

-- four spans that are one
record AreOne (e : Ends) (l h : ℤ) : Type 0 where
  low : (n : ℕ) → value_at e.low n ≡ l
  high : (n : ℕ) → value_at e.high n ≡ h

product_low-one : (e : Ends) (l h : ℤ) → AreOne e l h → (i j : ℕ) → product_low e i j ≡ square_low l h
product_low-one e l h s i j = one (value_at e.low i) (value_at e.high i) (value_at e.low j) (value_at e.high j) (s.low i) (s.high i) (s.low j) (s.high j)
  where
    one : (a b c d : ℤ) → a ≡ l → b ≡ h → c ≡ l → d ≡ h → least (a *ℤ c) (a *ℤ d) (b *ℤ c) (b *ℤ d) ≡ square_low l h
    one a b c d ea eb ec ed = λ t. least (ea t *ℤ ec t) (ea t *ℤ ed t) (eb t *ℤ ec t) (eb t *ℤ ed t)

product_high-one : (e : Ends) (l h : ℤ) → AreOne e l h → (i j : ℕ) → product_high e i j ≡ square_high l h
product_high-one e l h s i j = one (value_at e.low i) (value_at e.high i) (value_at e.low j) (value_at e.high j) (s.low i) (s.high i) (s.low j) (s.high j)
  where
    one : (a b c d : ℤ) → a ≡ l → b ≡ h → c ≡ l → d ≡ h → greatest (a *ℤ c) (a *ℤ d) (b *ℤ c) (b *ℤ d) ≡ square_high l h
    one a b c d ea eb ec ed = λ t. greatest (ea t *ℤ ec t) (ea t *ℤ ed t) (eb t *ℤ ec t) (eb t *ℤ ed t)

-- the ends of the difference of two axes at one tick
abbrev pub below : Four → ℕ → ℕ → Four → ℕ → ℕ → ℤ
below k t s k' t' s' = polar floor_div k t s s s -ℤ polar ceil_div k' t' s' s' s'

abbrev pub above : Four → ℕ → ℕ → Four → ℕ → ℕ → ℤ
above k t s k' t' s' = polar ceil_div k t s s s -ℤ polar floor_div k' t' s' s' s'

apart_one : (k k' : Four) (t s t' s' : ℕ) → AreOne (apart (hull_ends k t s s) (hull_ends k' t' s' s')) (below k t s k' t' s') (above k t s k' t' s')
apart_one k k' t s t' s' = record { low = low; high = high }
  where
    low : (n : ℕ) → value_at (apart (hull_ends k t s s) (hull_ends k' t' s' s')).low n ≡ below k t s k' t' s'
    low zero = refl
    low (suc zero) = refl
    low (suc (suc zero)) = refl
    low (suc (suc (suc n))) = refl

    high : (n : ℕ) → value_at (apart (hull_ends k t s s) (hull_ends k' t' s' s')).high n ≡ above k t s k' t' s'
    high zero = refl
    high (suc zero) = refl
    high (suc (suc zero)) = refl
    high (suc (suc (suc n))) = refl

-- a gap of three axes whose spans are one each
record IsOfOne (d : PlainHull) (l1 h1 l2 h2 l3 h3 : ℤ) : Type 0 where
  x : AreOne d.x l1 h1
  y : AreOne d.y l2 h2
  z : AreOne d.z l3 h3

lows_one : (d : PlainHull) (l1 h1 l2 h2 l3 h3 : ℤ) → IsOfOne d l1 h1 l2 h2 l3 h3 → (k : ℕ) → gap_low d k ≡ pos (choose6 k) *ℤ (square_low l1 h1 +ℤ square_low l2 h2 +ℤ square_low l3 h3)
lows_one d l1 h1 l2 h2 l3 h3 o k =
    coefficient_same (λ i j. product_low d.x i j +ℤ product_low d.y i j +ℤ product_low d.z i j) _
    (λ i j. λ t. product_low-one d.x l1 h1 o.x i j t +ℤ product_low-one d.y l2 h2 o.y i j t +ℤ product_low-one d.z l3 h3 o.z i j t) k

highs_one : (d : PlainHull) (l1 h1 l2 h2 l3 h3 : ℤ) → IsOfOne d l1 h1 l2 h2 l3 h3 → (k : ℕ) → gap_high d k ≡ pos (choose6 k) *ℤ (square_high l1 h1 +ℤ square_high l2 h2 +ℤ square_high l3 h3)
highs_one d l1 h1 l2 h2 l3 h3 o k =
    coefficient_same (λ i j. product_high d.x i j +ℤ product_high d.y i j +ℤ product_high d.z i j) _
    (λ i j. λ t. product_high-one d.x l1 h1 o.x i j t +ℤ product_high-one d.y l2 h2 o.y i j t +ℤ product_high-one d.z l3 h3 o.z i j t) k

-- the ends of the squared distance at one tick
abbrev pub tick_low : Curve → Curve → ℕ → ℤ
tick_low a b m =
    let s = m - a.start in
    let s' = m - b.start in
    square_low (below a.x a.span s b.x b.span s') (above a.x a.span s b.x b.span s')
    +ℤ square_low (below a.y a.span s b.y b.span s') (above a.y a.span s b.y b.span s')
    +ℤ square_low (below a.z a.span s b.z b.span s') (above a.z a.span s b.z b.span s')

abbrev pub tick_high : Curve → Curve → ℕ → ℤ
tick_high a b m =
    let s = m - a.start in
    let s' = m - b.start in
    square_high (below a.x a.span s b.x b.span s') (above a.x a.span s b.x b.span s')
    +ℤ square_high (below a.y a.span s b.y b.span s') (above a.y a.span s b.y b.span s')
    +ℤ square_high (below a.z a.span s b.z b.span s') (above a.z a.span s b.z b.span s')

of_tick : (a b : Curve) (m : ℕ) → let s = m - a.start in let s' = m - b.start in
    IsOfOne (hull_gap a b m m) (below a.x a.span s b.x b.span s') (above a.x a.span s b.x b.span s')
    (below a.y a.span s b.y b.span s') (above a.y a.span s b.y b.span s')
    (below a.z a.span s b.z b.span s') (above a.z a.span s b.z b.span s')
unfolding hull_axes apart_axes
of_tick a b m = record {
  x = apart_one a.x b.x a.span (m - a.start) b.span (m - b.start);
  y = apart_one a.y b.y a.span (m - a.start) b.span (m - b.start);
  z = apart_one a.z b.z a.span (m - a.start) b.span (m - b.start);
}

-- the gap of one tick has these ends C(6,k) times
pub lows_of_tick : (a b : Curve) (m k : ℕ) → gap_low (hull_gap a b m m) k ≡ pos (choose6 k) *ℤ tick_low a b m
lows_of_tick a b m k = lows_one (hull_gap a b m m) _ _ _ _ _ _ (of_tick a b m) k

pub highs_of_tick : (a b : Curve) (m k : ℕ) → gap_high (hull_gap a b m m) k ≡ pos (choose6 k) *ℤ tick_high a b m
highs_of_tick a b m k = highs_one (hull_gap a b m m) _ _ _ _ _ _ (of_tick a b m) k

-- ---- shares of one end

pub share-le : (c : ℕ) (n : ℕ) (l : ℤ) → pos n ≤ℤ l → pos (c * n) ≤ℤ (pos c *ℤ l)
share-le c n l h = let t = mul-le_right (pos n) l c h in omega (arith, ints)

pub le-share : (c : ℕ) (n : ℕ) (l : ℤ) → l ≤ℤ pos n → (pos c *ℤ l) ≤ℤ pos (c * n)
le-share c n l h = let t = mul-le_right l (pos n) c h in omega (arith, ints)

share-lt : (c : ℕ) (n : ℕ) (l : ℤ) → 0 < c → pos n <ℤ l → pos (c * n) <ℤ (pos c *ℤ l)
share-lt c n l p h =
    let more : pos (n + 1) ≤ℤ l = omega (arith, ints) in
    let t = share-le c (n + 1) l more in
    omega (arith, ints)

lows_above : (d : PlainHull) (e : ℕ) (l : ℤ) → ((k : ℕ) → gap_low d k ≡ pos (choose6 k) *ℤ l) → pos (e * e) <ℤ l → LowsAbove d e
lows_above d e l is h k = subst (λ (z : ℤ). share e k <ℤ z) (sym (is k)) (share-lt (choose6 k) (e * e) l (choose6-bounds k).0 h)

lows_at_least : (d : PlainHull) (e : ℕ) (l : ℤ) → ((k : ℕ) → gap_low d k ≡ pos (choose6 k) *ℤ l) → pos (e * e) ≤ℤ l → LowsAtLeast d e
lows_at_least d e l is h k = subst (λ (z : ℤ). share e k ≤ℤ z) (sym (is k)) (share-le (choose6 k) (e * e) l h)

highs_at_most : (d : PlainHull) (e : ℕ) (u : ℤ) → ((k : ℕ) → gap_high d k ≡ pos (choose6 k) *ℤ u) → u ≤ℤ pos (e * e) → HighsAtMost d e
highs_at_most d e u is h k = subst (λ (z : ℤ). z ≤ℤ share e k) (sym (is k)) (le-share (choose6 k) (e * e) u h)

-- ---- one tick

ordered : (k : Four) (t s : ℕ) → 0 < t → polar floor_div k t s s s ≤ℤ polar ceil_div k t s s s
ordered k t s some =
    le_from_mul _ _ (place_denominator t) (mul_pos 3000000 (t * t * t) (omega arith) (mul_pos (t * t) t (mul_pos t t some some) some)) (le_trans_ℤ _ _ _ (polar-low k t s s s some) (polar-high k t s s s some))

difference_narrow : (a b c d : ℤ) → b ≤ℤ (a +ℤ pos 3) → d ≤ℤ (c +ℤ pos 3) → (b -ℤ c) ≤ℤ (a -ℤ d +ℤ pos 6)
difference_narrow a b c d h k = omega (arith, ints)

pub axis_ordered : (k k' : Four) (t s t' s' : ℕ) → 0 < t → 0 < t' → below k t s k' t' s' ≤ℤ above k t s k' t' s'
axis_ordered k k' t s t' s' p p' = sub-le _ _ _ _ (ordered k t s p) (ordered k' t' s' p')

pub axis_narrow : (k k' : Four) (t s t' s' : ℕ) → 0 < t → 0 < t' → s ≤ t → s' ≤ t' → above k t s k' t' s' ≤ℤ (below k t s k' t' s' +ℤ pos 6)
axis_narrow k k' t s t' s' p p' q q' = difference_narrow _ _ _ _ (polar-width k t s s s p q q) (polar-width k' t' s' s' s' p' q' q')

-- neither far nor near: undecided
pub one_tick_undecided : (a b : Curve) (thr m : ℕ) → 10 ^ 9 ≤ thr → IsOver a m m → IsOver b m m
    → ¬ Supports (gap_terms (hull_gap a b m m)) thr kinds.Far → ¬ Supports (gap_terms (hull_gap a b m m)) thr kinds.Near → Supports (gap_terms (hull_gap a b m m)) thr kinds.Undecided
one_tick_undecided a b thr m big oa ob not_far not_near =
    let s = m - a.start in let s' = m - b.start in let t = a.span in let t' = b.span in
    let q : s ≤ t = omega arith in
    let q' : s' ≤ t' = omega arith in
    decided (hull_gap a b m m) thr
    (below a.x t s b.x t' s') (above a.x t s b.x t' s') (below a.y t s b.y t' s') (above a.y t s b.y t' s') (below a.z t s b.z t' s') (above a.z t s b.z t' s') big
    (of_tick a b m)
    (axis_ordered a.x b.x t s t' s' oa.some ob.some) (axis_narrow a.x b.x t s t' s' oa.some ob.some q q')
    (axis_ordered a.y b.y t s t' s' oa.some ob.some) (axis_narrow a.y b.y t s t' s' oa.some ob.some q q')
    (axis_ordered a.z b.z t s t' s' oa.some ob.some) (axis_narrow a.z b.z t s t' s' oa.some ob.some q q')
    not_far not_near
  where
    decided : (d : PlainHull) (thr : ℕ) (l1 h1 l2 h2 l3 h3 : ℤ) → 10 ^ 9 ≤ thr → IsOfOne d l1 h1 l2 h2 l3 h3
        → l1 ≤ℤ h1 → h1 ≤ℤ (l1 +ℤ pos 6) → l2 ≤ℤ h2 → h2 ≤ℤ (l2 +ℤ pos 6) → l3 ≤ℤ h3 → h3 ≤ℤ (l3 +ℤ pos 6)
        → ¬ Supports (gap_terms d) thr kinds.Far → ¬ Supports (gap_terms d) thr kinds.Near → Supports (gap_terms d) thr kinds.Undecided
    decided d thr l1 h1 l2 h2 l3 h3 big one p1 q1 p2 q2 p3 q3 not_far not_near =
        let low = square_low l1 h1 +ℤ square_low l2 h2 +ℤ square_low l3 h3 in
        let high = square_high l1 h1 +ℤ square_high l2 h2 +ℤ square_high l3 h3 in
        let below_thr : low ≤ℤ pos (thr * thr) =
        by_lt_z (pos (thr * thr)) low (λ l. absurd (not_far (are_above_from d thr (lows_above d thr low (lows_one d l1 h1 l2 h2 l3 h3 one) l)))) (λ l. l) in
        let above_thr : pos (thr * thr) <ℤ high =
        by_lt_z (pos (thr * thr)) high (λ l. l) (λ l. absurd (not_near (are_at_most_from d thr (highs_at_most d thr high (highs_one d l1 h1 l2 h2 l3 h3 one) l)))) in
        let band = band_of_one thr l1 h1 l2 h2 l3 h3 big p1 q1 p2 q2 p3 q3 below_thr above_thr in
        (are_at_least_from d (thr - BAND) (lows_at_least d (thr - BAND) low (lows_one d l1 h1 l2 h2 l3 h3 one) band.lower), are_at_most_from d (thr + BAND) (highs_at_most d (thr + BAND) high (highs_one d l1 h1 l2 h2 l3 h3 one) band.upper))

-- so three tests of a gap of one tick are not all false
pub never_split : (g : PlainGap) (a b : Curve) (thr m : ℕ) → 10 ^ 9 ≤ thr → IsOver a m m → IsOver b m m → g ≡ gap_terms (hull_gap a b m m)
    → supported g thr kinds.Far ≡ false → supported g thr kinds.Near ≡ false → supported g thr kinds.Undecided ≡ false → ⊥
never_split g a b thr m big oa ob e far near undecided =
    let h = gap_terms (hull_gap a b m m) in
    let f : supported h thr kinds.Far ≡ false = subst (λ (x : PlainGap). supported x thr kinds.Far ≡ false) e far in
    let n : supported h thr kinds.Near ≡ false = subst (λ (x : PlainGap). supported x thr kinds.Near ≡ false) e near in
    let u : supported h thr kinds.Undecided ≡ false = subst (λ (x : PlainGap). supported x thr kinds.Undecided ≡ false) e undecided in
    both_ways _ u ((decides_supports h thr kinds.Undecided).1 (one_tick_undecided a b thr m big oa ob (λ s. both_ways _ f ((decides_supports h thr kinds.Far).1 s)) (λ s. both_ways _ n ((decides_supports h thr kinds.Near).1 s))))
