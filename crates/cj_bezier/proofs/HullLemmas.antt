-- The ends of a hull enclose the interpolant on one axis.
use Rattle.std.proofs.Common.{◌⊎◌, inl, inr, ◌≡◌, ℕ, ap, ◌+◌, ◌-◌, ◌*◌, ◌<◌, ◌≤◌, arith, refl, sym, subst, [], ◌∷◌}
use Rattle.std.proofs.lemmas.Int.{ints}
use Rattle.std.proofs.lemmas.Bool.{cases_lt}
use Rattle.std.specs.Prelude.{ℤ, pos, ◌+ℤ◌, ◌*ℤ◌, ◌≤ℤ◌}
use Rattle.std.specs.List.{All}
use Rattle.cj_interval.specs.declared.span.Span.{Span}
use Rattle.cj_interval.specs.Rounding.{floor_div, ceil_div}
use Rattle.cj_interval.specs.Spans.{least, greatest}
use Rattle.cj_interval.proofs.RingLemmas.{ring, var, num, ◌:+◌, ◌:*◌, from}
use Rattle.cj_interval.proofs.IntegerLemmas.{mul-le_right, le_from_mul, le_trans_ℤ}
use Rattle.cj_interval.proofs.RoundingLemmas.{least-le, le-greatest}
use Rattle.cj_interval.proofs.SizeLemmas.{mul_pos}
use Rattle.cj_hermite.specs.Interpolant.{Four, Curve, IsOver, place_numerator, place_denominator}
use Rattle.cj_hermite.specs.Levels.{exact_polar, polar}
use Rattle.cj_hermite.proofs.LevelLemmas.{polar-low, polar-high, polar-width, exact_polar-same}
use Rattle.cj_hermite.proofs.CubicLemmas.{bernstein_ticks}
use Rattle.cj_bezier.specs.Hulls.{Ends, EnclosesAxis, Encloses, ends_of, hull_ends, hull_axes}
use Rattle.cj_bezier.specs.Sizes.{IsNarrow}
use Rattle.cj_bezier.proofs.BoxLemmas.{all_four}

sum4-le : (a b c d p q r s : ℤ) → a ≤ℤ p → b ≤ℤ q → c ≤ℤ r → d ≤ℤ s → (a +ℤ b +ℤ c +ℤ d) ≤ℤ (p +ℤ q +ℤ r +ℤ s)
sum4-le a b c d p q r s h i j k = omega (arith, ints)

-- cubes of weights that add up: the average of a constant is the constant
average : (l i j : ℤ) → j *ℤ j *ℤ j *ℤ l +ℤ pos 3 *ℤ i *ℤ j *ℤ j *ℤ l +ℤ pos 3 *ℤ i *ℤ i *ℤ j *ℤ l +ℤ i *ℤ i *ℤ i *ℤ l ≡ l *ℤ ((i +ℤ j) *ℤ (i +ℤ j) *ℤ (i +ℤ j))
average l i j = ring (from (l ∷ i ∷ j ∷ []))
    (let L = var 0 in let I = var 1 in let J = var 2 in J :* J :* J :* L :+ num (pos 3) :* I :* J :* J :* L :+ num (pos 3) :* I :* I :* J :* L :+ I :* I :* I :* L)
    (let L = var 0 in let I = var 1 in let J = var 2 in L :* ((I :+ J) :* (I :+ J) :* (I :+ J))) refl

pub le-left : (a b : ℤ) (n : ℕ) → a ≤ℤ b → (pos n *ℤ a) ≤ℤ (pos n *ℤ b)
le-left a b n h = let p = mul-le_right a b n h in omega (arith, ints)

average-low : (l p q r s c : ℤ) (i j w : ℕ) → i + j ≡ w → 0 < w → l ≤ℤ p → l ≤ℤ q → l ≤ℤ r → l ≤ℤ s
    → pos w *ℤ pos w *ℤ pos w *ℤ c ≡ pos j *ℤ pos j *ℤ pos j *ℤ p +ℤ pos 3 *ℤ pos i *ℤ pos j *ℤ pos j *ℤ q +ℤ pos 3 *ℤ pos i *ℤ pos i *ℤ pos j *ℤ r +ℤ pos i *ℤ pos i *ℤ pos i *ℤ s
    → l ≤ℤ c
average-low l p q r s c i j w sum some hp hq hr hs e =
    let total = sum4-le _ _ _ _ _ _ _ _ (le-left l p (j * j * j) hp) (le-left l q (3 * i * j * j) hq) (le-left l r (3 * i * i * j) hr) (le-left l s (i * i * i) hs) in
    let left : (l *ℤ pos ((i + j) * (i + j) * (i + j))) ≤ℤ (pos w *ℤ pos w *ℤ pos w *ℤ c) =
    subst (λ (z : ℤ). (l *ℤ pos ((i + j) * (i + j) * (i + j))) ≤ℤ z) (sym e) (subst (λ (z : ℤ). z ≤ℤ (pos j *ℤ pos j *ℤ pos j *ℤ p +ℤ pos 3 *ℤ pos i *ℤ pos j *ℤ pos j *ℤ q +ℤ pos 3 *ℤ pos i *ℤ pos i *ℤ pos j *ℤ r +ℤ pos i *ℤ pos i *ℤ pos i *ℤ s)) (average l (pos i) (pos j)) total) in
    let moved : (l *ℤ pos (w * w * w)) ≤ℤ (pos w *ℤ pos w *ℤ pos w *ℤ c) = subst (λ (n : ℕ). (l *ℤ pos (n * n * n)) ≤ℤ (pos w *ℤ pos w *ℤ pos w *ℤ c)) sum left in
    let turn : pos w *ℤ pos w *ℤ pos w *ℤ c ≡ c *ℤ pos (w * w * w) = turned (pos w *ℤ pos w *ℤ pos w) c in
    le_from_mul l c (w * w * w) (mul_pos (w * w) w (mul_pos w w some some) some) (subst (λ (z : ℤ). (l *ℤ pos (w * w * w)) ≤ℤ z) turn moved)
  where
    turned : (x y : ℤ) → x *ℤ y ≡ y *ℤ x
    turned x y = omega (arith, ints)

-- l is at most each lower end of the hull over [a, b]: then l is at most the place at m, times the place_denominator
pub hull-low : (k : Four) (t a m b : ℕ) (l : ℤ) → 0 < t → a < b → a ≤ m → m ≤ b → b ≤ t
    → l ≤ℤ polar floor_div k t a a a → l ≤ℤ polar floor_div k t a a b → l ≤ℤ polar floor_div k t a b b → l ≤ℤ polar floor_div k t b b b
    → (l *ℤ pos (place_denominator t)) ≤ℤ place_numerator k t m
hull-low k t a m b l some wide p q r h0 h1 h2 h3 =
    let d = place_denominator t in
    let below = λ (u v w : ℕ) (h : l ≤ℤ polar floor_div k t u v w). le_trans_ℤ _ _ _ (mul-le_right l (polar floor_div k t u v w) d h) (polar-low k t u v w some) in
    let sum : m - a + (b - m) ≡ b - a = omega arith in
    let w : 0 < b - a = omega arith in
    subst (λ (z : ℤ). (l *ℤ pos d) ≤ℤ z) (exact_polar-same k t m)
    (average-low (l *ℤ pos d) _ _ _ _ (exact_polar k t m m m) (m - a) (b - m) (b - a) sum w (below a a a h0) (below a a b h1) (below a b b h2) (below b b b h3) (bernstein_ticks k t a m b p q r))

average-high : (u p q r s c : ℤ) (i j w : ℕ) → i + j ≡ w → 0 < w → p ≤ℤ u → q ≤ℤ u → r ≤ℤ u → s ≤ℤ u
    → pos w *ℤ pos w *ℤ pos w *ℤ c ≡ pos j *ℤ pos j *ℤ pos j *ℤ p +ℤ pos 3 *ℤ pos i *ℤ pos j *ℤ pos j *ℤ q +ℤ pos 3 *ℤ pos i *ℤ pos i *ℤ pos j *ℤ r +ℤ pos i *ℤ pos i *ℤ pos i *ℤ s
    → c ≤ℤ u
average-high u p q r s c i j w sum some hp hq hr hs e =
    let total = sum4-le _ _ _ _ _ _ _ _ (le-left p u (j * j * j) hp) (le-left q u (3 * i * j * j) hq) (le-left r u (3 * i * i * j) hr) (le-left s u (i * i * i) hs) in
    let right : (pos w *ℤ pos w *ℤ pos w *ℤ c) ≤ℤ (u *ℤ pos ((i + j) * (i + j) * (i + j))) =
    subst (λ (z : ℤ). z ≤ℤ (u *ℤ pos ((i + j) * (i + j) * (i + j)))) (sym e) (subst (λ (z : ℤ). (pos j *ℤ pos j *ℤ pos j *ℤ p +ℤ pos 3 *ℤ pos i *ℤ pos j *ℤ pos j *ℤ q +ℤ pos 3 *ℤ pos i *ℤ pos i *ℤ pos j *ℤ r +ℤ pos i *ℤ pos i *ℤ pos i *ℤ s) ≤ℤ z) (average u (pos i) (pos j)) total) in
    let moved : (pos w *ℤ pos w *ℤ pos w *ℤ c) ≤ℤ (u *ℤ pos (w * w * w)) = subst (λ (n : ℕ). (pos w *ℤ pos w *ℤ pos w *ℤ c) ≤ℤ (u *ℤ pos (n * n * n))) sum right in
    let turn : pos w *ℤ pos w *ℤ pos w *ℤ c ≡ c *ℤ pos (w * w * w) = turned (pos w *ℤ pos w *ℤ pos w) c in
    le_from_mul c u (w * w * w) (mul_pos (w * w) w (mul_pos w w some some) some) (subst (λ (z : ℤ). z ≤ℤ (u *ℤ pos (w * w * w))) turn moved)
  where
    turned : (x y : ℤ) → x *ℤ y ≡ y *ℤ x
    turned x y = omega (arith, ints)

pub hull-high : (k : Four) (t a m b : ℕ) (u : ℤ) → 0 < t → a < b → a ≤ m → m ≤ b → b ≤ t
    → polar ceil_div k t a a a ≤ℤ u → polar ceil_div k t a a b ≤ℤ u → polar ceil_div k t a b b ≤ℤ u → polar ceil_div k t b b b ≤ℤ u
    → place_numerator k t m ≤ℤ (u *ℤ pos (place_denominator t))
hull-high k t a m b u some wide p q r h0 h1 h2 h3 =
    let d = place_denominator t in
    let above = λ (x v w : ℕ) (h : polar ceil_div k t x v w ≤ℤ u). le_trans_ℤ _ _ _ (polar-high k t x v w some) (mul-le_right (polar ceil_div k t x v w) u d h) in
    let sum : m - a + (b - m) ≡ b - a = omega arith in
    let w : 0 < b - a = omega arith in
    subst (λ (z : ℤ). z ≤ℤ (u *ℤ pos d)) (exact_polar-same k t m)
    (average-high (u *ℤ pos d) _ _ _ _ (exact_polar k t m m m) (m - a) (b - m) (b - a) sum w (above a a a h0) (above a a b h1) (above a b b h2) (above b b b h3) (bernstein_ticks k t a m b p q r))

-- at one tick and over several: between the least lower and the greatest upper end
pub hull_encloses : (k : Four) (t a m b : ℕ) → 0 < t → a ≤ m → m ≤ b → b ≤ t → EnclosesAxis (hull_ends k t a b) k t m
hull_encloses k t a m b some p q r = record { place = record { low = by_width_low (cases_lt a b); high = by_width_high (cases_lt a b) } }
  where
    by_width_low : (a < b) ⊎ (b ≤ a) → (least (polar floor_div k t a a a) (polar floor_div k t a a b) (polar floor_div k t a b b) (polar floor_div k t b b b) *ℤ pos (place_denominator t)) ≤ℤ place_numerator k t m
    by_width_low (inl w) =
        let l = least-le (polar floor_div k t a a a) (polar floor_div k t a a b) (polar floor_div k t a b b) (polar floor_div k t b b b) in
        hull-low k t a m b _ some w p q r l.0 l.1 l.2 l.3
    by_width_low (inr w) =
        let e : a ≡ m = omega arith in
        let l = least-le (polar floor_div k t a a a) (polar floor_div k t a a b) (polar floor_div k t a b b) (polar floor_div k t b b b) in
        le_trans_ℤ _ _ _ (mul-le_right _ _ (place_denominator t) l.0) (subst (λ (x : ℕ). (polar floor_div k t a a a *ℤ pos (place_denominator t)) ≤ℤ place_numerator k t x) e (subst (λ (z : ℤ). (polar floor_div k t a a a *ℤ pos (place_denominator t)) ≤ℤ z) (exact_polar-same k t a) (polar-low k t a a a some)))

    by_width_high : (a < b) ⊎ (b ≤ a) → place_numerator k t m ≤ℤ (greatest (polar ceil_div k t a a a) (polar ceil_div k t a a b) (polar ceil_div k t a b b) (polar ceil_div k t b b b) *ℤ pos (place_denominator t))
    by_width_high (inl w) =
        let g = le-greatest (polar ceil_div k t a a a) (polar ceil_div k t a a b) (polar ceil_div k t a b b) (polar ceil_div k t b b b) in
        hull-high k t a m b _ some w p q r g.0 g.1 g.2 g.3
    by_width_high (inr w) =
        let e : a ≡ m = omega arith in
        let g = le-greatest (polar ceil_div k t a a a) (polar ceil_div k t a a b) (polar ceil_div k t a b b) (polar ceil_div k t b b b) in
        le_trans_ℤ _ _ _ (subst (λ (x : ℕ). place_numerator k t x ≤ℤ (polar ceil_div k t a a a *ℤ pos (place_denominator t))) e (subst (λ (z : ℤ). z ≤ℤ (polar ceil_div k t a a a *ℤ pos (place_denominator t))) (exact_polar-same k t a) (polar-high k t a a a some))) (mul-le_right _ _ (place_denominator t) g.0)

-- on each axis
pub encloses : (c : Curve) (first m last : ℕ) → IsOver c first last → first ≤ m → m ≤ last → Encloses (hull_axes c first last) c m
unfolding hull_axes
encloses c first m last over p q =
    let o = over in
    let a : first - c.start ≤ m - c.start = omega arith in
    let b : m - c.start ≤ last - c.start = omega arith in
    let t : last - c.start ≤ c.span = omega arith in
    record {
      x = hull_encloses c.x c.span (first - c.start) (m - c.start) (last - c.start) o.some a b t;
      y = hull_encloses c.y c.span (first - c.start) (m - c.start) (last - c.start) o.some a b t;
      z = hull_encloses c.z c.span (first - c.start) (m - c.start) (last - c.start) o.some a b t;
    }

-- each span of a hull is at most 3 wide
pub hull_narrow : (k : Four) (t a b : ℕ) (p q r s : Span) → 0 < t → a ≤ t → b ≤ t → ends_of (p ∷ q ∷ r ∷ s ∷ []) ≡ hull_ends k t a b → All (IsNarrow 3) (p ∷ q ∷ r ∷ s ∷ [])
hull_narrow k t a b p q r s some la lb e = all_four (IsNarrow 3) p q r s
    (one p a a a la la (ap (λ (x : Ends). x.low.k0) e) (ap (λ (x : Ends). x.high.k0) e))
    (one q a a b la lb (ap (λ (x : Ends). x.low.k1) e) (ap (λ (x : Ends). x.high.k1) e))
    (one r a b b lb lb (ap (λ (x : Ends). x.low.k2) e) (ap (λ (x : Ends). x.high.k2) e))
    (one s b b b lb lb (ap (λ (x : Ends). x.low.k3) e) (ap (λ (x : Ends). x.high.k3) e))
  where
    one : (x : Span) (u v w : ℕ) → v ≤ t → w ≤ t → x.lo ≡ polar floor_div k t u v w → x.hi ≡ polar ceil_div k t u v w → IsNarrow 3 x
    one x u v w lv lw l h = record { width = rw (l, h) (polar-width k t u v w some lv lw) }
