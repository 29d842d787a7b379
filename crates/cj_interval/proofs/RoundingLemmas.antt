-- What rounding down and up give.
use Rattle.std.proofs.Common.{◌≡◌, ℕ, ◌+◌, ◌*◌, ◌<◌, ◌≤◌, arith, refl, sym, subst}
use Rattle.std.proofs.lemmas.Int.{ints, by_lt_z}
use Rattle.std.specs.Prelude.{ℤ, pos, negsuc, ◌+ℤ◌, ◌*ℤ◌, neg_ℤ, ◌≤ℤ◌, ◌<ℤ◌}
use Rattle.std.specs.Int.{int_div_euclid}
use Rattle.std.proofs.lemmas.Int.{clamps}
use Rattle.std.proofs.Common.{[], ◌∷◌}
use Rattle.cj_interval.specs.Rounding.{floor_div, ceil_div}
use Rattle.cj_interval.specs.Spans.{least, greatest, IsIn}
use Rattle.cj_interval.proofs.RingLemmas.{var, num, neg, ◌:+◌, ◌:*◌, from, ring}
use Rattle.cj_interval.proofs.IntegerLemmas.{add-mul_ℤ, mul-le_right, le_from_mul, le_trans_ℤ, corners_low, corners_high}

quotient : (a : ℤ) (k : ℕ) → 0 < k → ((int_div_euclid a (pos k) *ℤ pos k) ≤ℤ a) × (a <ℤ (int_div_euclid a (pos k) *ℤ pos k +ℤ pos k))
quotient (pos a) k h = omega (arith, ints)
quotient (negsuc a) k h = omega (arith, ints)

pub floor_div-le : (z : ℤ) (d : ℕ) → 0 < d → (floor_div z d *ℤ pos d) ≤ℤ z
unfolding floor_div
floor_div-le z d h = (quotient z d h).0

pub floor_div-gt : (z : ℤ) (d : ℕ) → 0 < d → z <ℤ (floor_div z d *ℤ pos d +ℤ pos d)
unfolding floor_div
floor_div-gt z d h = (quotient z d h).1

neg-mul : (g k : ℤ) → neg_ℤ g *ℤ k ≡ neg_ℤ (g *ℤ k)
neg-mul g k = ring (from (g ∷ k ∷ [])) (neg (var 0) :* var 1) (neg (var 0 :* var 1)) refl

pub ceil_div-ge : (z : ℤ) (d : ℕ) → 0 < d → z ≤ℤ (ceil_div z d *ℤ pos d)
unfolding ceil_div
ceil_div-ge z d h =
    let g = int_div_euclid (neg_ℤ z) (pos d) in
    turned g z d (quotient (neg_ℤ z) d h).0 (neg-mul g (pos d))
  where
    turned : (g z : ℤ) (d : ℕ) → (g *ℤ pos d) ≤ℤ neg_ℤ z → neg_ℤ g *ℤ pos d ≡ neg_ℤ (g *ℤ pos d) → z ≤ℤ (neg_ℤ g *ℤ pos d)
    turned g z d h e = subst (λ (x : ℤ). z ≤ℤ x) (sym e) (omega (arith, ints))

pub ceil_div-lt : (z : ℤ) (d : ℕ) → 0 < d → (ceil_div z d *ℤ pos d) <ℤ (z +ℤ pos d)
unfolding ceil_div
ceil_div-lt z d h =
    let g = int_div_euclid (neg_ℤ z) (pos d) in
    turned g z d (quotient (neg_ℤ z) d h).1 (neg-mul g (pos d))
  where
    turned : (g z : ℤ) (d : ℕ) → neg_ℤ z <ℤ (g *ℤ pos d +ℤ pos d) → neg_ℤ g *ℤ pos d ≡ neg_ℤ (g *ℤ pos d) → (neg_ℤ g *ℤ pos d) <ℤ (z +ℤ pos d)
    turned g z d h e = subst (λ (x : ℤ). x <ℤ (z +ℤ pos d)) (sym e) (omega (arith, ints))

-- the least c with z <= c d is the quotient rounded up
pub ceil_div-unique : (z c : ℤ) (d : ℕ) → 0 < d → z ≤ℤ (c *ℤ pos d) → (c *ℤ pos d) <ℤ (z +ℤ pos d) → c ≡ ceil_div z d
ceil_div-unique z c d p h k =
    let u = ceil_div z d in
    let ge = ceil_div-ge z d p in
    let lt = ceil_div-lt z d p in
    let one = below c u z d p h lt in
    let two = below u c z d p ge k in
    omega (arith, ints)
  where
    more : (b : ℤ) (d : ℕ) → (b +ℤ pos 1) *ℤ pos d ≡ b *ℤ pos d +ℤ pos d
    more b d = ring (from (b ∷ pos d ∷ [])) ((var 0 :+ num (pos 1)) :* var 1) (var 0 :* var 1 :+ var 1) refl

    clash : (ad bd s z : ℤ) (d : ℕ) → s ≡ ad +ℤ pos d → s ≤ℤ bd → z ≤ℤ ad → bd <ℤ (z +ℤ pos d) → ⊥
    clash ad bd s z d e h1 h2 h3 = omega (arith, ints)

    below : (a b z : ℤ) (d : ℕ) → 0 < d → z ≤ℤ (a *ℤ pos d) → (b *ℤ pos d) <ℤ (z +ℤ pos d) → b ≤ℤ a
    below a b z d p h k =
        by_lt_z a b
        (λ l.
        let q : (a +ℤ pos 1) ≤ℤ b = omega (arith, ints) in
        let r = mul-le_right (a +ℤ pos 1) b d q in
        absurd (clash (a *ℤ pos d) (b *ℤ pos d) ((a +ℤ pos 1) *ℤ pos d) z d (more a d) r h k))
        (λ l. l)

-- rounded up from a lower quotient q and what it leaves
pub ceil_div-from : (z q : ℤ) (d n e : ℕ) → 0 < d → z ≡ q *ℤ pos d +ℤ pos n → n ≤ e * d → e * d < n + d → q +ℤ pos e ≡ ceil_div z d
ceil_div-from z q d n e p s h k =
    let m = spread q e d in
    ceil_div-unique z (q +ℤ pos e) d p (low (q *ℤ pos d) z ((q +ℤ pos e) *ℤ pos d) n (e * d) s m h) (high (q *ℤ pos d) z ((q +ℤ pos e) *ℤ pos d) n (e * d) d s m k)
  where
    spread : (q : ℤ) (e d : ℕ) → (q +ℤ pos e) *ℤ pos d ≡ q *ℤ pos d +ℤ pos (e * d)
    spread q e d = ring (from (q ∷ pos e ∷ pos d ∷ [])) ((var 0 :+ var 1) :* var 2) (var 0 :* var 2 :+ var 1 :* var 2) refl

    low : (qd z s : ℤ) (n ed : ℕ) → z ≡ qd +ℤ pos n → s ≡ qd +ℤ pos ed → n ≤ ed → z ≤ℤ s
    low qd z s n ed e f h = omega (arith, ints)

    high : (qd z s : ℤ) (n ed d : ℕ) → z ≡ qd +ℤ pos n → s ≡ qd +ℤ pos ed → ed < n + d → s <ℤ (z +ℤ pos d)
    high qd z s n ed d e f h = omega (arith, ints)

pub least-le : (a b c d : ℤ) → (least a b c d ≤ℤ a) × (least a b c d ≤ℤ b) × (least a b c d ≤ℤ c) × (least a b c d ≤ℤ d)
unfolding least
least-le a b c d = omega (arith, ints, clamps)

pub le-greatest : (a b c d : ℤ) → (a ≤ℤ greatest a b c d) × (b ≤ℤ greatest a b c d) × (c ≤ℤ greatest a b c d) × (d ≤ℤ greatest a b c d)
unfolding greatest
le-greatest a b c d = omega (arith, ints, clamps)

-- ---- weighted sums

pub blend-le : (a b x y : ℤ) (n m : ℕ) → a ≤ℤ x → b ≤ℤ y → (a *ℤ pos n +ℤ b *ℤ pos m) ≤ℤ (x *ℤ pos n +ℤ y *ℤ pos m)
blend-le a b x y n m h k =
    let p = mul-le_right a x n h in
    let q = mul-le_right b y m k in
    omega (arith, ints)

pub floor_div-le_ceil_div : (x y : ℤ) (d : ℕ) → 0 < d → x ≤ℤ y → floor_div x d ≤ℤ ceil_div y d
floor_div-le_ceil_div x y d p h =
    le_from_mul _ _ d p (le_trans_ℤ _ _ _ (floor_div-le x d p) (le_trans_ℤ _ _ _ h (ceil_div-ge y d p)))

pub lerp-low : (a b x y : ℤ) (n m d : ℕ) → 0 < d → a ≤ℤ x → b ≤ℤ y → (floor_div (a *ℤ pos n +ℤ b *ℤ pos m) d *ℤ pos d) ≤ℤ (x *ℤ pos n +ℤ y *ℤ pos m)
lerp-low a b x y n m d p h k = le_trans_ℤ _ _ _ (floor_div-le _ d p) (blend-le a b x y n m h k)

pub lerp-high : (a b x y : ℤ) (n m d : ℕ) → 0 < d → x ≤ℤ a → y ≤ℤ b → (x *ℤ pos n +ℤ y *ℤ pos m) ≤ℤ (ceil_div (a *ℤ pos n +ℤ b *ℤ pos m) d *ℤ pos d)
lerp-high a b x y n m d p h k = le_trans_ℤ _ _ _ (blend-le x y a b n m h k) (ceil_div-ge _ d p)

-- ---- products
pub product_of_spans : (a b c d x y : ℤ) → IsIn a b x → IsIn c d y → IsIn (least (a *ℤ c) (a *ℤ d) (b *ℤ c) (b *ℤ d)) (greatest (a *ℤ c) (a *ℤ d) (b *ℤ c) (b *ℤ d)) (x *ℤ y)
product_of_spans a b c d x y p q =
    let l = least-le (a *ℤ c) (a *ℤ d) (b *ℤ c) (b *ℤ d) in
    let u = le-greatest (a *ℤ c) (a *ℤ d) (b *ℤ c) (b *ℤ d) in
    record {
      low = corners_low a b c d x y _ p.low p.high q.low q.high l.0 l.1 l.2 l.3;
      high = corners_high a b c d x y _ p.low p.high q.low q.high u.0 u.1 u.2 u.3;
    }

-- the same, where both spans and their numbers are r times as large
scaled : (a c r : ℤ) → (a *ℤ c) *ℤ (r *ℤ r) ≡ (a *ℤ r) *ℤ (c *ℤ r)
scaled a c r = ring (from (a ∷ c ∷ r ∷ [])) ((var 0 :* var 1) :* (var 2 :* var 2)) ((var 0 :* var 2) :* (var 1 :* var 2)) refl

pub scaled_product_of_spans : (a b c d x y : ℤ) (r : ℕ) → IsIn (a *ℤ pos r) (b *ℤ pos r) x → IsIn (c *ℤ pos r) (d *ℤ pos r) y
    → IsIn (least (a *ℤ c) (a *ℤ d) (b *ℤ c) (b *ℤ d) *ℤ pos (r * r)) (greatest (a *ℤ c) (a *ℤ d) (b *ℤ c) (b *ℤ d) *ℤ pos (r * r)) (x *ℤ y)
scaled_product_of_spans a b c d x y r p q =
    let l = least (a *ℤ c) (a *ℤ d) (b *ℤ c) (b *ℤ d) in
    let u = greatest (a *ℤ c) (a *ℤ d) (b *ℤ c) (b *ℤ d) in
    let low = least-le (a *ℤ c) (a *ℤ d) (b *ℤ c) (b *ℤ d) in
    let high = le-greatest (a *ℤ c) (a *ℤ d) (b *ℤ c) (b *ℤ d) in
    let above = λ (e f : ℤ) (g : l ≤ℤ (e *ℤ f)). subst (λ (z : ℤ). (l *ℤ pos (r * r)) ≤ℤ z) (scaled e f (pos r)) (mul-le_right l (e *ℤ f) (r * r) g) in
    let below = λ (e f : ℤ) (g : (e *ℤ f) ≤ℤ u). subst (λ (z : ℤ). z ≤ℤ (u *ℤ pos (r * r))) (scaled e f (pos r)) (mul-le_right (e *ℤ f) u (r * r) g) in
    record {
      low = corners_low (a *ℤ pos r) (b *ℤ pos r) (c *ℤ pos r) (d *ℤ pos r) x y (l *ℤ pos (r * r)) p.low p.high q.low q.high (above a c low.0) (above a d low.1) (above b c low.2) (above b d low.3);
      high = corners_high (a *ℤ pos r) (b *ℤ pos r) (c *ℤ pos r) (d *ℤ pos r) x y (u *ℤ pos (r * r)) p.low p.high q.low q.high (below a c high.0) (below a d high.1) (below b c high.2) (below b d high.3);
    }

-- ---- widths

pub ceil-le_floor : (x y : ℤ) (d w : ℕ) → 0 < d → y ≤ℤ (x +ℤ pos (w * d)) → ceil_div y d ≤ℤ (floor_div x d +ℤ pos (w + 1))
ceil-le_floor x y d w p h =
    let f = floor_div x d in
    let c = ceil_div y d in
    let lo = floor_div-gt x d p in
    let hi = ceil_div-lt y d p in
    by_lt_z (f +ℤ pos (w + 1)) c
    (λ l.
    let q : (f +ℤ pos (w + 2)) ≤ℤ c = omega (arith, ints) in
    let r = mul-le_right (f +ℤ pos (w + 2)) c d q in
    absurd (clash (f *ℤ pos d) (c *ℤ pos d) ((f +ℤ pos (w + 2)) *ℤ pos d) x y w d (add-mul_ℤ f (pos (w + 2)) (pos d)) r lo hi h))
    (λ l. l)
  where
    clash : (fd cd s x y : ℤ) (w d : ℕ) → s ≡ fd +ℤ pos ((w + 2) * d) → s ≤ℤ cd → x <ℤ (fd +ℤ pos d) → cd <ℤ (y +ℤ pos d) → y ≤ℤ (x +ℤ pos (w * d)) → ⊥
    clash fd cd s x y w d e h1 h2 h3 h4 = omega (arith, ints)
