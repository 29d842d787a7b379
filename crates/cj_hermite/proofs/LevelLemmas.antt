-- A level keeps the bound on its ends, encloses what is exact, and widens by at most 1.
use Rattle.std.proofs.Common.{◌≡◌, ℕ, ◌+◌, ◌-◌, ◌*◌, ◌<◌, ◌≤◌, arith, refl, sym, ap, subst, [], ◌∷◌}
use Rattle.std.proofs.lemmas.Int.{ints, unsigned_abs-mul}
use Rattle.std.proofs.Math.Nat.{mul-le-mul_right}
use Rattle.std.specs.Prelude.{ℤ, pos, ◌+ℤ◌, ◌*ℤ◌, ◌≤ℤ◌}
use Rattle.cj_interval.specs.Rounding.{floor_div, ceil_div}
use Rattle.cj_interval.specs.Sizes.{IsWithin}
use Rattle.cj_interval.proofs.RingLemmas.{ring, var, num, ◌:+◌, ◌:*◌, from}
use Rattle.cj_interval.proofs.IntegerLemmas.{add-mul_ℤ, mul-le_right, le_trans_ℤ, mul_assoc_ℤ}
use Rattle.cj_interval.proofs.RoundingLemmas.{floor_div-le, ceil_div-ge, blend-le}
use Rattle.cj_interval.proofs.SizeLemmas.{mul_pos, weighted_within}
use Rattle.cj_interval.proofs.RoundingLemmas.{ceil-le_floor}
use Rattle.cj_interval.proofs.SizeLemmas.{floor_div_within, ceil_div_within}
use Rattle.cj_hermite.specs.Interpolant.{Four, place_numerator, place_denominator}
use Rattle.cj_hermite.specs.Levels.{exact_polar, polar}

-- ---- sizes

blend_within : (a b : ℤ) (n m e k : ℕ) → IsWithin (k * e) a → IsWithin (k * e) b → IsWithin (k * ((n + m) * e)) (a *ℤ pos n +ℤ b *ℤ pos m)
blend_within a b n m e k h j =
    let ha : IsWithin (k * ((n + m) * e)) (a *ℤ pos (n + m)) = one a h in
    weighted_within a b n m (k * ((n + m) * e)) ha (one b j)
  where
    one : (a : ℤ) → IsWithin (k * e) a → IsWithin (k * ((n + m) * e)) (a *ℤ pos (n + m))
    one a h = let p = mul-le-mul_right (n + m) h in omega (arith, unsigned_abs-mul a (pos (n + m)))

pub level-low_within : (a b : ℤ) (s u e k : ℕ) → 0 < s → 0 < e → u ≤ s → IsWithin (k * e) a → IsWithin (k * e) b → IsWithin k (floor_div (a *ℤ pos (s - u) +ℤ b *ℤ pos u) (s * e))
level-low_within a b s u e k p q le h j =
    let sum : s - u + u ≡ s = omega arith in
    floor_div_within _ (s * e) k (mul_pos s e p q) (subst (λ (t : ℕ). IsWithin (k * (t * e)) (a *ℤ pos (s - u) +ℤ b *ℤ pos u)) sum (blend_within a b (s - u) u e k h j))

pub level-high_within : (a b : ℤ) (s u e k : ℕ) → 0 < s → 0 < e → u ≤ s → IsWithin (k * e) a → IsWithin (k * e) b → IsWithin k (ceil_div (a *ℤ pos (s - u) +ℤ b *ℤ pos u) (s * e))
level-high_within a b s u e k p q le h j =
    let sum : s - u + u ≡ s = omega arith in
    ceil_div_within _ (s * e) k (mul_pos s e p q) (subst (λ (t : ℕ). IsWithin (k * (t * e)) (a *ℤ pos (s - u) +ℤ b *ℤ pos u)) sum (blend_within a b (s - u) u e k h j))

-- ---- enclosure

spread : (a b n m d : ℤ) → (a *ℤ n +ℤ b *ℤ m) *ℤ d ≡ a *ℤ d *ℤ n +ℤ b *ℤ d *ℤ m
spread a b n m d = ring (from (a ∷ b ∷ n ∷ m ∷ d ∷ [])) ((var 0 :* var 2 :+ var 1 :* var 3) :* var 4) (var 0 :* var 4 :* var 2 :+ var 1 :* var 4 :* var 3) refl

-- one level: what is below stays below
pub level-low : (a b x y : ℤ) (n m d e : ℕ) → 0 < d → (a *ℤ pos e) ≤ℤ x → (b *ℤ pos e) ≤ℤ y
    → (floor_div (a *ℤ pos n +ℤ b *ℤ pos m) d *ℤ pos (d * e)) ≤ℤ (x *ℤ pos n +ℤ y *ℤ pos m)
level-low a b x y n m d e p h k =
    let f = floor_div (a *ℤ pos n +ℤ b *ℤ pos m) d in
    let one = mul-le_right (f *ℤ pos d) (a *ℤ pos n +ℤ b *ℤ pos m) e (floor_div-le _ d p) in
    let two = blend-le (a *ℤ pos e) (b *ℤ pos e) x y n m h k in
    subst (λ (z : ℤ). z ≤ℤ (x *ℤ pos n +ℤ y *ℤ pos m)) (mul_assoc_ℤ f (pos d) (pos e))
    (le_trans_ℤ _ _ _ one (subst (λ (z : ℤ). z ≤ℤ (x *ℤ pos n +ℤ y *ℤ pos m)) (sym (spread a b (pos n) (pos m) (pos e))) two))

pub level-high : (a b x y : ℤ) (n m d e : ℕ) → 0 < d → x ≤ℤ (a *ℤ pos e) → y ≤ℤ (b *ℤ pos e)
    → (x *ℤ pos n +ℤ y *ℤ pos m) ≤ℤ (ceil_div (a *ℤ pos n +ℤ b *ℤ pos m) d *ℤ pos (d * e))
level-high a b x y n m d e p h k =
    let f = ceil_div (a *ℤ pos n +ℤ b *ℤ pos m) d in
    let one = mul-le_right (a *ℤ pos n +ℤ b *ℤ pos m) (f *ℤ pos d) e (ceil_div-ge _ d p) in
    let two = blend-le x y (a *ℤ pos e) (b *ℤ pos e) n m h k in
    subst (λ (z : ℤ). (x *ℤ pos n +ℤ y *ℤ pos m) ≤ℤ z) (mul_assoc_ℤ f (pos d) (pos e))
    (le_trans_ℤ _ _ _ (subst (λ (z : ℤ). (x *ℤ pos n +ℤ y *ℤ pos m) ≤ℤ z) (sym (spread a b (pos n) (pos m) (pos e))) two) one)

pub whole_low : (a : ℤ) → (a *ℤ pos 1) ≤ℤ a
whole_low a = omega (arith, ints)

pub whole_high : (a : ℤ) → a ≤ℤ (a *ℤ pos 1)
whole_high a = omega (arith, ints)

-- three levels
pub polar-low : (k : Four) (t u v w : ℕ) → 0 < t → (polar floor_div k t u v w *ℤ pos (place_denominator t)) ≤ℤ exact_polar k t u v w
polar-low k t u v w p =
    let d : 0 < t * 3000000 = omega arith in
    let c : 0 < t * 1 = omega arith in
    let a0 = level-low k.k0 k.k1 k.k0 k.k1 (t - u) u (t * 3000000) 1 d (whole_low k.k0) (whole_low k.k1) in
    let a1 = level-low k.k1 k.k2 k.k1 k.k2 (t - u) u (t * 3000000) 1 d (whole_low k.k1) (whole_low k.k2) in
    let a2 = level-low k.k2 k.k3 k.k2 k.k3 (t - u) u (t * 3000000) 1 d (whole_low k.k2) (whole_low k.k3) in
    let b0 = level-low _ _ _ _ (t - v) v (t * 1) (t * 3000000 * 1) c a0 a1 in
    let b1 = level-low _ _ _ _ (t - v) v (t * 1) (t * 3000000 * 1) c a1 a2 in
    let same : t * 1 * (t * 1 * (t * 3000000 * 1)) ≡ place_denominator t = omega arith in
    subst (λ (n : ℕ). (polar floor_div k t u v w *ℤ pos n) ≤ℤ exact_polar k t u v w) same
    (level-low _ _ _ _ (t - w) w (t * 1) (t * 1 * (t * 3000000 * 1)) c b0 b1)

pub polar-high : (k : Four) (t u v w : ℕ) → 0 < t → exact_polar k t u v w ≤ℤ (polar ceil_div k t u v w *ℤ pos (place_denominator t))
polar-high k t u v w p =
    let d : 0 < t * 3000000 = omega arith in
    let c : 0 < t * 1 = omega arith in
    let a0 = level-high k.k0 k.k1 k.k0 k.k1 (t - u) u (t * 3000000) 1 d (whole_high k.k0) (whole_high k.k1) in
    let a1 = level-high k.k1 k.k2 k.k1 k.k2 (t - u) u (t * 3000000) 1 d (whole_high k.k1) (whole_high k.k2) in
    let a2 = level-high k.k2 k.k3 k.k2 k.k3 (t - u) u (t * 3000000) 1 d (whole_high k.k2) (whole_high k.k3) in
    let b0 = level-high _ _ _ _ (t - v) v (t * 1) (t * 3000000 * 1) c a0 a1 in
    let b1 = level-high _ _ _ _ (t - v) v (t * 1) (t * 3000000 * 1) c a1 a2 in
    let same : t * 1 * (t * 1 * (t * 3000000 * 1)) ≡ place_denominator t = omega arith in
    subst (λ (n : ℕ). exact_polar k t u v w ≤ℤ (polar ceil_div k t u v w *ℤ pos n)) same
    (level-high _ _ _ _ (t - w) w (t * 1) (t * 1 * (t * 3000000 * 1)) c b0 b1)

-- at one tick the polar value is the curve's
pub exact_polar-same : (k : Four) (t s : ℕ) → exact_polar k t s s s ≡ place_numerator k t s
exact_polar-same k t s =
    ring (from (k.k0 ∷ k.k1 ∷ k.k2 ∷ k.k3 ∷ pos (t - s) ∷ pos s ∷ []))
    (let y = var 4 in let x = var 5 in
    ((var 0 :* y :+ var 1 :* x) :* y :+ (var 1 :* y :+ var 2 :* x) :* x) :* y :+ ((var 1 :* y :+ var 2 :* x) :* y :+ (var 2 :* y :+ var 3 :* x) :* x) :* x)
    (let y = var 4 in let x = var 5 in
    var 0 :* y :* y :* y :+ num (pos 3) :* var 1 :* y :* y :* x :+ num (pos 3) :* var 2 :* y :* x :* x :+ var 3 :* x :* x :* x)
    refl

-- ---- width

pub first-width : (a b : ℤ) (n m d : ℕ) → 0 < d → ceil_div (a *ℤ pos n +ℤ b *ℤ pos m) d ≤ℤ (floor_div (a *ℤ pos n +ℤ b *ℤ pos m) d +ℤ pos 1)
first-width a b n m d p =
    let z = a *ℤ pos n +ℤ b *ℤ pos m in
    ceil-le_floor z z d 0 p (same z d)
  where
    same : (z : ℤ) (d : ℕ) → z ≤ℤ (z +ℤ pos (0 * d))
    same z d = omega (arith, ints)

pub next-width : (a b x y : ℤ) (t u w : ℕ) → 0 < t → u ≤ t → x ≤ℤ (a +ℤ pos w) → y ≤ℤ (b +ℤ pos w)
    → ceil_div (x *ℤ pos (t - u) +ℤ y *ℤ pos u) (t * 1) ≤ℤ (floor_div (a *ℤ pos (t - u) +ℤ b *ℤ pos u) (t * 1) +ℤ pos (w + 1))
next-width a b x y t u w p q h k =
    let c : 0 < t * 1 = omega arith in
    let i = mul-le_right x (a +ℤ pos w) (t - u) h in
    let j = mul-le_right y (b +ℤ pos w) u k in
    ceil-le_floor _ _ (t * 1) w c (joined (a *ℤ pos (t - u)) (b *ℤ pos u) (x *ℤ pos (t - u)) (y *ℤ pos u) _ _ (t - u) u t w (omega arith) (add-mul_ℤ a (pos w) (pos (t - u))) (add-mul_ℤ b (pos w) (pos u)) i j)
  where
    joined : (a b x y s r : ℤ) (n m t w : ℕ) → n + m ≡ t → s ≡ a +ℤ pos (w * n) → r ≡ b +ℤ pos (w * m) → x ≤ℤ s → y ≤ℤ r → (x +ℤ y) ≤ℤ (a +ℤ b +ℤ pos (w * (t * 1)))
    joined a b x y s r n m t w e f g h k =
        let p : w * (n + m) ≡ w * t = ap (λ z. w * z) e in
        omega (arith, ints)

pub polar-width : (k : Four) (t u v w : ℕ) → 0 < t → v ≤ t → w ≤ t → polar ceil_div k t u v w ≤ℤ (polar floor_div k t u v w +ℤ pos 3)
polar-width k t u v w p q r =
    let d : 0 < t * 3000000 = omega arith in
    let a0 = first-width k.k0 k.k1 (t - u) u (t * 3000000) d in
    let a1 = first-width k.k1 k.k2 (t - u) u (t * 3000000) d in
    let a2 = first-width k.k2 k.k3 (t - u) u (t * 3000000) d in
    let b0 = next-width _ _ _ _ t v 1 p q a0 a1 in
    let b1 = next-width _ _ _ _ t v 1 p q a1 a2 in
    next-width _ _ _ _ t w 2 p r b0 b1
