-- Squares: a narrow span times itself stays narrow, and sums of squares.
use Rattle.std.proofs.Common.{◌≡◌, ℕ, ◌+◌, ◌-◌, ◌*◌, ◌<◌, ◌≤◌, ◌⊎◌, inl, inr, arith, refl, ap, subst, [], ◌∷◌}
use Rattle.std.proofs.Math.Nat.{mul-le-mul}
use Rattle.std.proofs.lemmas.Bool.{cases_lt}
use Rattle.std.proofs.lemmas.Int.{ints, clamps}
use Rattle.std.specs.Prelude.{ℤ, pos, negsuc, ◌+ℤ◌, ◌-ℤ◌, ◌*ℤ◌, ◌≤ℤ◌, unsigned_abs}
use Rattle.cj_interval.specs.Sizes.{IsWithin}
use Rattle.cj_interval.specs.Spans.{least, greatest}
use Rattle.cj_interval.proofs.RingLemmas.{ring, var, num, ◌:+◌, ◌:*◌, from}
use Rattle.cj_interval.proofs.MachineLemmas.{product_within}

-- the square of a number is that of its size
pub square_is : (c : ℤ) → c *ℤ c ≡ pos (unsigned_abs c * unsigned_abs c)
square_is (pos a) = refl
square_is (negsuc a) = refl

-- c and c + d, with d small: each product is nearly c * c
near_square : (c d : ℤ) (g : ℕ) → unsigned_abs c ≡ g → IsWithin 6 d
    → (pos (g * g) ≤ℤ (c *ℤ (c +ℤ d) +ℤ pos (12 * g))) × (pos (g * g) ≤ℤ ((c +ℤ d) *ℤ (c +ℤ d) +ℤ pos (12 * g)))
near_square c d g e small =
    let cd = product_within c d g 6 (omega arith) small in
    let sq = square_is c in
    let same = ap (λ (n : ℕ). n * n) e in
    let dd = square_is d in
    finish (c *ℤ c) (c *ℤ d) (d *ℤ d) (c *ℤ (c +ℤ d)) ((c +ℤ d) *ℤ (c +ℤ d)) g (unsigned_abs c * unsigned_abs c) (unsigned_abs d * unsigned_abs d) sq same dd cd (one c d) (two c d)
  where
    one : (c d : ℤ) → c *ℤ (c +ℤ d) ≡ c *ℤ c +ℤ c *ℤ d
    one c d = ring (from (c ∷ d ∷ [])) (var 0 :* (var 0 :+ var 1)) (var 0 :* var 0 :+ var 0 :* var 1) refl

    two : (c d : ℤ) → (c +ℤ d) *ℤ (c +ℤ d) ≡ c *ℤ c +ℤ pos 2 *ℤ (c *ℤ d) +ℤ d *ℤ d
    two c d = ring (from (c ∷ d ∷ [])) ((var 0 :+ var 1) :* (var 0 :+ var 1)) (var 0 :* var 0 :+ num (pos 2) :* (var 0 :* var 1) :+ var 1 :* var 1) refl

    finish : (cc cd dd x y : ℤ) (g n m : ℕ) → cc ≡ pos n → n ≡ g * g → dd ≡ pos m → IsWithin (g * 6) cd → x ≡ cc +ℤ cd → y ≡ cc +ℤ pos 2 *ℤ cd +ℤ dd
        → (pos (g * g) ≤ℤ (x +ℤ pos (12 * g))) × (pos (g * g) ≤ℤ (y +ℤ pos (12 * g)))
    finish cc cd dd x y g n m e1 e2 e3 h e4 e5 = (omega (arith, ints), omega (arith, ints))

-- the ends of a span of at most 6, times itself, are near the square of its greatest size g
pub record IsNarrow (l h : ℤ) (g : ℕ) : Type 0 where
  pub upper : greatest (l *ℤ l) (l *ℤ h) (h *ℤ l) (h *ℤ h) ≤ℤ pos (g * g)
  pub lower : pos (g * g) ≤ℤ (least (l *ℤ l) (l *ℤ h) (h *ℤ l) (h *ℤ h) +ℤ pos (12 * g))

least-above : (k a b c d : ℤ) (n : ℕ) → k ≤ℤ (a +ℤ pos n) → k ≤ℤ (b +ℤ pos n) → k ≤ℤ (c +ℤ pos n) → k ≤ℤ (d +ℤ pos n) → k ≤ℤ (least a b c d +ℤ pos n)
unfolding least
least-above k a b c d n p q r s = omega (arith, ints, clamps)

greatest-below : (k a b c d : ℤ) → a ≤ℤ k → b ≤ℤ k → c ≤ℤ k → d ≤ℤ k → greatest a b c d ≤ℤ k
unfolding greatest
greatest-below k a b c d p q r s = omega (arith, ints, clamps)

product_below : (a b : ℤ) (g : ℕ) → IsWithin g a → IsWithin g b → (a *ℤ b) ≤ℤ pos (g * g)
product_below a b g p q = let w = product_within a b g g p q in omega (arith, ints)

-- and each narrow span has such a bound
pub narrow : (l h : ℤ) → l ≤ℤ h → h ≤ℤ (l +ℤ pos 6) → (g : ℕ) × IsNarrow l h g
narrow l h p q = by_size (cases_lt (unsigned_abs l) (unsigned_abs h))
  where
    from_top : (l h : ℤ) → l ≤ℤ h → h ≤ℤ (l +ℤ pos 6) → unsigned_abs l ≤ unsigned_abs h → IsNarrow l h (unsigned_abs h)
    from_top l h p q r =
        let g = unsigned_abs h in
        let d = l -ℤ h in
        let small : IsWithin 6 d = omega (arith, ints) in
        let e : h +ℤ d ≡ l = omega (arith, ints) in
        let n = near_square h d g refl small in
        let n0 = subst (λ (z : ℤ). pos (g * g) ≤ℤ (h *ℤ z +ℤ pos (12 * g))) e n.0 in
        let n1 = subst (λ (z : ℤ). pos (g * g) ≤ℤ (z *ℤ z +ℤ pos (12 * g))) e n.1 in
        let s = square_is h in
        let n2 : pos (g * g) ≤ℤ (h *ℤ h +ℤ pos (12 * g)) = omega (arith, ints) in
        let n3 : pos (g * g) ≤ℤ (l *ℤ h +ℤ pos (12 * g)) = omega (arith, ints) in
        let gl : IsWithin g l = r in
        let gh : IsWithin g h = omega arith in
        record {
          upper = greatest-below _ _ _ _ _ (product_below l l g gl gl) (product_below l h g gl gh) (product_below h l g gh gl) (product_below h h g gh gh);
          lower = least-above _ _ _ _ _ _ n1 n3 n0 n2;
        }

    from_bottom : (l h : ℤ) → l ≤ℤ h → h ≤ℤ (l +ℤ pos 6) → unsigned_abs h ≤ unsigned_abs l → IsNarrow l h (unsigned_abs l)
    from_bottom l h p q r =
        let g = unsigned_abs l in
        let d = h -ℤ l in
        let small : IsWithin 6 d = omega (arith, ints) in
        let e : l +ℤ d ≡ h = omega (arith, ints) in
        let n = near_square l d g refl small in
        let n0 = subst (λ (z : ℤ). pos (g * g) ≤ℤ (l *ℤ z +ℤ pos (12 * g))) e n.0 in
        let n1 = subst (λ (z : ℤ). pos (g * g) ≤ℤ (z *ℤ z +ℤ pos (12 * g))) e n.1 in
        let s = square_is l in
        let n2 : pos (g * g) ≤ℤ (l *ℤ l +ℤ pos (12 * g)) = omega (arith, ints) in
        let n3 : pos (g * g) ≤ℤ (h *ℤ l +ℤ pos (12 * g)) = omega (arith, ints) in
        let gl : IsWithin g l = omega arith in
        let gh : IsWithin g h = r in
        record {
          upper = greatest-below _ _ _ _ _ (product_below l l g gl gl) (product_below l h g gl gh) (product_below h l g gh gl) (product_below h h g gh gh);
          lower = least-above _ _ _ _ _ _ n2 n0 n3 n1;
        }

    by_size : (unsigned_abs l < unsigned_abs h) ⊎ (unsigned_abs h ≤ unsigned_abs l) → (g : ℕ) × IsNarrow l h g
    by_size (inl r) = (unsigned_abs h, from_top l h p q (omega arith))
    by_size (inr r) = (unsigned_abs l, from_bottom l h p q r)

-- ---- sums of squares

amgm_add : (x e : ℕ) → 2 * (x * (x + e)) ≤ x * x + (x + e) * (x + e)
amgm_add x e = omega arith

amgm_add' : (t e : ℕ) → 2 * ((t + e) * t) ≤ (t + e) * (t + e) + t * t
amgm_add' t e = omega arith

-- twice a product is at most the sum of the squares
pub amgm : (x t : ℕ) → 2 * (x * t) ≤ x * x + t * t
amgm x t = by_order (cases_lt x t)
  where
    by_order : (x < t) ⊎ (t ≤ x) → 2 * (x * t) ≤ x * x + t * t
    by_order (inl l) = let e : x + (t - x) ≡ t = omega arith in subst (λ (k : ℕ). 2 * (x * k) ≤ x * x + k * k) e (amgm_add x (t - x))
    by_order (inr l) = let e : t + (x - t) ≡ x = omega arith in subst (λ (k : ℕ). 2 * (k * t) ≤ k * k + t * t) e (amgm_add' t (x - t))

-- the order of squares is the order of their roots
pub root-le : (a t : ℕ) → a * a ≤ t * t → a ≤ t
root-le a t h = by_order (cases_lt t a)
  where
    by_order : (t < a) ⊎ (a ≤ t) → a ≤ t
    by_order (inr l) = l
    by_order (inl l) =
        let p : (t + 1) * (t + 1) ≤ a * a = mul-le-mul (let q : t + 1 ≤ a = omega arith in q) (let q : t + 1 ≤ a = omega arith in q) in
        absurd (omega arith)
