-- What the gap of two hulls says of the distance at each tick.
use Rattle.std.proofs.Common.{◌≡◌, ◌⊎◌, inl, inr, ℕ, zero, suc, ◌+◌, ◌-◌, ◌*◌, ◌<◌, ◌≤◌, arith, refl, sym, ap, subst, ◌∙◌, [], ◌∷◌}
use Rattle.std.proofs.lemmas.Bool.{cases_lt}
use Rattle.std.proofs.lemmas.Int.{ints}
use Rattle.std.specs.Prelude.{ℤ, pos, ◌+ℤ◌, ◌-ℤ◌, ◌*ℤ◌, ◌≤ℤ◌, ◌<ℤ◌}
use Rattle.cj_interval.specs.Rounding.{floor_div, ceil_div}
use Rattle.cj_interval.specs.Spans.{IsIn, least, greatest}
use Rattle.cj_interval.proofs.RingLemmas.{ring, var, num, ◌:+◌, ◌:-◌, ◌:*◌, from}
use Rattle.cj_interval.proofs.IntegerLemmas.{mul-le_right, le_trans_ℤ}
use Rattle.cj_interval.proofs.RoundingLemmas.{scaled_product_of_spans}
use Rattle.cj_interval.proofs.SizeLemmas.{mul_pos}
use Rattle.cj_hermite.specs.Interpolant.{Four, Curve, IsOver, place_numerator, place_denominator}
use Rattle.cj_hermite.specs.Levels.{exact_polar, polar}
use Rattle.cj_hermite.proofs.DistanceLemmas.{apart_one}
use Rattle.cj_hermite.proofs.LevelLemmas.{polar-low, polar-high, exact_polar-same}
use Rattle.cj_hermite.proofs.CubicLemmas.{bernstein_ticks}
use Rattle.cj_hermite.specs.Distance.{offset, square_distance, square_bound}
use Rattle.cj_hermite.proofs.DistanceLemmas.{apart_one}
use Rattle.cj_bezier.specs.Hulls.{Ends, PlainHull, hull_ends, hull_axes}
use Rattle.cj_bezier.specs.Gaps.{value_at, coefficient, product_low, product_high, gap_low, gap_high, apart, apart_axes, hull_gap}
use Rattle.cj_bezier.specs.Verdicts.{choose6, share}
use Rattle.cj_bezier.proofs.SevenLemmas.{choose6-bounds}
use Rattle.cj_bezier.proofs.SexticLemmas.{sextic, weight, sextic-low, sextic-high, axis_square}

-- ---- products of scaled spans
pub product-low_scaled : (a b c d x y : ℤ) (r : ℕ) → IsIn (a *ℤ pos r) (b *ℤ pos r) x → IsIn (c *ℤ pos r) (d *ℤ pos r) y
    → (least (a *ℤ c) (a *ℤ d) (b *ℤ c) (b *ℤ d) *ℤ pos (r * r)) ≤ℤ (x *ℤ y)
product-low_scaled a b c d x y r p q = (scaled_product_of_spans a b c d x y r p q).low

pub product-high_scaled : (a b c d x y : ℤ) (r : ℕ) → IsIn (a *ℤ pos r) (b *ℤ pos r) x → IsIn (c *ℤ pos r) (d *ℤ pos r) y
    → (x *ℤ y) ≤ℤ (greatest (a *ℤ c) (a *ℤ d) (b *ℤ c) (b *ℤ d) *ℤ pos (r * r))
product-high_scaled a b c d x y r p q = (scaled_product_of_spans a b c d x y r p q).high

-- ---- coefficients: order, scale and sum
pub coefficient-le : (p q : ℕ → ℕ → ℤ) → ((i j : ℕ) → p i j ≤ℤ q i j) → (k : ℕ) → coefficient p k ≤ℤ coefficient q k
coefficient-le p q h zero = h 0 0
coefficient-le p q h (suc zero) = omega (arith, ints, h 0 1, h 1 0)
coefficient-le p q h (suc (suc zero)) = omega (arith, ints, h 0 2, h 1 1, h 2 0)
coefficient-le p q h (suc (suc (suc zero))) = omega (arith, ints, h 0 3, h 1 2, h 2 1, h 3 0)
coefficient-le p q h (suc (suc (suc (suc zero)))) = omega (arith, ints, h 1 3, h 2 2, h 3 1)
coefficient-le p q h (suc (suc (suc (suc (suc zero))))) = omega (arith, ints, h 2 3, h 3 2)
coefficient-le p q h (suc (suc (suc (suc (suc (suc n)))))) = h 3 3

pub coefficient-scale : (p : ℕ → ℕ → ℤ) (r : ℤ) (k : ℕ) → coefficient p k *ℤ r ≡ coefficient (λ i j. p i j *ℤ r) k
coefficient-scale p r zero = refl
coefficient-scale p r (suc zero) = ring (from (r ∷ p 0 1 ∷ p 1 0 ∷ [])) ((num (pos 3) :* var 1 :+ num (pos 3) :* var 2) :* var 0) (num (pos 3) :* (var 1 :* var 0) :+ num (pos 3) :* (var 2 :* var 0)) refl
coefficient-scale p r (suc (suc zero)) = ring (from (r ∷ p 0 2 ∷ p 1 1 ∷ p 2 0 ∷ [])) ((num (pos 3) :* var 1 :+ num (pos 9) :* var 2 :+ num (pos 3) :* var 3) :* var 0) (num (pos 3) :* (var 1 :* var 0) :+ num (pos 9) :* (var 2 :* var 0) :+ num (pos 3) :* (var 3 :* var 0)) refl
coefficient-scale p r (suc (suc (suc zero))) = ring (from (r ∷ p 0 3 ∷ p 1 2 ∷ p 2 1 ∷ p 3 0 ∷ [])) ((var 1 :+ num (pos 9) :* var 2 :+ num (pos 9) :* var 3 :+ var 4) :* var 0) (var 1 :* var 0 :+ num (pos 9) :* (var 2 :* var 0) :+ num (pos 9) :* (var 3 :* var 0) :+ var 4 :* var 0) refl
coefficient-scale p r (suc (suc (suc (suc zero)))) = ring (from (r ∷ p 1 3 ∷ p 2 2 ∷ p 3 1 ∷ [])) ((num (pos 3) :* var 1 :+ num (pos 9) :* var 2 :+ num (pos 3) :* var 3) :* var 0) (num (pos 3) :* (var 1 :* var 0) :+ num (pos 9) :* (var 2 :* var 0) :+ num (pos 3) :* (var 3 :* var 0)) refl
coefficient-scale p r (suc (suc (suc (suc (suc zero))))) = ring (from (r ∷ p 2 3 ∷ p 3 2 ∷ [])) ((num (pos 3) :* var 1 :+ num (pos 3) :* var 2) :* var 0) (num (pos 3) :* (var 1 :* var 0) :+ num (pos 3) :* (var 2 :* var 0)) refl
coefficient-scale p r (suc (suc (suc (suc (suc (suc n)))))) = refl

pub coefficient-add : (p q : ℕ → ℕ → ℤ) (k : ℕ) → coefficient (λ i j. p i j +ℤ q i j) k ≡ coefficient p k +ℤ coefficient q k
coefficient-add p q zero = refl
coefficient-add p q (suc zero) = ring (from (p 0 1 ∷ p 1 0 ∷ q 0 1 ∷ q 1 0 ∷ [])) (num (pos 3) :* (var 0 :+ var 2) :+ num (pos 3) :* (var 1 :+ var 3)) (num (pos 3) :* var 0 :+ num (pos 3) :* var 1 :+ (num (pos 3) :* var 2 :+ num (pos 3) :* var 3)) refl
coefficient-add p q (suc (suc zero)) = ring (from (p 0 2 ∷ p 1 1 ∷ p 2 0 ∷ q 0 2 ∷ q 1 1 ∷ q 2 0 ∷ []))
    (num (pos 3) :* (var 0 :+ var 3) :+ num (pos 9) :* (var 1 :+ var 4) :+ num (pos 3) :* (var 2 :+ var 5)) (num (pos 3) :* var 0 :+ num (pos 9) :* var 1 :+ num (pos 3) :* var 2 :+ (num (pos 3) :* var 3 :+ num (pos 9) :* var 4 :+ num (pos 3) :* var 5)) refl
coefficient-add p q (suc (suc (suc zero))) = ring (from (p 0 3 ∷ p 1 2 ∷ p 2 1 ∷ p 3 0 ∷ q 0 3 ∷ q 1 2 ∷ q 2 1 ∷ q 3 0 ∷ []))
    ((var 0 :+ var 4) :+ num (pos 9) :* (var 1 :+ var 5) :+ num (pos 9) :* (var 2 :+ var 6) :+ (var 3 :+ var 7)) (var 0 :+ num (pos 9) :* var 1 :+ num (pos 9) :* var 2 :+ var 3 :+ (var 4 :+ num (pos 9) :* var 5 :+ num (pos 9) :* var 6 :+ var 7)) refl
coefficient-add p q (suc (suc (suc (suc zero)))) = ring (from (p 1 3 ∷ p 2 2 ∷ p 3 1 ∷ q 1 3 ∷ q 2 2 ∷ q 3 1 ∷ []))
    (num (pos 3) :* (var 0 :+ var 3) :+ num (pos 9) :* (var 1 :+ var 4) :+ num (pos 3) :* (var 2 :+ var 5)) (num (pos 3) :* var 0 :+ num (pos 9) :* var 1 :+ num (pos 3) :* var 2 :+ (num (pos 3) :* var 3 :+ num (pos 9) :* var 4 :+ num (pos 3) :* var 5)) refl
coefficient-add p q (suc (suc (suc (suc (suc zero))))) = ring (from (p 2 3 ∷ p 3 2 ∷ q 2 3 ∷ q 3 2 ∷ [])) (num (pos 3) :* (var 0 :+ var 2) :+ num (pos 3) :* (var 1 :+ var 3)) (num (pos 3) :* var 0 :+ num (pos 3) :* var 1 :+ (num (pos 3) :* var 2 :+ num (pos 3) :* var 3)) refl
coefficient-add p q (suc (suc (suc (suc (suc (suc n)))))) = refl

adds : (w0 w1 w2 w3 w4 w5 w6 c0 c1 c2 c3 c4 c5 c6 d0 d1 d2 d3 d4 d5 d6 : ℤ)
    → w0 *ℤ (c0 +ℤ d0) +ℤ w1 *ℤ (c1 +ℤ d1) +ℤ w2 *ℤ (c2 +ℤ d2) +ℤ w3 *ℤ (c3 +ℤ d3) +ℤ w4 *ℤ (c4 +ℤ d4) +ℤ w5 *ℤ (c5 +ℤ d5) +ℤ w6 *ℤ (c6 +ℤ d6)
    ≡ (w0 *ℤ c0 +ℤ w1 *ℤ c1 +ℤ w2 *ℤ c2 +ℤ w3 *ℤ c3 +ℤ w4 *ℤ c4 +ℤ w5 *ℤ c5 +ℤ w6 *ℤ c6) +ℤ (w0 *ℤ d0 +ℤ w1 *ℤ d1 +ℤ w2 *ℤ d2 +ℤ w3 *ℤ d3 +ℤ w4 *ℤ d4 +ℤ w5 *ℤ d5 +ℤ w6 *ℤ d6)
adds w0 w1 w2 w3 w4 w5 w6 c0 c1 c2 c3 c4 c5 c6 d0 d1 d2 d3 d4 d5 d6 =
    ring (from (w0 ∷ w1 ∷ w2 ∷ w3 ∷ w4 ∷ w5 ∷ w6 ∷ c0 ∷ c1 ∷ c2 ∷ c3 ∷ c4 ∷ c5 ∷ c6 ∷ d0 ∷ d1 ∷ d2 ∷ d3 ∷ d4 ∷ d5 ∷ d6 ∷ []))
    (var 0 :* (var 7 :+ var 14) :+ var 1 :* (var 8 :+ var 15) :+ var 2 :* (var 9 :+ var 16) :+ var 3 :* (var 10 :+ var 17) :+ var 4 :* (var 11 :+ var 18) :+ var 5 :* (var 12 :+ var 19) :+ var 6 :* (var 13 :+ var 20))
    (var 0 :* var 7 :+ var 1 :* var 8 :+ var 2 :* var 9 :+ var 3 :* var 10 :+ var 4 :* var 11 :+ var 5 :* var 12 :+ var 6 :* var 13 :+ (var 0 :* var 14 :+ var 1 :* var 15 :+ var 2 :* var 16 :+ var 3 :* var 17 :+ var 4 :* var 18 :+ var 5 :* var 19 :+ var 6 :* var 20))
    refl

pub sextic-add : (i j : ℕ) (c d : ℕ → ℤ) → sextic i j (λ k. c k +ℤ d k) ≡ sextic i j c +ℤ sextic i j d
sextic-add i j c d =
    adds (pos (weight i j 0)) (pos (weight i j 1)) (pos (weight i j 2)) (pos (weight i j 3)) (pos (weight i j 4)) (pos (weight i j 5)) (pos (weight i j 6)) (c 0) (c 1) (c 2) (c 3) (c 4) (c 5) (c 6) (d 0) (d 1) (d 2) (d 3) (d 4) (d 5) (d 6)

-- ---- three axes
-- the exact products of the differences
abbrev pub exact_products : Four → Four → Four → ℕ → ℕ → ℤ
exact_products x y z i j = value_at x i *ℤ value_at x j +ℤ value_at y i *ℤ value_at y j +ℤ value_at z i *ℤ value_at z j

-- i and j are weights, v the axis's exact difference, d its polar differences
pub record IsCubic (i j : ℕ) (d : Four) (v : ℤ) : Type 0 where
  pub cubic : (pos i +ℤ pos j) *ℤ (pos i +ℤ pos j) *ℤ (pos i +ℤ pos j) *ℤ v ≡ pos j *ℤ pos j *ℤ pos j *ℤ d.k0 +ℤ pos 3 *ℤ pos i *ℤ pos j *ℤ pos j *ℤ d.k1 +ℤ pos 3 *ℤ pos i *ℤ pos i *ℤ pos j *ℤ d.k2 +ℤ pos i *ℤ pos i *ℤ pos i *ℤ d.k3

abbrev pub squares : ℤ → ℤ → ℤ → ℤ
squares a b c = a *ℤ a +ℤ b *ℤ b +ℤ c *ℤ c

sum_squares : (a b c w : ℤ) → a *ℤ a *ℤ w +ℤ b *ℤ b *ℤ w +ℤ c *ℤ c *ℤ w ≡ squares a b c *ℤ w
sum_squares a b c w = ring (from (a ∷ b ∷ c ∷ w ∷ [])) (var 0 :* var 0 :* var 3 :+ var 1 :* var 1 :* var 3 :+ var 2 :* var 2 :* var 3) ((var 0 :* var 0 :+ var 1 :* var 1 :+ var 2 :* var 2) :* var 3) refl

pub sextic_of_axes : (i j : ℕ) (x y z : Four) (a b c : ℤ) → IsCubic i j x a → IsCubic i j y b → IsCubic i j z c
    → sextic i j (coefficient (exact_products x y z)) ≡ squares a b c *ℤ pos ((i + j) * (i + j) * (i + j) * (i + j) * (i + j) * (i + j))
sextic_of_axes i j x y z a b c p q r =
    let sq = λ (d : Four) (m n : ℕ). value_at d m *ℤ value_at d n in
    let xy = λ (m n : ℕ). sq x m n +ℤ sq y m n in
    let split : (k : ℕ) → coefficient (exact_products x y z) k ≡ (coefficient (sq x) k +ℤ coefficient (sq y) k) +ℤ coefficient (sq z) k =
    λ k. coefficient-add xy (sq z) k ∙ ap (λ t. t +ℤ coefficient (sq z) k) (coefficient-add (sq x) (sq y) k) in
    let w = (i + j) * (i + j) * (i + j) * (i + j) * (i + j) * (i + j) in
    same_sextic i j (coefficient (exact_products x y z)) (λ k. (coefficient (sq x) k +ℤ coefficient (sq y) k) +ℤ coefficient (sq z) k) split
    ∙ sextic-add i j (λ k. coefficient (sq x) k +ℤ coefficient (sq y) k) (coefficient (sq z))
    ∙ ap (λ t. t +ℤ sextic i j (coefficient (sq z))) (sextic-add i j (coefficient (sq x)) (coefficient (sq y)))
    ∙ ap (λ t. t +ℤ sextic i j (coefficient (sq y)) +ℤ sextic i j (coefficient (sq z))) (axis_square x i j a p.cubic)
    ∙ ap (λ t. a *ℤ a *ℤ pos w +ℤ t +ℤ sextic i j (coefficient (sq z))) (axis_square y i j b q.cubic)
    ∙ ap (λ t. a *ℤ a *ℤ pos w +ℤ b *ℤ b *ℤ pos w +ℤ t) (axis_square z i j c r.cubic)
    ∙ sum_squares a b c (pos w)
  where
    same_sextic : (i j : ℕ) (c d : ℕ → ℤ) → ((k : ℕ) → c k ≡ d k) → sextic i j c ≡ sextic i j d
    same_sextic i j c d h = ap (λ (f : ℕ → ℤ). sextic i j f) (λ t k. h k t)

-- the spans e, r times, hold the exact differences d
unfoldable pub HoldsFour : ℕ → Ends → Four → Type 0
HoldsFour r e d = (n : ℕ) → IsIn (value_at e.low n *ℤ pos r) (value_at e.high n *ℤ pos r) (value_at d n)

three-le : (a b c p q s : ℤ) → a ≤ℤ p → b ≤ℤ q → c ≤ℤ s → (a +ℤ b +ℤ c) ≤ℤ (p +ℤ q +ℤ s)
three-le a b c p q s h k l = omega (arith, ints)

spread3 : (a b c r : ℤ) → (a +ℤ b +ℤ c) *ℤ r ≡ a *ℤ r +ℤ b *ℤ r +ℤ c *ℤ r
spread3 a b c r = ring (from (a ∷ b ∷ c ∷ r ∷ [])) ((var 0 :+ var 1 :+ var 2) :* var 3) (var 0 :* var 3 :+ var 1 :* var 3 :+ var 2 :* var 3) refl

-- each coefficient of the gap encloses the exact one
pub gap-low_holds : (r : ℕ) (g : PlainHull) (x y z : Four) → HoldsFour r g.x x → HoldsFour r g.y y → HoldsFour r g.z z → (k : ℕ) → (gap_low g k *ℤ pos (r * r)) ≤ℤ coefficient (exact_products x y z) k
unfolding HoldsFour
gap-low_holds r g x y z p q s k =
    let low = λ (i j : ℕ). product_low g.x i j +ℤ product_low g.y i j +ℤ product_low g.z i j in
    let each : (i j : ℕ) → (low i j *ℤ pos (r * r)) ≤ℤ exact_products x y z i j = λ i j.
    subst (λ (t : ℤ). t ≤ℤ exact_products x y z i j) (sym (spread3 (product_low g.x i j) (product_low g.y i j) (product_low g.z i j) (pos (r * r))))
    (three-le _ _ _ _ _ _ (product-low_scaled _ _ _ _ _ _ r (p i) (p j)) (product-low_scaled _ _ _ _ _ _ r (q i) (q j)) (product-low_scaled _ _ _ _ _ _ r (s i) (s j))) in
    subst (λ (t : ℤ). t ≤ℤ coefficient (exact_products x y z) k) (sym (coefficient-scale low (pos (r * r)) k))
    (coefficient-le (λ i j. low i j *ℤ pos (r * r)) (exact_products x y z) each k)

pub gap-high_holds : (r : ℕ) (g : PlainHull) (x y z : Four) → HoldsFour r g.x x → HoldsFour r g.y y → HoldsFour r g.z z → (k : ℕ) → coefficient (exact_products x y z) k ≤ℤ (gap_high g k *ℤ pos (r * r))
unfolding HoldsFour
gap-high_holds r g x y z p q s k =
    let high = λ (i j : ℕ). product_high g.x i j +ℤ product_high g.y i j +ℤ product_high g.z i j in
    let each : (i j : ℕ) → exact_products x y z i j ≤ℤ (high i j *ℤ pos (r * r)) = λ i j.
    subst (λ (t : ℤ). exact_products x y z i j ≤ℤ t) (sym (spread3 (product_high g.x i j) (product_high g.y i j) (product_high g.z i j) (pos (r * r))))
    (three-le _ _ _ _ _ _ (product-high_scaled _ _ _ _ _ _ r (p i) (p j)) (product-high_scaled _ _ _ _ _ _ r (q i) (q j)) (product-high_scaled _ _ _ _ _ _ r (s i) (s j))) in
    subst (λ (t : ℤ). coefficient (exact_products x y z) k ≤ℤ t) (sym (coefficient-scale high (pos (r * r)) k))
    (coefficient-le (exact_products x y z) (λ i j. high i j *ℤ pos (r * r)) each k)

-- ---- what a supported verdict says
-- each lower end of a gap exceeds C(6,k) e²
abbrev pub LowsAbove : PlainHull → ℕ → Type 0
LowsAbove g e = (k : ℕ) → share e k <ℤ gap_low g k

-- each lower end is at least C(6,k) e²
abbrev pub LowsAtLeast : PlainHull → ℕ → Type 0
LowsAtLeast g e = (k : ℕ) → share e k ≤ℤ gap_low g k

-- each upper end is at most C(6,k) e²
abbrev pub HighsAtMost : PlainHull → ℕ → Type 0
HighsAtMost g e = (k : ℕ) → gap_high g k ≤ℤ share e k

-- a gap g, r times, round the exact differences of three axes, whose cubics have the values a, b and c at one tick
pub record IsGapAt (r : ℕ) (g : PlainHull) (a b c : ℤ) : Type 0 where
  pub i : ℕ
  pub j : ℕ
  pub x : Four
  pub y : Four
  pub z : Four
  pub some : 0 < i + j
  pub holds_x : HoldsFour r g.x x
  pub holds_y : HoldsFour r g.y y
  pub holds_z : HoldsFour r g.z z
  pub cubic_x : IsCubic i j x a
  pub cubic_y : IsCubic i j y b
  pub cubic_z : IsCubic i j z c

pub above_of_gap : (r e : ℕ) (g : PlainHull) (a b c : ℤ) → 20 ≤ r * r → IsGapAt r g a b c → LowsAbove g e → pos (e * e * (r * r)) <ℤ squares a b c
above_of_gap r e g a b c large s far =
    let m = pos (e * e * (r * r) + 1) in
    let exact = coefficient (exact_products s.x s.y s.z) in
    let each : (k : ℕ) → (pos (choose6 k) *ℤ m) ≤ℤ exact k = λ k.
    le_trans_ℤ _ _ _ (step (choose6 k) (e * e) (r * r) (gap_low g k) (choose6-bounds k).1 large (far k)) (gap-low_holds r g s.x s.y s.z s.holds_x s.holds_y s.holds_z k) in
    let all = sextic-low s.i s.j exact m (squares a b c) s.some (sextic_of_axes s.i s.j s.x s.y s.z a b c s.cubic_x s.cubic_y s.cubic_z) each in
    omega (arith, ints, all)
  where
    step : (k t q : ℕ) (g : ℤ) → k ≤ 20 → 20 ≤ q → pos (k * t) <ℤ g → (pos k *ℤ pos (t * q + 1)) ≤ℤ (g *ℤ pos q)
    step k t q g small large h =
        let more : pos (k * t + 1) ≤ℤ g = omega (arith, ints) in
        let times = mul-le_right (pos (k * t + 1)) g q more in
        let fits : k * (t * q + 1) ≤ (k * t + 1) * q = omega arith in
        le_trans_ℤ _ _ _ (let o : pos (k * (t * q + 1)) ≤ℤ pos ((k * t + 1) * q) = omega (arith, ints) in o) times

pub at_least_of_gap : (r n : ℕ) (g : PlainHull) (a b c : ℤ) → IsGapAt r g a b c → ((k : ℕ) → pos (choose6 k * n) ≤ℤ gap_low g k)
    → pos (n * (r * r)) ≤ℤ squares a b c
at_least_of_gap r n g a b c s low =
    let m = pos (n * (r * r)) in
    let exact = coefficient (exact_products s.x s.y s.z) in
    let each : (k : ℕ) → (pos (choose6 k) *ℤ m) ≤ℤ exact k = λ k.
    le_trans_ℤ _ _ _ (step (choose6 k) n (r * r) (gap_low g k) (low k)) (gap-low_holds r g s.x s.y s.z s.holds_x s.holds_y s.holds_z k) in
    sextic-low s.i s.j exact m (squares a b c) s.some (sextic_of_axes s.i s.j s.x s.y s.z a b c s.cubic_x s.cubic_y s.cubic_z) each
  where
    step : (k t q : ℕ) (g : ℤ) → pos (k * t) ≤ℤ g → (pos k *ℤ pos (t * q)) ≤ℤ (g *ℤ pos q)
    step k t q g h =
        let times = mul-le_right (pos (k * t)) g q h in
        let same : k * t * q ≡ k * (t * q) = omega arith in
        subst (λ (n : ℕ). pos n ≤ℤ (g *ℤ pos q)) same times

pub at_most_of_gap : (r n : ℕ) (g : PlainHull) (a b c : ℤ) → IsGapAt r g a b c → ((k : ℕ) → gap_high g k ≤ℤ pos (choose6 k * n))
    → squares a b c ≤ℤ pos (n * (r * r))
at_most_of_gap r n g a b c s high =
    let m = pos (n * (r * r)) in
    let exact = coefficient (exact_products s.x s.y s.z) in
    let each : (k : ℕ) → exact k ≤ℤ (pos (choose6 k) *ℤ m) = λ k.
    le_trans_ℤ _ _ _ (gap-high_holds r g s.x s.y s.z s.holds_x s.holds_y s.holds_z k) (step (choose6 k) n (r * r) (gap_high g k) (high k)) in
    sextic-high s.i s.j exact m (squares a b c) s.some (sextic_of_axes s.i s.j s.x s.y s.z a b c s.cubic_x s.cubic_y s.cubic_z) each
  where
    step : (k t q : ℕ) (g : ℤ) → g ≤ℤ pos (k * t) → (g *ℤ pos q) ≤ℤ (pos k *ℤ pos (t * q))
    step k t q g h =
        let times = mul-le_right g (pos (k * t)) q h in
        let same : k * t * q ≡ k * (t * q) = omega arith in
        subst (λ (n : ℕ). (g *ℤ pos q) ≤ℤ pos n) same times

-- ---- two curves
abbrev pub polar_four : Four → ℕ → ℕ → ℕ → Four
polar_four k t a b = record { k0 = exact_polar k t a a a; k1 = exact_polar k t a a b; k2 = exact_polar k t a b b; k3 = exact_polar k t b b b }

abbrev difference : ℕ → Four → ℕ → Four → Four
difference q p q' p' = record {
  k0 = pos q' *ℤ p.k0 -ℤ pos q *ℤ p'.k0;
  k1 = pos q' *ℤ p.k1 -ℤ pos q *ℤ p'.k1;
  k2 = pos q' *ℤ p.k2 -ℤ pos q *ℤ p'.k2;
  k3 = pos q' *ℤ p.k3 -ℤ pos q *ℤ p'.k3;
}

holds_axis : (k k' : Four) (t t' a b a' b' : ℕ) → 0 < t → 0 < t'
    → HoldsFour (place_denominator t * place_denominator t') (apart (hull_ends k t a b) (hull_ends k' t' a' b')) (difference (place_denominator t) (polar_four k t a b) (place_denominator t') (polar_four k' t' a' b'))
unfolding HoldsFour
holds_axis k k' t t' a b a' b' p p' n = pick n
  where
    one : (u v w u' v' w' : ℕ) → IsIn ((polar floor_div k t u v w -ℤ polar ceil_div k' t' u' v' w') *ℤ pos (place_denominator t * place_denominator t')) ((polar ceil_div k t u v w -ℤ polar floor_div k' t' u' v' w') *ℤ pos (place_denominator t * place_denominator t')) (pos (place_denominator t') *ℤ exact_polar k t u v w -ℤ pos (place_denominator t) *ℤ exact_polar k' t' u' v' w')
    one u v w u' v' w' = apart_one _ _ _ _ _ _ (place_denominator t) (place_denominator t')
        (record { low = polar-low k t u v w p; high = polar-high k t u v w p }) (record { low = polar-low k' t' u' v' w' p'; high = polar-high k' t' u' v' w' p' })

    pick : (n : ℕ) → IsIn (value_at (apart (hull_ends k t a b) (hull_ends k' t' a' b')).low n *ℤ pos (place_denominator t * place_denominator t')) (value_at (apart (hull_ends k t a b) (hull_ends k' t' a' b')).high n *ℤ pos (place_denominator t * place_denominator t')) (value_at (difference (place_denominator t) (polar_four k t a b) (place_denominator t') (polar_four k' t' a' b')) n)
    pick zero = one a a a a' a' a'
    pick (suc zero) = one a a b a' a' b'
    pick (suc (suc zero)) = one a b b a' b' b'
    pick (suc (suc (suc n))) = one b b b b' b' b'

moved : (k : Four) (t x n y i j : ℕ) → n - x ≡ i → y - n ≡ j → y - x ≡ i + j
    → (let w = pos (y - x) in let L = exact_polar k t in
    w *ℤ w *ℤ w *ℤ L n n n ≡ pos (y - n) *ℤ pos (y - n) *ℤ pos (y - n) *ℤ L x x x +ℤ pos 3 *ℤ pos (n - x) *ℤ pos (y - n) *ℤ pos (y - n) *ℤ L x x y +ℤ pos 3 *ℤ pos (n - x) *ℤ pos (n - x) *ℤ pos (y - n) *ℤ L x y y +ℤ pos (n - x) *ℤ pos (n - x) *ℤ pos (n - x) *ℤ L y y y)
    → (let L = exact_polar k t in
    (pos i +ℤ pos j) *ℤ (pos i +ℤ pos j) *ℤ (pos i +ℤ pos j) *ℤ place_numerator k t n ≡ pos j *ℤ pos j *ℤ pos j *ℤ L x x x +ℤ pos 3 *ℤ pos i *ℤ pos j *ℤ pos j *ℤ L x x y +ℤ pos 3 *ℤ pos i *ℤ pos i *ℤ pos j *ℤ L x y y +ℤ pos i *ℤ pos i *ℤ pos i *ℤ L y y y)
moved k t x n y i j ei ej ew e =
    let L = exact_polar k t in
    let right = λ (u v : ℕ). pos v *ℤ pos v *ℤ pos v *ℤ L x x x +ℤ pos 3 *ℤ pos u *ℤ pos v *ℤ pos v *ℤ L x x y +ℤ pos 3 *ℤ pos u *ℤ pos u *ℤ pos v *ℤ L x y y +ℤ pos u *ℤ pos u *ℤ pos u *ℤ L y y y in
    ap (λ z. pos (i + j) *ℤ pos (i + j) *ℤ pos (i + j) *ℤ z) (sym (exact_polar-same k t n))
    ∙ ap (λ (w : ℕ). pos w *ℤ pos w *ℤ pos w *ℤ L n n n) (sym ew)
    ∙ e
    ∙ ap (λ (u : ℕ). right u (y - n)) ei
    ∙ ap (λ (v : ℕ). right i v) ej

pub at_tick : (k : Four) (s t first m last : ℕ) → first ≤ m → m ≤ last → s ≤ first → last ≤ s + t
    → let i = pos (m - first) in let j = pos (last - m) in let L = exact_polar k t in let x = first - s in let y = last - s in
    (i +ℤ j) *ℤ (i +ℤ j) *ℤ (i +ℤ j) *ℤ place_numerator k t (m - s) ≡ j *ℤ j *ℤ j *ℤ L x x x +ℤ pos 3 *ℤ i *ℤ j *ℤ j *ℤ L x x y +ℤ pos 3 *ℤ i *ℤ i *ℤ j *ℤ L x y y +ℤ i *ℤ i *ℤ i *ℤ L y y y
at_tick k s t first m last p q a b =
    let e = bernstein_ticks k t (first - s) (m - s) (last - s) (omega arith) (omega arith) (omega arith) in
    let ei : m - s - (first - s) ≡ m - first = omega arith in
    let ej : last - s - (m - s) ≡ last - m = omega arith in
    let ew : last - s - (first - s) ≡ m - first + (last - m) = omega arith in
    moved k t (first - s) (m - s) (last - s) (m - first) (last - m) ei ej ew e

front : (w q q' n n' : ℤ) → w *ℤ w *ℤ w *ℤ (q' *ℤ n -ℤ q *ℤ n') ≡ q' *ℤ (w *ℤ w *ℤ w *ℤ n) -ℤ q *ℤ (w *ℤ w *ℤ w *ℤ n')
front w q q' n n' = ring (from (w ∷ q ∷ q' ∷ n ∷ n' ∷ [])) (var 0 :* var 0 :* var 0 :* (var 2 :* var 3 :- var 1 :* var 4)) (var 2 :* (var 0 :* var 0 :* var 0 :* var 3) :- var 1 :* (var 0 :* var 0 :* var 0 :* var 4)) refl

back_ : (i j q q' p0 p1 p2 p3 r0 r1 r2 r3 : ℤ)
    → q' *ℤ (j *ℤ j *ℤ j *ℤ p0 +ℤ pos 3 *ℤ i *ℤ j *ℤ j *ℤ p1 +ℤ pos 3 *ℤ i *ℤ i *ℤ j *ℤ p2 +ℤ i *ℤ i *ℤ i *ℤ p3) -ℤ q *ℤ (j *ℤ j *ℤ j *ℤ r0 +ℤ pos 3 *ℤ i *ℤ j *ℤ j *ℤ r1 +ℤ pos 3 *ℤ i *ℤ i *ℤ j *ℤ r2 +ℤ i *ℤ i *ℤ i *ℤ r3)
    ≡ j *ℤ j *ℤ j *ℤ (q' *ℤ p0 -ℤ q *ℤ r0) +ℤ pos 3 *ℤ i *ℤ j *ℤ j *ℤ (q' *ℤ p1 -ℤ q *ℤ r1) +ℤ pos 3 *ℤ i *ℤ i *ℤ j *ℤ (q' *ℤ p2 -ℤ q *ℤ r2) +ℤ i *ℤ i *ℤ i *ℤ (q' *ℤ p3 -ℤ q *ℤ r3)
back_ i j q q' p0 p1 p2 p3 r0 r1 r2 r3 =
    ring (from (i ∷ j ∷ q ∷ q' ∷ p0 ∷ p1 ∷ p2 ∷ p3 ∷ r0 ∷ r1 ∷ r2 ∷ r3 ∷ []))
    (let I = var 0 in let J = var 1 in let n3 = num (pos 3) in
    var 3 :* (J :* J :* J :* var 4 :+ n3 :* I :* J :* J :* var 5 :+ n3 :* I :* I :* J :* var 6 :+ I :* I :* I :* var 7) :- var 2 :* (J :* J :* J :* var 8 :+ n3 :* I :* J :* J :* var 9 :+ n3 :* I :* I :* J :* var 10 :+ I :* I :* I :* var 11))
    (let I = var 0 in let J = var 1 in let n3 = num (pos 3) in
    J :* J :* J :* (var 3 :* var 4 :- var 2 :* var 8) :+ n3 :* I :* J :* J :* (var 3 :* var 5 :- var 2 :* var 9) :+ n3 :* I :* I :* J :* (var 3 :* var 6 :- var 2 :* var 10) :+ I :* I :* I :* (var 3 :* var 7 :- var 2 :* var 11))
    refl

joined : (i j q q' n n' p0 p1 p2 p3 r0 r1 r2 r3 : ℤ)
    → (i +ℤ j) *ℤ (i +ℤ j) *ℤ (i +ℤ j) *ℤ n ≡ j *ℤ j *ℤ j *ℤ p0 +ℤ pos 3 *ℤ i *ℤ j *ℤ j *ℤ p1 +ℤ pos 3 *ℤ i *ℤ i *ℤ j *ℤ p2 +ℤ i *ℤ i *ℤ i *ℤ p3
    → (i +ℤ j) *ℤ (i +ℤ j) *ℤ (i +ℤ j) *ℤ n' ≡ j *ℤ j *ℤ j *ℤ r0 +ℤ pos 3 *ℤ i *ℤ j *ℤ j *ℤ r1 +ℤ pos 3 *ℤ i *ℤ i *ℤ j *ℤ r2 +ℤ i *ℤ i *ℤ i *ℤ r3
    → (i +ℤ j) *ℤ (i +ℤ j) *ℤ (i +ℤ j) *ℤ (q' *ℤ n -ℤ q *ℤ n')
    ≡ j *ℤ j *ℤ j *ℤ (q' *ℤ p0 -ℤ q *ℤ r0) +ℤ pos 3 *ℤ i *ℤ j *ℤ j *ℤ (q' *ℤ p1 -ℤ q *ℤ r1) +ℤ pos 3 *ℤ i *ℤ i *ℤ j *ℤ (q' *ℤ p2 -ℤ q *ℤ r2) +ℤ i *ℤ i *ℤ i *ℤ (q' *ℤ p3 -ℤ q *ℤ r3)
joined i j q q' n n' p0 p1 p2 p3 r0 r1 r2 r3 e e' =
    front (i +ℤ j) q q' n n'
    ∙ ap (λ z. q' *ℤ z -ℤ q *ℤ ((i +ℤ j) *ℤ (i +ℤ j) *ℤ (i +ℤ j) *ℤ n')) e
    ∙ ap (λ z. q' *ℤ (j *ℤ j *ℤ j *ℤ p0 +ℤ pos 3 *ℤ i *ℤ j *ℤ j *ℤ p1 +ℤ pos 3 *ℤ i *ℤ i *ℤ j *ℤ p2 +ℤ i *ℤ i *ℤ i *ℤ p3) -ℤ q *ℤ z) e'
    ∙ back_ i j q q' p0 p1 p2 p3 r0 r1 r2 r3

cubic_axis : (k k' : Four) (s t s' t' first m last : ℕ) → first ≤ m → m ≤ last → s ≤ first → last ≤ s + t → s' ≤ first → last ≤ s' + t'
    → IsCubic (m - first) (last - m) (difference (place_denominator t) (polar_four k t (first - s) (last - s)) (place_denominator t') (polar_four k' t' (first - s') (last - s'))) (offset s t k s' t' k' m)
cubic_axis k k' s t s' t' first m last p q a b a' b' =
    let e = at_tick k s t first m last p q a b in
    let e' = at_tick k' s' t' first m last p q a' b' in
    record {
      cubic = joined (pos (m - first)) (pos (last - m)) (pos (place_denominator t)) (pos (place_denominator t')) (place_numerator k t (m - s)) (place_numerator k' t' (m - s'))
          _ _ _ _ _ _ _ _ e e';
    }

large_bound : (t t' : ℕ) → 0 < t → 0 < t' → 20 ≤ place_denominator t * place_denominator t' * (place_denominator t * place_denominator t')
large_bound t t' p q =
    let a = mul_pos (t * t) t (mul_pos t t p p) p in
    let b = mul_pos (t' * t') t' (mul_pos t' t' q q) q in
    let c = mul_pos (t * t * t) (t' * t' * t') a b in
    let d = mul_pos (t * t * t * (t' * t' * t')) (t * t * t * (t' * t' * t')) c c in
    enough (t * t * t) (t' * t' * t') d
  where
    enough : (x y : ℕ) → 0 < x * y * (x * y) → 20 ≤ 3000000 * x * (3000000 * y) * (3000000 * x * (3000000 * y))
    enough x y h = omega arith

-- ---- one tick: the weights 0 and 1
pub first_only : (d : Four) (v : ℤ) → d.k0 ≡ v → IsCubic 0 1 d v
first_only d v e = record {
  cubic = only v d.k1 d.k2 d.k3
      ∙ ap (λ z. pos 1 *ℤ pos 1 *ℤ pos 1 *ℤ z +ℤ pos 3 *ℤ pos 0 *ℤ pos 1 *ℤ pos 1 *ℤ d.k1 +ℤ pos 3 *ℤ pos 0 *ℤ pos 0 *ℤ pos 1 *ℤ d.k2 +ℤ pos 0 *ℤ pos 0 *ℤ pos 0 *ℤ d.k3) (sym e);
}
  where
    only : (v b c d : ℤ) → (pos 0 +ℤ pos 1) *ℤ (pos 0 +ℤ pos 1) *ℤ (pos 0 +ℤ pos 1) *ℤ v ≡ pos 1 *ℤ pos 1 *ℤ pos 1 *ℤ v +ℤ pos 3 *ℤ pos 0 *ℤ pos 1 *ℤ pos 1 *ℤ b +ℤ pos 3 *ℤ pos 0 *ℤ pos 0 *ℤ pos 1 *ℤ c +ℤ pos 0 *ℤ pos 0 *ℤ pos 0 *ℤ d
    only v b c d =
        let o = num (pos 0) in let i = num (pos 1) in let n3 = num (pos 3) in
        ring (from (v ∷ b ∷ c ∷ d ∷ [])) ((o :+ i) :* (o :+ i) :* (o :+ i) :* var 0) (i :* i :* i :* var 0 :+ n3 :* o :* i :* i :* var 1 :+ n3 :* o :* o :* i :* var 2 :+ o :* o :* o :* var 3) refl

single_axis : (k k' : Four) (s t s' t' first m last : ℕ) → first ≡ m
    → IsCubic 0 1 (difference (place_denominator t) (polar_four k t (first - s) (last - s)) (place_denominator t') (polar_four k' t' (first - s') (last - s'))) (offset s t k s' t' k' m)
single_axis k k' s t s' t' first m last f =
    let e = exact_polar-same k t (first - s) in
    let e' = exact_polar-same k' t' (first - s') in
    let d = difference (place_denominator t) (polar_four k t (first - s) (last - s)) (place_denominator t') (polar_four k' t' (first - s') (last - s')) in
    let same : d.k0 ≡ offset s t k s' t' k' m =
    ap (λ z. pos (place_denominator t') *ℤ z -ℤ pos (place_denominator t) *ℤ exact_polar k' t' (first - s') (first - s') (first - s')) e
    ∙ ap (λ z. pos (place_denominator t') *ℤ place_numerator k t (first - s) -ℤ pos (place_denominator t) *ℤ z) e'
    ∙ ap (λ (n : ℕ). offset s t k s' t' k' n) f in
    first_only d (offset s t k s' t' k' m) same

-- the gap of two hulls at a tick, be they over several ticks or over one
pub hull_gap_at : (a b : Curve) (first m last : ℕ) → first ≤ m → m ≤ last → IsOver a first last → IsOver b first last
    → IsGapAt (place_denominator a.span * place_denominator b.span) (hull_gap a b first last) (offset a.start a.span a.x b.start b.span b.x m) (offset a.start a.span a.y b.start b.span b.y m) (offset a.start a.span a.z b.start b.span b.z m)
unfolding HoldsFour hull_axes apart_axes
hull_gap_at a b first m last p q oa ob = by_width (cases_lt first last)
  where
    wide : first < last → IsGapAt (place_denominator a.span * place_denominator b.span) (hull_gap a b first last) (offset a.start a.span a.x b.start b.span b.x m) (offset a.start a.span a.y b.start b.span b.y m) (offset a.start a.span a.z b.start b.span b.z m)
    wide w = record {
      i = m - first;
      j = last - m;
      x = difference (place_denominator a.span) (polar_four a.x a.span (first - a.start) (last - a.start)) (place_denominator b.span) (polar_four b.x b.span (first - b.start) (last - b.start));
      y = difference (place_denominator a.span) (polar_four a.y a.span (first - a.start) (last - a.start)) (place_denominator b.span) (polar_four b.y b.span (first - b.start) (last - b.start));
      z = difference (place_denominator a.span) (polar_four a.z a.span (first - a.start) (last - a.start)) (place_denominator b.span) (polar_four b.z b.span (first - b.start) (last - b.start));
      some = omega arith;
      holds_x = holds_axis a.x b.x a.span b.span (first - a.start) (last - a.start) (first - b.start) (last - b.start) oa.some ob.some;
      holds_y = holds_axis a.y b.y a.span b.span (first - a.start) (last - a.start) (first - b.start) (last - b.start) oa.some ob.some;
      holds_z = holds_axis a.z b.z a.span b.span (first - a.start) (last - a.start) (first - b.start) (last - b.start) oa.some ob.some;
      cubic_x = cubic_axis a.x b.x a.start a.span b.start b.span first m last p q oa.from oa.to ob.from ob.to;
      cubic_y = cubic_axis a.y b.y a.start a.span b.start b.span first m last p q oa.from oa.to ob.from ob.to;
      cubic_z = cubic_axis a.z b.z a.start a.span b.start b.span first m last p q oa.from oa.to ob.from ob.to;
    }

    one : first ≡ m → last ≡ m → IsGapAt (place_denominator a.span * place_denominator b.span) (hull_gap a b first last) (offset a.start a.span a.x b.start b.span b.x m) (offset a.start a.span a.y b.start b.span b.y m) (offset a.start a.span a.z b.start b.span b.z m)
    one e f = record {
      i = 0;
      j = 1;
      x = difference (place_denominator a.span) (polar_four a.x a.span (first - a.start) (last - a.start)) (place_denominator b.span) (polar_four b.x b.span (first - b.start) (last - b.start));
      y = difference (place_denominator a.span) (polar_four a.y a.span (first - a.start) (last - a.start)) (place_denominator b.span) (polar_four b.y b.span (first - b.start) (last - b.start));
      z = difference (place_denominator a.span) (polar_four a.z a.span (first - a.start) (last - a.start)) (place_denominator b.span) (polar_four b.z b.span (first - b.start) (last - b.start));
      some = omega arith;
      holds_x = holds_axis a.x b.x a.span b.span (first - a.start) (last - a.start) (first - b.start) (last - b.start) oa.some ob.some;
      holds_y = holds_axis a.y b.y a.span b.span (first - a.start) (last - a.start) (first - b.start) (last - b.start) oa.some ob.some;
      holds_z = holds_axis a.z b.z a.span b.span (first - a.start) (last - a.start) (first - b.start) (last - b.start) oa.some ob.some;
      cubic_x = single_axis a.x b.x a.start a.span b.start b.span first m last e;
      cubic_y = single_axis a.y b.y a.start a.span b.start b.span first m last e;
      cubic_z = single_axis a.z b.z a.start a.span b.start b.span first m last e;
    }

    by_width : (first < last) ⊎ (last ≤ first) → IsGapAt (place_denominator a.span * place_denominator b.span) (hull_gap a b first last) (offset a.start a.span a.x b.start b.span b.x m) (offset a.start a.span a.y b.start b.span b.y m) (offset a.start a.span a.z b.start b.span b.z m)
    by_width (inl w) = wide w
    by_width (inr w) = one (omega arith) (omega arith)

-- what the ends of the gap of two hulls say of the distance at each tick
pub beyond_at : (a b : Curve) (e first m last : ℕ) → first ≤ m → m ≤ last → IsOver a first last → IsOver b first last → LowsAbove (hull_gap a b first last) e → square_bound a b e <ℤ square_distance a b m
beyond_at a b e first m last p q oa ob far =
    above_of_gap (place_denominator a.span * place_denominator b.span) e (hull_gap a b first last) _ _ _ (large_bound a.span b.span oa.some ob.some) (hull_gap_at a b first m last p q oa ob) far

pub at_least_at : (a b : Curve) (e first m last : ℕ) → first ≤ m → m ≤ last → IsOver a first last → IsOver b first last → LowsAtLeast (hull_gap a b first last) e → square_bound a b e ≤ℤ square_distance a b m
at_least_at a b e first m last p q oa ob low =
    at_least_of_gap (place_denominator a.span * place_denominator b.span) (e * e) (hull_gap a b first last) _ _ _
    (hull_gap_at a b first m last p q oa ob) low

pub within_at : (a b : Curve) (e first m last : ℕ) → first ≤ m → m ≤ last → IsOver a first last → IsOver b first last → HighsAtMost (hull_gap a b first last) e → square_distance a b m ≤ℤ square_bound a b e
within_at a b e first m last p q oa ob near =
    at_most_of_gap (place_denominator a.span * place_denominator b.span) (e * e) (hull_gap a b first last) _ _ _
    (hull_gap_at a b first m last p q oa ob) near
