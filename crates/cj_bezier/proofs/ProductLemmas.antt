-- Products of boxes do not depend on their order, and the coefficients of a gap are made of them.
use Rattle.std.proofs.Common.{◌≡◌, ap, ◌∙◌, arith, [], ◌∷◌}
use Rattle.std.proofs.lemmas.Int.{ints, clamps}
use Rattle.std.specs.Prelude.{ℤ, pos, ◌+ℤ◌, ◌*ℤ◌}
use Rattle.cj_interval.specs.declared.span.Span.{Span}
use Rattle.cj_interval.specs.Spans.{least, greatest}
use Rattle.cj_interval.proofs.IntegerLemmas.{mul_comm_ℤ}
use Rattle.cj_hermite.specs.declared.box3.Box3.{Box3}
use Rattle.cj_bezier.specs.Hulls.{axes_of}
use Rattle.cj_bezier.specs.Gaps.{terms_of, gap_terms, span_product_low, span_product_high, dot_low, dot_high}

least_swap : (a b c d : ℤ) → least a b c d ≡ least a c b d
unfolding least
least_swap a b c d = omega (arith, ints, clamps)

greatest_swap : (a b c d : ℤ) → greatest a b c d ≡ greatest a c b d
unfolding greatest
greatest_swap a b c d = omega (arith, ints, clamps)

low_swap : (a b c d : ℤ) → least (a *ℤ c) (a *ℤ d) (b *ℤ c) (b *ℤ d) ≡ least (c *ℤ a) (c *ℤ b) (d *ℤ a) (d *ℤ b)
low_swap a b c d =
    ap (λ z. least z (a *ℤ d) (b *ℤ c) (b *ℤ d)) (mul_comm_ℤ a c)
    ∙ ap (λ z. least (c *ℤ a) z (b *ℤ c) (b *ℤ d)) (mul_comm_ℤ a d)
    ∙ ap (λ z. least (c *ℤ a) (d *ℤ a) z (b *ℤ d)) (mul_comm_ℤ b c)
    ∙ ap (λ z. least (c *ℤ a) (d *ℤ a) (c *ℤ b) z) (mul_comm_ℤ b d)
    ∙ least_swap (c *ℤ a) (d *ℤ a) (c *ℤ b) (d *ℤ b)

high_swap : (a b c d : ℤ) → greatest (a *ℤ c) (a *ℤ d) (b *ℤ c) (b *ℤ d) ≡ greatest (c *ℤ a) (c *ℤ b) (d *ℤ a) (d *ℤ b)
high_swap a b c d =
    ap (λ z. greatest z (a *ℤ d) (b *ℤ c) (b *ℤ d)) (mul_comm_ℤ a c)
    ∙ ap (λ z. greatest (c *ℤ a) z (b *ℤ c) (b *ℤ d)) (mul_comm_ℤ a d)
    ∙ ap (λ z. greatest (c *ℤ a) (d *ℤ a) z (b *ℤ d)) (mul_comm_ℤ b c)
    ∙ ap (λ z. greatest (c *ℤ a) (d *ℤ a) (c *ℤ b) z) (mul_comm_ℤ b d)
    ∙ greatest_swap (c *ℤ a) (d *ℤ a) (c *ℤ b) (d *ℤ b)

pub dot_low-swap : (a b : Box3) → dot_low a b ≡ dot_low b a
dot_low-swap a b =
    ap (λ z. z +ℤ span_product_low a.y b.y +ℤ span_product_low a.z b.z) (low_swap a.x.lo a.x.hi b.x.lo b.x.hi)
    ∙ ap (λ z. span_product_low b.x a.x +ℤ z +ℤ span_product_low a.z b.z) (low_swap a.y.lo a.y.hi b.y.lo b.y.hi)
    ∙ ap (λ z. span_product_low b.x a.x +ℤ span_product_low b.y a.y +ℤ z) (low_swap a.z.lo a.z.hi b.z.lo b.z.hi)

pub dot_high-swap : (a b : Box3) → dot_high a b ≡ dot_high b a
dot_high-swap a b =
    ap (λ z. z +ℤ span_product_high a.y b.y +ℤ span_product_high a.z b.z) (high_swap a.x.lo a.x.hi b.x.lo b.x.hi)
    ∙ ap (λ z. span_product_high b.x a.x +ℤ z +ℤ span_product_high a.z b.z) (high_swap a.y.lo a.y.hi b.y.lo b.y.hi)
    ∙ ap (λ z. span_product_high b.x a.x +ℤ span_product_high b.y a.y +ℤ z) (high_swap a.z.lo a.z.hi b.z.lo b.z.hi)

-- six times a product is three times it either way round
six : (r p q : ℤ) → p ≡ q → r ≡ pos 6 *ℤ p → r ≡ pos 3 *ℤ p +ℤ pos 3 *ℤ q
six r p q e h = omega (arith, ints)

six_nine : (r p q s : ℤ) → p ≡ q → r ≡ pos 6 *ℤ p +ℤ pos 9 *ℤ s → r ≡ pos 3 *ℤ p +ℤ pos 9 *ℤ s +ℤ pos 3 *ℤ q
six_nine r p q s e h = omega (arith, ints)

two_eighteen : (r p q s t : ℤ) → p ≡ q → s ≡ t → r ≡ pos 2 *ℤ p +ℤ pos 18 *ℤ s → r ≡ p +ℤ pos 9 *ℤ s +ℤ pos 9 *ℤ t +ℤ q
two_eighteen r p q s t e f h = omega (arith, ints)

terms_same : (r0 r1 r2 r3 r4 r5 r6 : Span) (l0 l1 l2 l3 l4 l5 l6 h0 h1 h2 h3 h4 h5 h6 : ℤ)
    → r0.lo ≡ l0 → r1.lo ≡ l1 → r2.lo ≡ l2 → r3.lo ≡ l3 → r4.lo ≡ l4 → r5.lo ≡ l5 → r6.lo ≡ l6
    → r0.hi ≡ h0 → r1.hi ≡ h1 → r2.hi ≡ h2 → r3.hi ≡ h3 → r4.hi ≡ h4 → r5.hi ≡ h5 → r6.hi ≡ h6
    → terms_of (r0 ∷ r1 ∷ r2 ∷ r3 ∷ r4 ∷ r5 ∷ r6 ∷ []) ≡ record { low = l0 ∷ l1 ∷ l2 ∷ l3 ∷ l4 ∷ l5 ∷ l6 ∷ []; high = h0 ∷ h1 ∷ h2 ∷ h3 ∷ h4 ∷ h5 ∷ h6 ∷ [] }
terms_same r0 r1 r2 r3 r4 r5 r6 l0 l1 l2 l3 l4 l5 l6 h0 h1 h2 h3 h4 h5 h6 a0 a1 a2 a3 a4 a5 a6 b0 b1 b2 b3 b4 b5 b6 =
    λ i. record {
      low = a0 i ∷ a1 i ∷ a2 i ∷ a3 i ∷ a4 i ∷ a5 i ∷ a6 i ∷ [];
      high = b0 i ∷ b1 i ∷ b2 i ∷ b3 i ∷ b4 i ∷ b5 i ∷ b6 i ∷ [];
    }

-- seven spans with these ends are the gap of four boxes
pub square_terms : (d0 d1 d2 d3 : Box3) (r0 r1 r2 r3 r4 r5 r6 : Span)
    → r0.lo ≡ dot_low d0 d0 → r1.lo ≡ pos 6 *ℤ dot_low d0 d1 → r2.lo ≡ pos 6 *ℤ dot_low d0 d2 +ℤ pos 9 *ℤ dot_low d1 d1
    → r3.lo ≡ pos 2 *ℤ dot_low d0 d3 +ℤ pos 18 *ℤ dot_low d1 d2
    → r4.lo ≡ pos 6 *ℤ dot_low d1 d3 +ℤ pos 9 *ℤ dot_low d2 d2 → r5.lo ≡ pos 6 *ℤ dot_low d2 d3 → r6.lo ≡ dot_low d3 d3
    → r0.hi ≡ dot_high d0 d0 → r1.hi ≡ pos 6 *ℤ dot_high d0 d1 → r2.hi ≡ pos 6 *ℤ dot_high d0 d2 +ℤ pos 9 *ℤ dot_high d1 d1
    → r3.hi ≡ pos 2 *ℤ dot_high d0 d3 +ℤ pos 18 *ℤ dot_high d1 d2
    → r4.hi ≡ pos 6 *ℤ dot_high d1 d3 +ℤ pos 9 *ℤ dot_high d2 d2 → r5.hi ≡ pos 6 *ℤ dot_high d2 d3 → r6.hi ≡ dot_high d3 d3
    → terms_of (r0 ∷ r1 ∷ r2 ∷ r3 ∷ r4 ∷ r5 ∷ r6 ∷ []) ≡ gap_terms (axes_of (d0 ∷ d1 ∷ d2 ∷ d3 ∷ []))
unfolding gap_terms axes_of
square_terms d0 d1 d2 d3 r0 r1 r2 r3 r4 r5 r6 a0 a1 a2 a3 a4 a5 a6 b0 b1 b2 b3 b4 b5 b6 =
    terms_same r0 r1 r2 r3 r4 r5 r6 _ _ _ _ _ _ _ _ _ _ _ _ _ _
    a0 (six _ _ _ (dot_low-swap d0 d1) a1) (six_nine _ _ _ (dot_low d1 d1) (dot_low-swap d0 d2) a2) (two_eighteen _ _ _ _ _ (dot_low-swap d0 d3) (dot_low-swap d1 d2) a3) (six_nine _ _ _ (dot_low d2 d2) (dot_low-swap d1 d3) a4) (six _ _ _ (dot_low-swap d2 d3) a5) a6
    b0 (six _ _ _ (dot_high-swap d0 d1) b1) (six_nine _ _ _ (dot_high d1 d1) (dot_high-swap d0 d2) b2) (two_eighteen _ _ _ _ _ (dot_high-swap d0 d3) (dot_high-swap d1 d2) b3) (six_nine _ _ _ (dot_high d2 d2) (dot_high-swap d1 d3) b4) (six _ _ _ (dot_high-swap d2 d3) b5) b6
