-- The rounded rates hold the exact one and are at most 2 wide.
use Rattle.std.proofs.Common.{◌≡◌, ℕ, ◌-◌, ◌*◌, ◌<◌, ◌≤◌, arith, refl, sym, subst, [], ◌∷◌}
use Rattle.std.specs.Prelude.{ℤ, pos, ◌+ℤ◌, ◌-ℤ◌, ◌*ℤ◌, ◌≤ℤ◌}
use Rattle.cj_interval.specs.declared.span.Span.{Span}
use Rattle.cj_interval.specs.Rounding.{floor_div, ceil_div}
use Rattle.cj_interval.proofs.RingLemmas.{ring, var, num, ◌:+◌, ◌:*◌, from}
use Rattle.cj_interval.proofs.SizeLemmas.{mul_pos}
use Rattle.cj_hermite.specs.Interpolant.{Four, rate_numerator, rate_denominator}
use Rattle.cj_hermite.specs.Levels.{between, rate_value}
use Rattle.cj_hermite.specs.Rates.{IsAxisRate, HoldsAxisRate}
use Rattle.cj_hermite.proofs.LevelLemmas.{whole_low, whole_high, level-low, level-high, first-width, next-width}

-- two levels without division are the Bernstein form of degree 2
exact : (a b c y x : ℤ) → (a *ℤ y +ℤ b *ℤ x) *ℤ y +ℤ (b *ℤ y +ℤ c *ℤ x) *ℤ x ≡ a *ℤ y *ℤ y +ℤ pos 2 *ℤ b *ℤ y *ℤ x +ℤ c *ℤ x *ℤ x
exact a b c y x =
    let Y = var 3 in let X = var 4 in
    ring (from (a ∷ b ∷ c ∷ y ∷ x ∷ []))
    ((var 0 :* Y :+ var 1 :* X) :* Y :+ (var 1 :* Y :+ var 2 :* X) :* X) (var 0 :* Y :* Y :+ num (pos 2) :* var 1 :* Y :* X :+ var 2 :* X :* X) refl

pub rate-low : (k : Four) (t u : ℕ) → 0 < t → (rate_value floor_div k t u *ℤ pos (rate_denominator t)) ≤ℤ rate_numerator k t u
rate-low k t u p =
    let d0 = k.k1 -ℤ k.k0 in
    let d1 = k.k2 -ℤ k.k1 in
    let d2 = k.k3 -ℤ k.k2 in
    let c : 0 < t * 1 = omega arith in
    let a = level-low d0 d1 d0 d1 (t - u) u (t * t) 1 (mul_pos t t p p) (whole_low d0) (whole_low d1) in
    let b = level-low d1 d2 d1 d2 (t - u) u (t * t) 1 (mul_pos t t p p) (whole_low d1) (whole_low d2) in
    let same : t * 1 * (t * t * 1) ≡ rate_denominator t = omega arith in
    subst (λ (z : ℤ). (rate_value floor_div k t u *ℤ pos (rate_denominator t)) ≤ℤ z) (exact d0 d1 d2 (pos (t - u)) (pos u))
    (subst (λ (n : ℕ). (rate_value floor_div k t u *ℤ pos n) ≤ℤ between t u (between t u d0 d1) (between t u d1 d2)) same
    (level-low _ _ _ _ (t - u) u (t * 1) (t * t * 1) c a b))

pub rate-high : (k : Four) (t u : ℕ) → 0 < t → rate_numerator k t u ≤ℤ (rate_value ceil_div k t u *ℤ pos (rate_denominator t))
rate-high k t u p =
    let d0 = k.k1 -ℤ k.k0 in
    let d1 = k.k2 -ℤ k.k1 in
    let d2 = k.k3 -ℤ k.k2 in
    let c : 0 < t * 1 = omega arith in
    let a = level-high d0 d1 d0 d1 (t - u) u (t * t) 1 (mul_pos t t p p) (whole_high d0) (whole_high d1) in
    let b = level-high d1 d2 d1 d2 (t - u) u (t * t) 1 (mul_pos t t p p) (whole_high d1) (whole_high d2) in
    let same : t * 1 * (t * t * 1) ≡ rate_denominator t = omega arith in
    subst (λ (z : ℤ). z ≤ℤ (rate_value ceil_div k t u *ℤ pos (rate_denominator t))) (exact d0 d1 d2 (pos (t - u)) (pos u))
    (subst (λ (n : ℕ). between t u (between t u d0 d1) (between t u d1 d2) ≤ℤ (rate_value ceil_div k t u *ℤ pos n)) same
    (level-high _ _ _ _ (t - u) u (t * 1) (t * t * 1) c a b))

pub rate-width : (k : Four) (t u : ℕ) → 0 < t → u ≤ t → rate_value ceil_div k t u ≤ℤ (rate_value floor_div k t u +ℤ pos 2)
rate-width k t u p q =
    let d0 = k.k1 -ℤ k.k0 in
    let d1 = k.k2 -ℤ k.k1 in
    let d2 = k.k3 -ℤ k.k2 in
    let d = mul_pos t t p p in
    next-width _ _ _ _ t u 1 p q (first-width d0 d1 (t - u) u (t * t) d) (first-width d1 d2 (t - u) u (t * t) d)

pub rate_holds : (k : Four) (t u : ℕ) (s : Span) → 0 < t → IsAxisRate k t u s → HoldsAxisRate k t u s
rate_holds k t u s some p = record {
  rate = record {
    low = subst (λ (z : ℤ). (z *ℤ pos (rate_denominator t)) ≤ℤ rate_numerator k t u) (sym p.lower) (rate-low k t u some);
    high = subst (λ (z : ℤ). rate_numerator k t u ≤ℤ (z *ℤ pos (rate_denominator t))) (sym p.upper) (rate-high k t u some);
  };
}
