-- What a piece made ready covers: the quotients of the first level, from whole nanometres and what is left over.
use Rattle.std.proofs.Common.{◌≡◌, ℕ, ◌+◌, ◌-◌, ◌*◌, ◌<◌, ◌≤◌, arith, refl, sym, ap, subst, ◌∙◌, [], ◌∷◌, FitsSigned, to_z, of_z, to_z-of_z}
use Rattle.std.proofs.lemmas.Int.{ints}
use Rattle.std.specs.Prelude.{ℤ, pos, neg_ℤ, ◌+ℤ◌, ◌-ℤ◌, ◌*ℤ◌}
use Rattle.std.specs.Int.{w64}
use Rattle.cj_interval.specs.Rounding.{floor_div, ceil_div}
use Rattle.cj_interval.specs.Sizes.{IsWithin}
use Rattle.cj_interval.proofs.FractionLemmas.{floor_div-unique, floor_div-cancel, ceil_div-cancel}
use Rattle.cj_interval.proofs.IntegerLemmas.{add-mul_ℤ}
use Rattle.cj_interval.proofs.MachineLemmas.{product_within}
use Rattle.cj_interval.proofs.RingLemmas.{ring, var, num, neg, ◌:+◌, ◌:-◌, ◌:*◌, from}
use Rattle.cj_interval.proofs.RoundingLemmas.{ceil_div-from}
use Rattle.cj_hermite.specs.declared.ready_axis.ReadyAxis.{ReadyAxis}
use Rattle.cj_hermite.specs.Interpolant.{controls_of, AreBounded}
use Rattle.cj_hermite.specs.Levels.{between, level}
use Rattle.cj_hermite.specs.Ready.{speed_of, controls_ready}

-- ---- what rates cover

pub one_covers : (w : ℤ) (r n : ℕ) → (pos 3000000 *ℤ w +ℤ pos r) *ℤ pos n ≡ (w *ℤ pos n) *ℤ pos 3000000 +ℤ pos (r * n)
one_covers w r n =
    ring (from (w ∷ pos r ∷ pos n ∷ [])) ((num (pos 3000000) :* var 0 :+ var 1) :* var 2) ((var 0 :* var 2) :* num (pos 3000000) :+ var 1 :* var 2) refl

pub two_cover : (w v : ℤ) (r n q m : ℕ) → (pos 3000000 *ℤ w +ℤ pos r) *ℤ pos n +ℤ (pos 3000000 *ℤ v +ℤ pos q) *ℤ pos m ≡ (w *ℤ pos n +ℤ v *ℤ pos m) *ℤ pos 3000000 +ℤ pos (r * n + q * m)
two_cover w v r n q m =
    let a = one_covers w r n in
    let b = one_covers v q m in
    joined _ _ (w *ℤ pos n) (v *ℤ pos m) _ (r * n) (q * m) a b (add-mul_ℤ (w *ℤ pos n) (v *ℤ pos m) (pos 3000000))
  where
    joined : (x y a b s : ℤ) (m n : ℕ) → x ≡ a *ℤ pos 3000000 +ℤ pos m → y ≡ b *ℤ pos 3000000 +ℤ pos n → s ≡ a *ℤ pos 3000000 +ℤ b *ℤ pos 3000000 → x +ℤ y ≡ s +ℤ pos (m + n)
    joined x y a b s m n e f g = omega (arith, ints)

-- ---- sizes

pub ready_bounded : (a : ReadyAxis) (t : ℕ) → t ≤ 3600000000 → AreBounded (controls_ready a t)
ready_bounded a t h =
    let o = product_within (speed_of a.out) (pos t) 20000000000000 3600000000 a.out.within (omega arith) in
    let b = product_within (neg_ℤ (speed_of a.back)) (pos t) 20000000000000 3600000000 (turned (speed_of a.back) a.back.within) (omega arith) in
    record {
      k0 = omega (arith, ints, a.from_within);
      k1 = omega (arith, ints, a.from_within);
      k2 = omega (arith, ints, a.to_within);
      k3 = omega (arith, ints, a.to_within);
    }
  where
    turned : (v : ℤ) → IsWithin 20000000000000 v → IsWithin 20000000000000 (neg_ℤ v)
    turned v h = omega (arith, ints)

-- the quotients round a number stay within what rounding gives
pub round_within : (z q : ℤ) (d r m : ℕ) → z ≡ q *ℤ pos d +ℤ pos r → r < d → IsWithin m (floor_div z d) → IsWithin m (ceil_div z d) → IsWithin m q × (0 < r → IsWithin m (q +ℤ pos 1))
round_within z q d r m e h low high = (
  subst (IsWithin m) (sym (floor_div-unique z q d r e h)) low,
  λ p. subst (IsWithin m) (sym (ceil_div-from z q d r 1 (omega arith) e (omega arith) (omega arith))) high,
)

-- ---- the outer values of the first level

-- from one place on, at a rate
pub first_outer : (p v : ℤ) (t u : ℕ) → u ≤ t → between t u (pos 3000000 *ℤ p) (pos 3000000 *ℤ p +ℤ v *ℤ pos t) ≡ (pos 3000000 *ℤ p +ℤ v *ℤ pos u) *ℤ pos t
first_outer p v t u h = at (t - u) t (omega arith)
  where
    spread : (p v n u : ℤ) → p *ℤ n +ℤ (p +ℤ v *ℤ (n +ℤ u)) *ℤ u ≡ (p +ℤ v *ℤ u) *ℤ (n +ℤ u)
    spread p v n u = ring (from (p ∷ v ∷ n ∷ u ∷ [])) (var 0 :* var 2 :+ (var 0 :+ var 1 :* (var 2 :+ var 3)) :* var 3) ((var 0 :+ var 1 :* var 3) :* (var 2 :+ var 3)) refl

    at : (n t : ℕ) → n + u ≡ t → (pos 3000000 *ℤ p) *ℤ pos n +ℤ (pos 3000000 *ℤ p +ℤ v *ℤ pos t) *ℤ pos u ≡ (pos 3000000 *ℤ p +ℤ v *ℤ pos u) *ℤ pos t
    at n t e = subst (λ (s : ℕ). (pos 3000000 *ℤ p) *ℤ pos n +ℤ (pos 3000000 *ℤ p +ℤ v *ℤ pos s) *ℤ pos u ≡ (pos 3000000 *ℤ p +ℤ v *ℤ pos u) *ℤ pos s) e (spread (pos 3000000 *ℤ p) v (pos n) (pos u))

-- and back from another
pub last_outer : (p v : ℤ) (t u : ℕ) → u ≤ t → between t u (pos 3000000 *ℤ p -ℤ neg_ℤ v *ℤ pos t) (pos 3000000 *ℤ p) ≡ (pos 3000000 *ℤ p +ℤ v *ℤ pos (t - u)) *ℤ pos t
last_outer p v t u h = at (t - u) t (omega arith)
  where
    spread : (p v n u : ℤ) → (p -ℤ neg_ℤ v *ℤ (n +ℤ u)) *ℤ n +ℤ p *ℤ u ≡ (p +ℤ v *ℤ n) *ℤ (n +ℤ u)
    spread p v n u = ring (from (p ∷ v ∷ n ∷ u ∷ [])) ((var 0 :- neg (var 1) :* (var 2 :+ var 3)) :* var 2 :+ var 0 :* var 3) ((var 0 :+ var 1 :* var 2) :* (var 2 :+ var 3)) refl

    at : (n t : ℕ) → n + u ≡ t → (pos 3000000 *ℤ p -ℤ neg_ℤ v *ℤ pos t) *ℤ pos n +ℤ (pos 3000000 *ℤ p) *ℤ pos u ≡ (pos 3000000 *ℤ p +ℤ v *ℤ pos n) *ℤ pos t
    at n t e = subst (λ (s : ℕ). (pos 3000000 *ℤ p -ℤ neg_ℤ v *ℤ pos s) *ℤ pos n +ℤ (pos 3000000 *ℤ p) *ℤ pos u ≡ (pos 3000000 *ℤ p +ℤ v *ℤ pos n) *ℤ pos s) e (spread (pos 3000000 *ℤ p) v (pos n) (pos u))

-- the length of the piece cancels
pub outer-low : (p v : ℤ) (t u : ℕ) → 0 < t → u ≤ t → floor_div (pos 3000000 *ℤ p +ℤ v *ℤ pos u) 3000000 ≡ level floor_div 3000000 t u (pos 3000000 *ℤ p) (pos 3000000 *ℤ p +ℤ v *ℤ pos t)
outer-low p v t u some le =
    sym (floor_div-cancel (pos 3000000 *ℤ p +ℤ v *ℤ pos u) 3000000 t (omega arith) some) ∙ ap (λ (z : ℤ). floor_div z (t * 3000000)) (sym (first_outer p v t u le))

pub outer-high : (p v : ℤ) (t u : ℕ) → 0 < t → u ≤ t → ceil_div (pos 3000000 *ℤ p +ℤ v *ℤ pos u) 3000000 ≡ level ceil_div 3000000 t u (pos 3000000 *ℤ p) (pos 3000000 *ℤ p +ℤ v *ℤ pos t)
outer-high p v t u some le =
    sym (ceil_div-cancel (pos 3000000 *ℤ p +ℤ v *ℤ pos u) 3000000 t (omega arith) some) ∙ ap (λ (z : ℤ). ceil_div z (t * 3000000)) (sym (first_outer p v t u le))

pub back-low : (p v : ℤ) (t u : ℕ) → 0 < t → u ≤ t → floor_div (pos 3000000 *ℤ p +ℤ v *ℤ pos (t - u)) 3000000 ≡ level floor_div 3000000 t u (pos 3000000 *ℤ p -ℤ neg_ℤ v *ℤ pos t) (pos 3000000 *ℤ p)
back-low p v t u some le =
    sym (floor_div-cancel (pos 3000000 *ℤ p +ℤ v *ℤ pos (t - u)) 3000000 t (omega arith) some) ∙ ap (λ (z : ℤ). floor_div z (t * 3000000)) (sym (last_outer p v t u le))

pub back-high : (p v : ℤ) (t u : ℕ) → 0 < t → u ≤ t → ceil_div (pos 3000000 *ℤ p +ℤ v *ℤ pos (t - u)) 3000000 ≡ level ceil_div 3000000 t u (pos 3000000 *ℤ p -ℤ neg_ℤ v *ℤ pos t) (pos 3000000 *ℤ p)
back-high p v t u some le =
    sym (ceil_div-cancel (pos 3000000 *ℤ p +ℤ v *ℤ pos (t - u)) 3000000 t (omega arith) some) ∙ ap (λ (z : ℤ). ceil_div z (t * 3000000)) (sym (last_outer p v t u le))

-- what a place and a way come to
pub moved : (p v w : ℤ) (n e : ℕ) → v *ℤ pos n ≡ w *ℤ pos 3000000 +ℤ pos e → pos 3000000 *ℤ p +ℤ v *ℤ pos n ≡ (p +ℤ w) *ℤ pos 3000000 +ℤ pos e
moved p v w n e h =
    ap (λ (z : ℤ). pos 3000000 *ℤ p +ℤ z) h
    ∙ ring (from (p ∷ w ∷ pos e ∷ [])) (num (pos 3000000) :* var 0 :+ (var 1 :* num (pos 3000000) :+ var 2)) ((var 0 :+ var 1) :* num (pos 3000000) :+ var 2) refl

pub moved_within : (p v : ℤ) (n : ℕ) → IsWithin 500000000000000000 p → IsWithin 20000000000000 v → n ≤ 3600000000 → IsWithin (524000000000000000 * 3000000) (pos 3000000 *ℤ p +ℤ v *ℤ pos n)
moved_within p v n h k l =
    let w = product_within v (pos n) 20000000000000 3600000000 k (omega arith) in
    omega (arith, ints)

-- ---- the middle value of the first level

pub middle_is : (p0 v p1 b h w : ℤ) (t u x e : ℕ) → u ≤ t → (p1 -ℤ p0) *ℤ pos u ≡ h *ℤ pos t +ℤ pos x → v *ℤ pos (t - u) +ℤ b *ℤ pos u ≡ w *ℤ pos 3000000 +ℤ pos e
    → between t u (pos 3000000 *ℤ p0 +ℤ v *ℤ pos t) (pos 3000000 *ℤ p1 -ℤ neg_ℤ b *ℤ pos t) ≡ ((p0 +ℤ h) +ℤ w) *ℤ pos (t * 3000000) +ℤ pos (3000000 * x + t * e)
middle_is p0 v p1 b h w t u x e le s r = at (t - u) t (omega arith) s r
  where
    parted : (p0 v p1 b n u : ℤ) → (pos 3000000 *ℤ p0 +ℤ v *ℤ (n +ℤ u)) *ℤ n +ℤ (pos 3000000 *ℤ p1 -ℤ neg_ℤ b *ℤ (n +ℤ u)) *ℤ u
        ≡ pos 3000000 *ℤ (p0 *ℤ (n +ℤ u) +ℤ (p1 -ℤ p0) *ℤ u) +ℤ (n +ℤ u) *ℤ (v *ℤ n +ℤ b *ℤ u)
    parted p0 v p1 b n u =
        ring (from (p0 ∷ v ∷ p1 ∷ b ∷ n ∷ u ∷ []))
        ((num (pos 3000000) :* var 0 :+ var 1 :* (var 4 :+ var 5)) :* var 4 :+ (num (pos 3000000) :* var 2 :- neg (var 3) :* (var 4 :+ var 5)) :* var 5)
        (num (pos 3000000) :* (var 0 :* (var 4 :+ var 5) :+ (var 2 :- var 0) :* var 5) :+ (var 4 :+ var 5) :* (var 1 :* var 4 :+ var 3 :* var 5))
        refl

    gathered : (p0 h w t x e : ℤ) → pos 3000000 *ℤ (p0 *ℤ t +ℤ (h *ℤ t +ℤ x)) +ℤ t *ℤ (w *ℤ pos 3000000 +ℤ e) ≡ ((p0 +ℤ h) +ℤ w) *ℤ (t *ℤ pos 3000000) +ℤ (pos 3000000 *ℤ x +ℤ t *ℤ e)
    gathered p0 h w t x e =
        ring (from (p0 ∷ h ∷ w ∷ t ∷ x ∷ e ∷ []))
        (num (pos 3000000) :* (var 0 :* var 3 :+ (var 1 :* var 3 :+ var 4)) :+ var 3 :* (var 2 :* num (pos 3000000) :+ var 5))
        (((var 0 :+ var 1) :+ var 2) :* (var 3 :* num (pos 3000000)) :+ (num (pos 3000000) :* var 4 :+ var 3 :* var 5))
        refl

    at : (n t : ℕ) → n + u ≡ t → (p1 -ℤ p0) *ℤ pos u ≡ h *ℤ pos t +ℤ pos x → v *ℤ pos n +ℤ b *ℤ pos u ≡ w *ℤ pos 3000000 +ℤ pos e
        → (pos 3000000 *ℤ p0 +ℤ v *ℤ pos t) *ℤ pos n +ℤ (pos 3000000 *ℤ p1 -ℤ neg_ℤ b *ℤ pos t) *ℤ pos u ≡ ((p0 +ℤ h) +ℤ w) *ℤ pos (t * 3000000) +ℤ pos (3000000 * x + t * e)
    at n t k s r =
        subst (λ (m : ℕ). (pos 3000000 *ℤ p0 +ℤ v *ℤ pos m) *ℤ pos n +ℤ (pos 3000000 *ℤ p1 -ℤ neg_ℤ b *ℤ pos m) *ℤ pos u ≡ pos 3000000 *ℤ (p0 *ℤ pos m +ℤ (p1 -ℤ p0) *ℤ pos u) +ℤ pos m *ℤ (v *ℤ pos n +ℤ b *ℤ pos u)) k
        (parted p0 v p1 b (pos n) (pos u))
        ∙ ap (λ (z : ℤ). pos 3000000 *ℤ (p0 *ℤ pos t +ℤ z) +ℤ pos t *ℤ (v *ℤ pos n +ℤ b *ℤ pos u)) s
        ∙ ap (λ (z : ℤ). pos 3000000 *ℤ (p0 *ℤ pos t +ℤ (h *ℤ pos t +ℤ pos x)) +ℤ pos t *ℤ z) r
        ∙ gathered p0 h w (pos t) (pos x) (pos e)

-- ---- the controls of an axis

pub axis_is : (a : ReadyAxis) (p0 v0 p1 v1 : ℤ) (t s : ℕ) → FitsSigned w64 p0 → FitsSigned w64 v0 → FitsSigned w64 p1 → FitsSigned w64 v1
    → a.from ≡ to_z w64 (of_z w64 p0) → a.to ≡ to_z w64 (of_z w64 p1) → speed_of a.out ≡ to_z w64 (of_z w64 v0) → speed_of a.back ≡ neg_ℤ (to_z w64 (of_z w64 v1)) → t ≡ s
    → controls_ready a t ≡ controls_of p0 v0 p1 v1 s
axis_is a p0 v0 p1 v1 t s f g h k from to out back same =
    ap (λ (z : ℤ). controls_of z (speed_of a.out) a.to (neg_ℤ (speed_of a.back)) t) (from ∙ to_z-of_z f)
    ∙ ap (λ (z : ℤ). controls_of p0 z a.to (neg_ℤ (speed_of a.back)) t) (out ∙ to_z-of_z g)
    ∙ ap (λ (z : ℤ). controls_of p0 v0 z (neg_ℤ (speed_of a.back)) t) (to ∙ to_z-of_z h)
    ∙ ap (λ (z : ℤ). controls_of p0 v0 p1 z t) (ap neg_ℤ back ∙ twice (to_z w64 (of_z w64 v1)) ∙ to_z-of_z k)
    ∙ ap (λ (n : ℕ). controls_of p0 v0 p1 v1 n) same
  where
    twice : (z : ℤ) → neg_ℤ (neg_ℤ z) ≡ z
    twice z = omega (arith, ints)
