-- The squared distance as a sextic in Bernstein form: what bounds its coefficients bounds it.
use Rattle.std.proofs.Common.{◌≡◌, ℕ, zero, suc, ◌+◌, ◌*◌, ◌<◌, arith, refl, sym, ap, subst, ◌∙◌, [], ◌∷◌}
use Rattle.std.proofs.lemmas.Int.{ints}
use Rattle.std.specs.Prelude.{ℤ, pos, ◌+ℤ◌, ◌*ℤ◌, ◌≤ℤ◌}
use Rattle.cj_interval.proofs.RingLemmas.{ring, var, num, ◌:+◌, ◌:*◌, from}
use Rattle.cj_interval.proofs.IntegerLemmas.{le_from_mul}
use Rattle.cj_interval.proofs.SizeLemmas.{mul_pos}
use Rattle.cj_hermite.specs.Interpolant.{Four}
use Rattle.cj_bezier.specs.Gaps.{value_at, coefficient}
use Rattle.cj_bezier.specs.Verdicts.{choose6}
use Rattle.cj_bezier.proofs.HullLemmas.{le-left}

-- the weight of coefficient k, i^k j^(6-k)
abbrev pub weight : ℕ → ℕ → ℕ → ℕ
weight i j zero = j * j * j * j * j * j
weight i j (suc zero) = i * j * j * j * j * j
weight i j (suc (suc zero)) = i * i * j * j * j * j
weight i j (suc (suc (suc zero))) = i * i * i * j * j * j
weight i j (suc (suc (suc (suc zero)))) = i * i * i * i * j * j
weight i j (suc (suc (suc (suc (suc zero))))) = i * i * i * i * i * j
weight i j (suc (suc (suc (suc (suc (suc n)))))) = i * i * i * i * i * i

abbrev pub sextic : ℕ → ℕ → (ℕ → ℤ) → ℤ
sextic i j c = pos (weight i j 0) *ℤ c 0 +ℤ pos (weight i j 1) *ℤ c 1 +ℤ pos (weight i j 2) *ℤ c 2 +ℤ pos (weight i j 3) *ℤ c 3 +ℤ pos (weight i j 4) *ℤ c 4 +ℤ pos (weight i j 5) *ℤ c 5 +ℤ pos (weight i j 6) *ℤ c 6

sum7-le : (a b c d e f g a' b' c' d' e' f' g' : ℤ) → a ≤ℤ a' → b ≤ℤ b' → c ≤ℤ c' → d ≤ℤ d' → e ≤ℤ e' → f ≤ℤ f' → g ≤ℤ g'
    → (a +ℤ b +ℤ c +ℤ d +ℤ e +ℤ f +ℤ g) ≤ℤ (a' +ℤ b' +ℤ c' +ℤ d' +ℤ e' +ℤ f' +ℤ g')
sum7-le a b c d e f g a' b' c' d' e' f' g' h0 h1 h2 h3 h4 h5 h6 = omega (arith, ints)

pub sextic-le : (i j : ℕ) (c d : ℕ → ℤ) → ((k : ℕ) → c k ≤ℤ d k) → sextic i j c ≤ℤ sextic i j d
sextic-le i j c d h = sum7-le _ _ _ _ _ _ _ _ _ _ _ _ _ _
    (le-left (c 0) (d 0) (weight i j 0) (h 0)) (le-left (c 1) (d 1) (weight i j 1) (h 1)) (le-left (c 2) (d 2) (weight i j 2) (h 2)) (le-left (c 3) (d 3) (weight i j 3) (h 3))
    (le-left (c 4) (d 4) (weight i j 4) (h 4)) (le-left (c 5) (d 5) (weight i j 5) (h 5)) (le-left (c 6) (d 6) (weight i j 6) (h 6))

-- the sextic of C(6,k) m is m (i + j)^6
sextic_const : (m i j : ℤ)
    → j *ℤ j *ℤ j *ℤ j *ℤ j *ℤ j *ℤ (pos 1 *ℤ m) +ℤ i *ℤ j *ℤ j *ℤ j *ℤ j *ℤ j *ℤ (pos 6 *ℤ m) +ℤ i *ℤ i *ℤ j *ℤ j *ℤ j *ℤ j *ℤ (pos 15 *ℤ m) +ℤ i *ℤ i *ℤ i *ℤ j *ℤ j *ℤ j *ℤ (pos 20 *ℤ m)
    +ℤ i *ℤ i *ℤ i *ℤ i *ℤ j *ℤ j *ℤ (pos 15 *ℤ m) +ℤ i *ℤ i *ℤ i *ℤ i *ℤ i *ℤ j *ℤ (pos 6 *ℤ m) +ℤ i *ℤ i *ℤ i *ℤ i *ℤ i *ℤ i *ℤ (pos 1 *ℤ m)
    ≡ m *ℤ ((i +ℤ j) *ℤ (i +ℤ j) *ℤ (i +ℤ j) *ℤ (i +ℤ j) *ℤ (i +ℤ j) *ℤ (i +ℤ j))
sextic_const m i j =
    ring (from (m ∷ i ∷ j ∷ []))
    (let M = var 0 in let I = var 1 in let J = var 2 in
    J :* J :* J :* J :* J :* J :* (num (pos 1) :* M) :+ I :* J :* J :* J :* J :* J :* (num (pos 6) :* M) :+ I :* I :* J :* J :* J :* J :* (num (pos 15) :* M) :+ I :* I :* I :* J :* J :* J :* (num (pos 20) :* M)
    :+ I :* I :* I :* I :* J :* J :* (num (pos 15) :* M) :+ I :* I :* I :* I :* I :* J :* (num (pos 6) :* M) :+ I :* I :* I :* I :* I :* I :* (num (pos 1) :* M))
    (let M = var 0 in let I = var 1 in let J = var 2 in M :* ((I :+ J) :* (I :+ J) :* (I :+ J) :* (I :+ J) :* (I :+ J) :* (I :+ J)))
    refl

pub sixth : ℕ → ℕ
sixth w = w * w * w * w * w * w

-- every coefficient is at least C(6,k) m, so the whole is at least m
pub sextic-low : (i j : ℕ) (c : ℕ → ℤ) (m s : ℤ) → 0 < i + j → sextic i j c ≡ s *ℤ pos ((i + j) * (i + j) * (i + j) * (i + j) * (i + j) * (i + j))
    → ((k : ℕ) → (pos (choose6 k) *ℤ m) ≤ℤ c k) → m ≤ℤ s
sextic-low i j c m s some e h =
    let w = i + j in
    let total = sextic-le i j (λ k. pos (choose6 k) *ℤ m) c h in
    let sum : (m *ℤ pos (w * w * w * w * w * w)) ≤ℤ (s *ℤ pos (w * w * w * w * w * w)) =
    subst (λ (z : ℤ). (m *ℤ pos (w * w * w * w * w * w)) ≤ℤ z) e (subst (λ (z : ℤ). z ≤ℤ sextic i j c) (sextic_const m (pos i) (pos j)) total) in
    le_from_mul m s (w * w * w * w * w * w) (mul_pos (w * w * w * w * w) w (mul_pos (w * w * w * w) w (mul_pos (w * w * w) w (mul_pos (w * w) w (mul_pos w w some some) some) some) some) some) sum

pub sextic-high : (i j : ℕ) (c : ℕ → ℤ) (m s : ℤ) → 0 < i + j → sextic i j c ≡ s *ℤ pos ((i + j) * (i + j) * (i + j) * (i + j) * (i + j) * (i + j))
    → ((k : ℕ) → c k ≤ℤ (pos (choose6 k) *ℤ m)) → s ≤ℤ m
sextic-high i j c m s some e h =
    let w = i + j in
    let total = sextic-le i j c (λ k. pos (choose6 k) *ℤ m) h in
    let sum : (s *ℤ pos (w * w * w * w * w * w)) ≤ℤ (m *ℤ pos (w * w * w * w * w * w)) =
    subst (λ (z : ℤ). z ≤ℤ (m *ℤ pos (w * w * w * w * w * w))) e (subst (λ (z : ℤ). sextic i j c ≤ℤ z) (sextic_const m (pos i) (pos j)) total) in
    le_from_mul s m (w * w * w * w * w * w) (mul_pos (w * w * w * w * w) w (mul_pos (w * w * w * w) w (mul_pos (w * w * w) w (mul_pos (w * w) w (mul_pos w w some some) some) some) some) some) sum

-- ---- the square of one axis's cubic
abbrev square_of : Four → ℕ → ℕ → ℤ
square_of d i j = value_at d i *ℤ value_at d j

pub axis_square : (d : Four) (i j : ℕ) (v : ℤ)
    → (pos i +ℤ pos j) *ℤ (pos i +ℤ pos j) *ℤ (pos i +ℤ pos j) *ℤ v ≡ pos j *ℤ pos j *ℤ pos j *ℤ d.k0 +ℤ pos 3 *ℤ pos i *ℤ pos j *ℤ pos j *ℤ d.k1 +ℤ pos 3 *ℤ pos i *ℤ pos i *ℤ pos j *ℤ d.k2 +ℤ pos i *ℤ pos i *ℤ pos i *ℤ d.k3
    → sextic i j (coefficient (square_of d)) ≡ v *ℤ v *ℤ pos ((i + j) * (i + j) * (i + j) * (i + j) * (i + j) * (i + j))
axis_square d i j v e =
    sym (squared (pos i) (pos j) d.k0 d.k1 d.k2 d.k3)
    ∙ ap (λ z. z *ℤ z) (sym e)
    ∙ sixths (pos i +ℤ pos j) v
  where
    sixths : (w v : ℤ) → (w *ℤ w *ℤ w *ℤ v) *ℤ (w *ℤ w *ℤ w *ℤ v) ≡ v *ℤ v *ℤ (w *ℤ w *ℤ w *ℤ w *ℤ w *ℤ w)
    sixths w v = ring (from (w ∷ v ∷ [])) ((var 0 :* var 0 :* var 0 :* var 1) :* (var 0 :* var 0 :* var 0 :* var 1)) (var 1 :* var 1 :* (var 0 :* var 0 :* var 0 :* var 0 :* var 0 :* var 0)) refl

    squared : (x y p q r s : ℤ)
        → (y *ℤ y *ℤ y *ℤ p +ℤ pos 3 *ℤ x *ℤ y *ℤ y *ℤ q +ℤ pos 3 *ℤ x *ℤ x *ℤ y *ℤ r +ℤ x *ℤ x *ℤ x *ℤ s) *ℤ (y *ℤ y *ℤ y *ℤ p +ℤ pos 3 *ℤ x *ℤ y *ℤ y *ℤ q +ℤ pos 3 *ℤ x *ℤ x *ℤ y *ℤ r +ℤ x *ℤ x *ℤ x *ℤ s)
        ≡ y *ℤ y *ℤ y *ℤ y *ℤ y *ℤ y *ℤ (p *ℤ p)
        +ℤ x *ℤ y *ℤ y *ℤ y *ℤ y *ℤ y *ℤ (pos 3 *ℤ (p *ℤ q) +ℤ pos 3 *ℤ (q *ℤ p))
        +ℤ x *ℤ x *ℤ y *ℤ y *ℤ y *ℤ y *ℤ (pos 3 *ℤ (p *ℤ r) +ℤ pos 9 *ℤ (q *ℤ q) +ℤ pos 3 *ℤ (r *ℤ p))
        +ℤ x *ℤ x *ℤ x *ℤ y *ℤ y *ℤ y *ℤ (p *ℤ s +ℤ pos 9 *ℤ (q *ℤ r) +ℤ pos 9 *ℤ (r *ℤ q) +ℤ s *ℤ p)
        +ℤ x *ℤ x *ℤ x *ℤ x *ℤ y *ℤ y *ℤ (pos 3 *ℤ (q *ℤ s) +ℤ pos 9 *ℤ (r *ℤ r) +ℤ pos 3 *ℤ (s *ℤ q))
        +ℤ x *ℤ x *ℤ x *ℤ x *ℤ x *ℤ y *ℤ (pos 3 *ℤ (r *ℤ s) +ℤ pos 3 *ℤ (s *ℤ r))
        +ℤ x *ℤ x *ℤ x *ℤ x *ℤ x *ℤ x *ℤ (s *ℤ s)
    squared x y p q r s =
        ring (from (x ∷ y ∷ p ∷ q ∷ r ∷ s ∷ []))
        (let x' = var 0 in let y' = var 1 in let p' = var 2 in let q' = var 3 in let r' = var 4 in let s' = var 5 in let n3 = num (pos 3) in
        (y' :* y' :* y' :* p' :+ n3 :* x' :* y' :* y' :* q' :+ n3 :* x' :* x' :* y' :* r' :+ x' :* x' :* x' :* s') :* (y' :* y' :* y' :* p' :+ n3 :* x' :* y' :* y' :* q' :+ n3 :* x' :* x' :* y' :* r' :+ x' :* x' :* x' :* s'))
        (let x' = var 0 in let y' = var 1 in let p' = var 2 in let q' = var 3 in let r' = var 4 in let s' = var 5 in let n3 = num (pos 3) in let n9 = num (pos 9) in
        y' :* y' :* y' :* y' :* y' :* y' :* (p' :* p')
        :+ x' :* y' :* y' :* y' :* y' :* y' :* (n3 :* (p' :* q') :+ n3 :* (q' :* p'))
        :+ x' :* x' :* y' :* y' :* y' :* y' :* (n3 :* (p' :* r') :+ n9 :* (q' :* q') :+ n3 :* (r' :* p'))
        :+ x' :* x' :* x' :* y' :* y' :* y' :* (p' :* s' :+ n9 :* (q' :* r') :+ n9 :* (r' :* q') :+ s' :* p')
        :+ x' :* x' :* x' :* x' :* y' :* y' :* (n3 :* (q' :* s') :+ n9 :* (r' :* r') :+ n3 :* (s' :* q'))
        :+ x' :* x' :* x' :* x' :* x' :* y' :* (n3 :* (r' :* s') :+ n3 :* (s' :* r'))
        :+ x' :* x' :* x' :* x' :* x' :* x' :* (s' :* s'))
        refl
