-- The cubic between two ticks, by its exact polar values there.
use Rattle.std.proofs.Common.{◌≡◌, ℕ, ◌+◌, ◌-◌, ◌≤◌, arith, refl, ap, subst, ◌∙◌, [], ◌∷◌}
use Rattle.std.specs.Prelude.{ℤ, pos, ◌+ℤ◌, ◌*ℤ◌}
use Rattle.cj_interval.proofs.RingLemmas.{ring, Expr, var, num, ◌:+◌, ◌:*◌, from}
use Rattle.cj_hermite.specs.Interpolant.{Four}
use Rattle.cj_hermite.specs.Levels.{exact_polar}

-- three levels with the weights of each level written out
abbrev pub levels : ℤ → ℤ → ℤ → ℤ → ℤ → ℤ → ℤ → ℤ → ℤ → ℤ → ℤ
levels k0 k1 k2 k3 y1 x1 y2 x2 y3 x3 =
    ((k0 *ℤ y1 +ℤ k1 *ℤ x1) *ℤ y2 +ℤ (k1 *ℤ y1 +ℤ k2 *ℤ x1) *ℤ x2) *ℤ y3
    +ℤ ((k1 *ℤ y1 +ℤ k2 *ℤ x1) *ℤ y2 +ℤ (k2 *ℤ y1 +ℤ k3 *ℤ x1) *ℤ x2) *ℤ x3

abbrev expr_levels : Expr → Expr → Expr → Expr → Expr → Expr → Expr → Expr → Expr → Expr → Expr
expr_levels k0 k1 k2 k3 y1 x1 y2 x2 y3 x3 =
    ((k0 :* y1 :+ k1 :* x1) :* y2 :+ (k1 :* y1 :+ k2 :* x1) :* x2) :* y3
    :+ ((k1 :* y1 :+ k2 :* x1) :* y2 :+ (k2 :* y1 :+ k3 :* x1) :* x2) :* x3

-- the order of the three arguments is free
pub swap_first : (k0 k1 k2 k3 y1 x1 y2 x2 y3 x3 : ℤ) → levels k0 k1 k2 k3 y1 x1 y2 x2 y3 x3 ≡ levels k0 k1 k2 k3 y2 x2 y1 x1 y3 x3
swap_first k0 k1 k2 k3 y1 x1 y2 x2 y3 x3 =
    ring (from (k0 ∷ k1 ∷ k2 ∷ k3 ∷ y1 ∷ x1 ∷ y2 ∷ x2 ∷ y3 ∷ x3 ∷ []))
    (expr_levels (var 0) (var 1) (var 2) (var 3) (var 4) (var 5) (var 6) (var 7) (var 8) (var 9))
    (expr_levels (var 0) (var 1) (var 2) (var 3) (var 6) (var 7) (var 4) (var 5) (var 8) (var 9))
    refl

pub swap_last : (k0 k1 k2 k3 y1 x1 y2 x2 y3 x3 : ℤ) → levels k0 k1 k2 k3 y1 x1 y2 x2 y3 x3 ≡ levels k0 k1 k2 k3 y1 x1 y3 x3 y2 x2
swap_last k0 k1 k2 k3 y1 x1 y2 x2 y3 x3 =
    ring (from (k0 ∷ k1 ∷ k2 ∷ k3 ∷ y1 ∷ x1 ∷ y2 ∷ x2 ∷ y3 ∷ x3 ∷ []))
    (expr_levels (var 0) (var 1) (var 2) (var 3) (var 4) (var 5) (var 6) (var 7) (var 8) (var 9))
    (expr_levels (var 0) (var 1) (var 2) (var 3) (var 4) (var 5) (var 8) (var 9) (var 6) (var 7))
    refl

-- and each argument's weight is affine: here the last
pub affine_last : (u v y s i j : ℤ)
    → (i +ℤ j) *ℤ (u *ℤ (y +ℤ j) +ℤ v *ℤ (s +ℤ i))
    ≡ j *ℤ (u *ℤ (y +ℤ (i +ℤ j)) +ℤ v *ℤ s) +ℤ i *ℤ (u *ℤ y +ℤ v *ℤ (s +ℤ (i +ℤ j)))
affine_last u v y s i j =
    let U = var 0 in let V = var 1 in let Y = var 2 in let S = var 3 in let I = var 4 in let J = var 5 in
    ring (from (u ∷ v ∷ y ∷ s ∷ i ∷ j ∷ []))
    ((I :+ J) :* (U :* (Y :+ J) :+ V :* (S :+ I)))
    (J :* (U :* (Y :+ (I :+ J)) :+ V :* S) :+ I :* (U :* Y :+ V :* (S :+ (I :+ J))))
    refl

-- six affine steps make the cubic
cubic_of_steps : (i j w mmm amm bmm aam abm bbm aaa aab abb bbb : ℤ)
    → w *ℤ mmm ≡ j *ℤ amm +ℤ i *ℤ bmm
    → w *ℤ amm ≡ j *ℤ aam +ℤ i *ℤ abm
    → w *ℤ bmm ≡ j *ℤ abm +ℤ i *ℤ bbm
    → w *ℤ aam ≡ j *ℤ aaa +ℤ i *ℤ aab
    → w *ℤ abm ≡ j *ℤ aab +ℤ i *ℤ abb
    → w *ℤ bbm ≡ j *ℤ abb +ℤ i *ℤ bbb
    → w *ℤ w *ℤ w *ℤ mmm ≡ j *ℤ j *ℤ j *ℤ aaa +ℤ pos 3 *ℤ i *ℤ j *ℤ j *ℤ aab +ℤ pos 3 *ℤ i *ℤ i *ℤ j *ℤ abb +ℤ i *ℤ i *ℤ i *ℤ bbb
cubic_of_steps i j w mmm amm bmm aam abm bbm aaa aab abb bbb e1 e2 e3 e4 e5 e6 =
    push w w mmm
    ∙ ap (λ z. w *ℤ (w *ℤ z)) e1
    ∙ outer w j i amm bmm
    ∙ ap (λ z. w *ℤ (j *ℤ z +ℤ i *ℤ (w *ℤ bmm))) e2
    ∙ ap (λ z. w *ℤ (j *ℤ (j *ℤ aam +ℤ i *ℤ abm) +ℤ i *ℤ z)) e3
    ∙ middle w j i aam abm bbm
    ∙ ap (λ z. j *ℤ j *ℤ z +ℤ pos 2 *ℤ i *ℤ j *ℤ (w *ℤ abm) +ℤ i *ℤ i *ℤ (w *ℤ bbm)) e4
    ∙ ap (λ z. j *ℤ j *ℤ (j *ℤ aaa +ℤ i *ℤ aab) +ℤ pos 2 *ℤ i *ℤ j *ℤ z +ℤ i *ℤ i *ℤ (w *ℤ bbm)) e5
    ∙ ap (λ z. j *ℤ j *ℤ (j *ℤ aaa +ℤ i *ℤ aab) +ℤ pos 2 *ℤ i *ℤ j *ℤ (j *ℤ aab +ℤ i *ℤ abb) +ℤ i *ℤ i *ℤ z) e6
    ∙ inner j i aaa aab abb bbb
  where
    push : (w v m : ℤ) → w *ℤ v *ℤ w *ℤ m ≡ w *ℤ (v *ℤ (w *ℤ m))
    push w v m = ring (from (w ∷ v ∷ m ∷ [])) (var 0 :* var 1 :* var 0 :* var 2) (var 0 :* (var 1 :* (var 0 :* var 2))) refl

    outer : (w j i p q : ℤ) → w *ℤ (w *ℤ (j *ℤ p +ℤ i *ℤ q)) ≡ w *ℤ (j *ℤ (w *ℤ p) +ℤ i *ℤ (w *ℤ q))
    outer w j i p q = ring (from (w ∷ j ∷ i ∷ p ∷ q ∷ []))
        (var 0 :* (var 0 :* (var 1 :* var 3 :+ var 2 :* var 4))) (var 0 :* (var 1 :* (var 0 :* var 3) :+ var 2 :* (var 0 :* var 4))) refl

    middle : (w j i p q r : ℤ) → w *ℤ (j *ℤ (j *ℤ p +ℤ i *ℤ q) +ℤ i *ℤ (j *ℤ q +ℤ i *ℤ r)) ≡ j *ℤ j *ℤ (w *ℤ p) +ℤ pos 2 *ℤ i *ℤ j *ℤ (w *ℤ q) +ℤ i *ℤ i *ℤ (w *ℤ r)
    middle w j i p q r = ring (from (w ∷ j ∷ i ∷ p ∷ q ∷ r ∷ []))
        (var 0 :* (var 1 :* (var 1 :* var 3 :+ var 2 :* var 4) :+ var 2 :* (var 1 :* var 4 :+ var 2 :* var 5)))
        (var 1 :* var 1 :* (var 0 :* var 3) :+ num (pos 2) :* var 2 :* var 1 :* (var 0 :* var 4) :+ var 2 :* var 2 :* (var 0 :* var 5)) refl

    inner : (j i a b c d : ℤ) → j *ℤ j *ℤ (j *ℤ a +ℤ i *ℤ b) +ℤ pos 2 *ℤ i *ℤ j *ℤ (j *ℤ b +ℤ i *ℤ c) +ℤ i *ℤ i *ℤ (j *ℤ c +ℤ i *ℤ d)
        ≡ j *ℤ j *ℤ j *ℤ a +ℤ pos 3 *ℤ i *ℤ j *ℤ j *ℤ b +ℤ pos 3 *ℤ i *ℤ i *ℤ j *ℤ c +ℤ i *ℤ i *ℤ i *ℤ d
    inner j i a b c d = ring (from (j ∷ i ∷ a ∷ b ∷ c ∷ d ∷ []))
        (var 0 :* var 0 :* (var 0 :* var 2 :+ var 1 :* var 3) :+ num (pos 2) :* var 1 :* var 0 :* (var 0 :* var 3 :+ var 1 :* var 4) :+ var 1 :* var 1 :* (var 0 :* var 4 :+ var 1 :* var 5))
        (var 0 :* var 0 :* var 0 :* var 2 :+ num (pos 3) :* var 1 :* var 0 :* var 0 :* var 3 :+ num (pos 3) :* var 1 :* var 1 :* var 0 :* var 4 :+ var 1 :* var 1 :* var 1 :* var 5) refl

-- a symmetric form of three arguments that is affine between a and b in the last
pub polar_cubic : {A : Type 0} (L : A → A → A → ℤ) (a b m : A) (i j w : ℤ)
    → ((u v z : A) → L u v z ≡ L v u z) → ((u v z : A) → L u v z ≡ L u z v)
    → ((u v : A) → w *ℤ L u v m ≡ j *ℤ L u v a +ℤ i *ℤ L u v b)
    → w *ℤ w *ℤ w *ℤ L m m m ≡ j *ℤ j *ℤ j *ℤ L a a a +ℤ pos 3 *ℤ i *ℤ j *ℤ j *ℤ L a a b +ℤ pos 3 *ℤ i *ℤ i *ℤ j *ℤ L a b b +ℤ i *ℤ i *ℤ i *ℤ L b b b
polar_cubic L a b m i j w first last step =
    let out = λ (u v : _). first m u v ∙ last u m v in
    cubic_of_steps i j w (L m m m) (L m m a) (L m m b) (L m a a) (L m a b) (L m b b) (L a a a) (L a a b) (L a b b) (L b b b)
    (step m m)
    (ap (λ z. w *ℤ z) (last m m a) ∙ step m a)
    (ap (λ z. w *ℤ z) (last m m b) ∙ step m b ∙ ap (λ z. j *ℤ z +ℤ i *ℤ L m b b) (last m b a))
    (ap (λ z. w *ℤ z) (out a a) ∙ step a a)
    (ap (λ z. w *ℤ z) (out a b) ∙ step a b ∙ ap (λ z. j *ℤ z +ℤ i *ℤ L a b b) (last a b a))
    (ap (λ z. w *ℤ z) (out b b) ∙ step b b ∙ ap (λ z. j *ℤ z +ℤ i *ℤ L b b b) (last b b a ∙ first b a b))

-- the two weights of a level
pub record Weights : Type 0 where
  pub before : ℤ
  pub after : ℤ

abbrev pub at_weights : ℤ → ℤ → ℤ → ℤ → Weights → Weights → Weights → ℤ
at_weights k0 k1 k2 k3 p q r = levels k0 k1 k2 k3 p.before p.after q.before q.after r.before r.after

affine_ticks : (u v : ℤ) (t a m b : ℕ) → a ≤ m → m ≤ b → b ≤ t
    → pos (b - a) *ℤ (u *ℤ pos (t - m) +ℤ v *ℤ pos m) ≡ pos (b - m) *ℤ (u *ℤ pos (t - a) +ℤ v *ℤ pos a) +ℤ pos (m - a) *ℤ (u *ℤ pos (t - b) +ℤ v *ℤ pos b)
affine_ticks u v t a m b p q r =
    let e1 : t - b + (b - m) ≡ t - m = omega arith in
    let e2 : a + (m - a) ≡ m = omega arith in
    let e3 : t - b + (m - a + (b - m)) ≡ t - a = omega arith in
    let e4 : a + (m - a + (b - m)) ≡ b = omega arith in
    let e5 : m - a + (b - m) ≡ b - a = omega arith in
    subst (λ (n : ℕ). pos n *ℤ (u *ℤ pos (t - m) +ℤ v *ℤ pos m) ≡ pos (b - m) *ℤ (u *ℤ pos (t - a) +ℤ v *ℤ pos a) +ℤ pos (m - a) *ℤ (u *ℤ pos (t - b) +ℤ v *ℤ pos b)) e5
    (subst (λ (n : ℕ). pos (m - a + (b - m)) *ℤ (u *ℤ pos (t - m) +ℤ v *ℤ pos m) ≡ pos (b - m) *ℤ (u *ℤ pos (t - a) +ℤ v *ℤ pos a) +ℤ pos (m - a) *ℤ (u *ℤ pos (t - b) +ℤ v *ℤ pos n)) e4
    (subst (λ (n : ℕ). pos (m - a + (b - m)) *ℤ (u *ℤ pos (t - m) +ℤ v *ℤ pos m) ≡ pos (b - m) *ℤ (u *ℤ pos n +ℤ v *ℤ pos a) +ℤ pos (m - a) *ℤ (u *ℤ pos (t - b) +ℤ v *ℤ pos (a + (m - a + (b - m))))) e3
    (subst (λ (n : ℕ). pos (m - a + (b - m)) *ℤ (u *ℤ pos (t - m) +ℤ v *ℤ pos n) ≡ pos (b - m) *ℤ (u *ℤ pos (t - b + (m - a + (b - m))) +ℤ v *ℤ pos a) +ℤ pos (m - a) *ℤ (u *ℤ pos (t - b) +ℤ v *ℤ pos (a + (m - a + (b - m))))) e2
    (subst (λ (n : ℕ). pos (m - a + (b - m)) *ℤ (u *ℤ pos n +ℤ v *ℤ pos (a + (m - a))) ≡ pos (b - m) *ℤ (u *ℤ pos (t - b + (m - a + (b - m))) +ℤ v *ℤ pos a) +ℤ pos (m - a) *ℤ (u *ℤ pos (t - b) +ℤ v *ℤ pos (a + (m - a + (b - m))))) e1
    (affine_last u v (pos (t - b)) (pos a) (pos (m - a)) (pos (b - m)))))))

-- the curve at m by its polar values at a and b
pub bernstein_ticks : (k : Four) (t a m b : ℕ) → a ≤ m → m ≤ b → b ≤ t
    → let i = pos (m - a) in let j = pos (b - m) in let w = pos (b - a) in let L = exact_polar k t in
    w *ℤ w *ℤ w *ℤ L m m m ≡ j *ℤ j *ℤ j *ℤ L a a a +ℤ pos 3 *ℤ i *ℤ j *ℤ j *ℤ L a a b +ℤ pos 3 *ℤ i *ℤ i *ℤ j *ℤ L a b b +ℤ i *ℤ i *ℤ i *ℤ L b b b
bernstein_ticks k t a m b p q r =
    let wt = λ (u : ℕ). let x : Weights = record { before = pos (t - u); after = pos u } in x in
    polar_cubic (at_weights k.k0 k.k1 k.k2 k.k3) (wt a) (wt b) (wt m) (pos (m - a)) (pos (b - m)) (pos (b - a))
    (λ p q r. swap_first k.k0 k.k1 k.k2 k.k3 p.before p.after q.before q.after r.before r.after)
    (λ p q r. swap_last k.k0 k.k1 k.k2 k.k3 p.before p.after q.before q.after r.before r.after)
    (λ x y. affine_ticks
    ((k.k0 *ℤ x.before +ℤ k.k1 *ℤ x.after) *ℤ y.before +ℤ (k.k1 *ℤ x.before +ℤ k.k2 *ℤ x.after) *ℤ y.after)
    ((k.k1 *ℤ x.before +ℤ k.k2 *ℤ x.after) *ℤ y.before +ℤ (k.k2 *ℤ x.before +ℤ k.k3 *ℤ x.after) *ℤ y.after) t a m b p q r)
