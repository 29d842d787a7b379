-- Polynomial identities over ℤ, decided by computing: `ring` brings the difference of two expressions into nested form,
-- and a difference whose coefficients are all 0 is 0.
use Rattle.std.proofs.Common.{◌≡◌, ℕ, zero, suc, ◌+◌, arith, refl, sym, ap, ◌∙◌, Bool, true, false, cond, List}
use Rattle.std.proofs.lemmas.Int.{ints}
use Rattle.std.specs.Prelude.{ℤ, pos, negsuc, ◌+ℤ◌, ◌*ℤ◌, neg_ℤ, slice_index_or}
use lib.IntN.{*ℤ-zero}
use Rattle.cj_interval.proofs.IntegerLemmas.{mul_assoc_ℤ, mul_comm_ℤ, mul-add_ℤ, add-mul_ℤ}

-- a polynomial at level n: a constant, or `a + ρ n * p` with `a` at level n + 1 and `p` at level n
pub data Poly : Type 0 where
  con : ℤ → Poly
  cons : Poly → Poly → Poly

pub data Expr : Type 0 where
  var : ℕ → Expr
  num : ℤ → Expr
  add : Expr → Expr → Expr
  mul : Expr → Expr → Expr
  neg : Expr → Expr

infixl 6 ◌:+◌
abbrev pub ◌:+◌ : Expr → Expr → Expr
a :+ b = add a b

infixl 6 ◌:-◌
abbrev pub ◌:-◌ : Expr → Expr → Expr
a :- b = add a (neg b)

infixl 7 ◌:*◌
abbrev pub ◌:*◌ : Expr → Expr → Expr
a :* b = mul a b

abbrev pub addc : ℤ → Poly → Poly
addc c (con d) = con (c +ℤ d)
addc c (cons a p) = cons (addc c a) p

abbrev pub plus : Poly → Poly → Poly
plus (con c) q = addc c q
plus (cons a p) (con d) = cons (addc d a) p
plus (cons a p) (cons b q) = cons (plus a b) (plus p q)

abbrev pub mulc : ℤ → Poly → Poly
mulc c (con d) = con (c *ℤ d)
mulc c (cons a p) = cons (mulc c a) (mulc c p)

abbrev pub through : (Poly → Poly) → Poly → Poly
through f (con d) = cons (f (con d)) (con (pos 0))
through f (cons b q) = cons (f b) (through f q)

abbrev pub times : Poly → Poly → Poly
times (con c) q = mulc c q
times (cons a p) q = plus (through (times a) q) (cons (con (pos 0)) (times p q))

abbrev pub at_var : ℕ → Poly
at_var zero = cons (con (pos 0)) (cons (con (pos 1)) (con (pos 0)))
at_var (suc k) = cons (at_var k) (con (pos 0))

abbrev pub poly : Expr → Poly
poly (var k) = at_var k
poly (num c) = con c
poly (add a b) = plus (poly a) (poly b)
poly (mul a b) = times (poly a) (poly b)
poly (neg a) = mulc (negsuc 0) (poly a)

abbrev pub all_zero : Poly → Bool
all_zero (con (pos zero)) = true
all_zero (con (pos (suc n))) = false
all_zero (con (negsuc n)) = false
all_zero (cons a p) = cond (all_zero a) (all_zero p) false

abbrev pub value : (ℕ → ℤ) → ℕ → Poly → ℤ
value r n (con c) = c
value r n (cons a p) = value r (suc n) a +ℤ r n *ℤ value r n p

abbrev pub meant : (ℕ → ℤ) → Expr → ℤ
meant r (var k) = r k
meant r (num c) = c
meant r (add a b) = meant r a +ℤ meant r b
meant r (mul a b) = meant r a *ℤ meant r b
meant r (neg a) = neg_ℤ (meant r a)

abbrev pub from : List ℤ → ℕ → ℤ
from xs k = slice_index_or xs k (pos 0)

-- ---- the normal form of an expression has the value of the expression

regroup : (a b x y : ℤ) → (a +ℤ x) +ℤ (b +ℤ y) ≡ (a +ℤ b) +ℤ (x +ℤ y)
regroup a b x y = omega (arith, ints)

value-addc : (r : ℕ → ℤ) (n : ℕ) (c : ℤ) (p : Poly) → value r n (addc c p) ≡ c +ℤ value r n p
value-addc r n c (con d) = refl
value-addc r n c (cons a p) =
    let h = value-addc r (suc n) c a in
    ap (λ z. z +ℤ r n *ℤ value r n p) h ∙ shift c (value r (suc n) a) (r n *ℤ value r n p)
  where
    shift : (x y z : ℤ) → (x +ℤ y) +ℤ z ≡ x +ℤ (y +ℤ z)
    shift x y z = omega (arith, ints)

value-plus : (r : ℕ → ℤ) (n : ℕ) (p q : Poly) → value r n (plus p q) ≡ value r n p +ℤ value r n q
value-plus r n (con c) q = value-addc r n c q
value-plus r n (cons a p) (con d) =
    ap (λ z. z +ℤ r n *ℤ value r n p) (value-addc r (suc n) d a) ∙ turn d (value r (suc n) a) (r n *ℤ value r n p)
  where
    turn : (x y z : ℤ) → (x +ℤ y) +ℤ z ≡ (y +ℤ z) +ℤ x
    turn x y z = omega (arith, ints)
value-plus r n (cons a p) (cons b q) =
    let h = value-plus r (suc n) a b in
    let k = value-plus r n p q in
    ap (λ z. z +ℤ r n *ℤ value r n (plus p q)) h
    ∙ ap (λ z. (value r (suc n) a +ℤ value r (suc n) b) +ℤ r n *ℤ z) k
    ∙ ap (λ z. (value r (suc n) a +ℤ value r (suc n) b) +ℤ z) (mul-add_ℤ (r n) (value r n p) (value r n q))
    ∙ sym (regroup (value r (suc n) a) (value r (suc n) b) (r n *ℤ value r n p) (r n *ℤ value r n q))

value-mulc : (r : ℕ → ℤ) (n : ℕ) (c : ℤ) (p : Poly) → value r n (mulc c p) ≡ c *ℤ value r n p
value-mulc r n c (con d) = refl
value-mulc r n c (cons a p) =
    ap (λ z. z +ℤ r n *ℤ value r n (mulc c p)) (value-mulc r (suc n) c a)
    ∙ ap (λ z. c *ℤ value r (suc n) a +ℤ r n *ℤ z) (value-mulc r n c p)
    ∙ ap (λ z. c *ℤ value r (suc n) a +ℤ z) (sym (mul_assoc_ℤ (r n) c (value r n p)) ∙ ap (λ z. z *ℤ value r n p) (mul_comm_ℤ (r n) c) ∙ mul_assoc_ℤ c (r n) (value r n p))
    ∙ sym (mul-add_ℤ c (value r (suc n) a) (r n *ℤ value r n p))

value-through : (r : ℕ → ℤ) (n : ℕ) (k : ℤ) (f : Poly → Poly) → ((b : Poly) → value r (suc n) (f b) ≡ k *ℤ value r (suc n) b) → (q : Poly) → value r n (through f q) ≡ k *ℤ value r n q
value-through r n k f h (con d) = ap (λ z. z +ℤ r n *ℤ pos 0) (h (con d)) ∙ ap (λ z. k *ℤ d +ℤ z) (*ℤ-zero (r n)) ∙ last (k *ℤ d)
  where
    last : (x : ℤ) → x +ℤ pos 0 ≡ x
    last x = omega (arith, ints)
value-through r n k f h (cons b q) =
    ap (λ z. z +ℤ r n *ℤ value r n (through f q)) (h b)
    ∙ ap (λ z. k *ℤ value r (suc n) b +ℤ r n *ℤ z) (value-through r n k f h q)
    ∙ ap (λ z. k *ℤ value r (suc n) b +ℤ z) (sym (mul_assoc_ℤ (r n) k (value r n q)) ∙ ap (λ z. z *ℤ value r n q) (mul_comm_ℤ (r n) k) ∙ mul_assoc_ℤ k (r n) (value r n q))
    ∙ sym (mul-add_ℤ k (value r (suc n) b) (r n *ℤ value r n q))

value-times : (r : ℕ → ℤ) (n : ℕ) (p q : Poly) → value r n (times p q) ≡ value r n p *ℤ value r n q
value-times r n (con c) q = value-mulc r n c q
value-times r n (cons a p) q =
    value-plus r n (through (times a) q) (cons (con (pos 0)) (times p q))
    ∙ ap (λ z. z +ℤ (pos 0 +ℤ r n *ℤ value r n (times p q))) (value-through r n (value r (suc n) a) (times a) (λ b. value-times r (suc n) a b) q)
    ∙ ap (λ z. value r (suc n) a *ℤ value r n q +ℤ z) (first (r n *ℤ value r n (times p q)))
    ∙ ap (λ z. value r (suc n) a *ℤ value r n q +ℤ r n *ℤ z) (value-times r n p q)
    ∙ ap (λ z. value r (suc n) a *ℤ value r n q +ℤ z) (sym (mul_assoc_ℤ (r n) (value r n p) (value r n q)))
    ∙ sym (add-mul_ℤ (value r (suc n) a) (r n *ℤ value r n p) (value r n q))
  where
    first : (x : ℤ) → pos 0 +ℤ x ≡ x
    first x = omega (arith, ints)

value-at_var : (r : ℕ → ℤ) (n k : ℕ) → value r n (at_var k) ≡ r (k + n)
value-at_var r n zero = only (r n) ∙ ap r (omega arith)
  where
    only : (x : ℤ) → pos 0 +ℤ x *ℤ (pos 1 +ℤ x *ℤ pos 0) ≡ x
    only x = ap (λ z. pos 0 +ℤ x *ℤ (pos 1 +ℤ z)) (*ℤ-zero x) ∙ omega (arith, ints)
value-at_var r n (suc k) =
    ap (λ z. value r (suc n) (at_var k) +ℤ z) (*ℤ-zero (r n)) ∙ last (value r (suc n) (at_var k)) ∙ value-at_var r (suc n) k ∙ ap r (omega arith)
  where
    last : (x : ℤ) → x +ℤ pos 0 ≡ x
    last x = omega (arith, ints)

pub value-poly : (r : ℕ → ℤ) (e : Expr) → value r 0 (poly e) ≡ meant r e
value-poly r (var k) = value-at_var r 0 k ∙ ap r (omega arith)
value-poly r (num c) = refl
value-poly r (add a b) = value-plus r 0 (poly a) (poly b) ∙ ap (λ z. z +ℤ value r 0 (poly b)) (value-poly r a) ∙ ap (λ z. meant r a +ℤ z) (value-poly r b)
value-poly r (mul a b) = value-times r 0 (poly a) (poly b) ∙ ap (λ z. z *ℤ value r 0 (poly b)) (value-poly r a) ∙ ap (λ z. meant r a *ℤ z) (value-poly r b)
value-poly r (neg a) = value-mulc r 0 (negsuc 0) (poly a) ∙ ap (λ z. negsuc 0 *ℤ z) (value-poly r a) ∙ less_one (meant r a)
  where
    less_one : (x : ℤ) → negsuc 0 *ℤ x ≡ neg_ℤ x
    less_one x = omega (arith, ints)

both : (a b : Bool) → cond a b false ≡ true → (a ≡ true) × (b ≡ true)
both true true h = (refl, refl)
both true false h = (refl, h)
both false b h = absurd (cc)

value-all_zero : (r : ℕ → ℤ) (n : ℕ) (p : Poly) → all_zero p ≡ true → value r n p ≡ pos 0
value-all_zero r n (con (pos zero)) h = refl
value-all_zero r n (con (pos (suc k))) h = absurd (cc)
value-all_zero r n (con (negsuc k)) h = absurd (cc)
value-all_zero r n (cons a p) h =
    let two = both (all_zero a) (all_zero p) h in
    ap (λ z. z +ℤ r n *ℤ value r n p) (value-all_zero r (suc n) a two.0)
    ∙ ap (λ z. pos 0 +ℤ r n *ℤ z) (value-all_zero r n p two.1)
    ∙ ap (λ z. pos 0 +ℤ z) (*ℤ-zero (r n))

-- `ring r e f refl` proves that two expressions have one value
pub ring : (r : ℕ → ℤ) (e f : Expr) → all_zero (poly (add e (neg f))) ≡ true → meant r e ≡ meant r f
ring r e f h = same (meant r e) (meant r f) (sym (value-poly r (add e (neg f))) ∙ value-all_zero r 0 (poly (add e (neg f))) h)
  where
    same : (x y : ℤ) → x +ℤ neg_ℤ y ≡ pos 0 → x ≡ y
    same x y e = omega (arith, ints)
