-- Interpolants in parted shells are far apart: the triangle inequality, by squares of whole numbers.
use Rattle.std.proofs.Common.{◌≡◌, ℕ, ◌+◌, ◌-◌, ◌*◌, ◌<◌, ◌≤◌, min, max, Bool, IsTrue, arith, refl, sym, subst, ◌∙◌, [], ◌∷◌}
use Rattle.std.proofs.Math.Nat.{mul-le-mul, le_of_mul-le-mul_right}
use Rattle.std.proofs.lemmas.Bool.{ltb-true}
use Rattle.std.proofs.lemmas.Int.{ints}
use Rattle.std.specs.Prelude.{ℤ, pos, ◌+ℤ◌, ◌-ℤ◌, ◌*ℤ◌, ◌≤ℤ◌, unsigned_abs}
use Rattle.cj_interval.proofs.IntegerLemmas.{mul-le_right}
use Rattle.cj_interval.proofs.RingLemmas.{ring, var, num, ◌:+◌, ◌:-◌, ◌:*◌, from}
use Rattle.cj_interval.proofs.SizeLemmas.{mul_pos}
use Rattle.cj_interval.proofs.SquareLemmas.{square_is, root-le}
use Rattle.cj_hermite.specs.Interpolant.{Curve, place_numerator, place_denominator}
use Rattle.cj_hermite.specs.Distance.{IsFar}
use Rattle.cj_case.specs.declared.shells.Shell.{Shell}
use Rattle.cj_bezier.specs.Shells.{IsRadiusWithin, are_parted}
use Rattle.cj_bezier.proofs.GapLemmas.{squares}

-- the square of a scalar product, and those of the components of a vector product, are the product of the squares
lagrange : (x y z u v w : ℤ) →
    (x *ℤ u +ℤ y *ℤ v +ℤ z *ℤ w) *ℤ (x *ℤ u +ℤ y *ℤ v +ℤ z *ℤ w) +ℤ squares (x *ℤ v -ℤ y *ℤ u) (y *ℤ w -ℤ z *ℤ v) (z *ℤ u -ℤ x *ℤ w)
    ≡ squares x y z *ℤ squares u v w
lagrange x y z u v w = ring (from (x ∷ y ∷ z ∷ u ∷ v ∷ w ∷ []))
    (let X = var 0 in let Y = var 1 in let Z = var 2 in let U = var 3 in let V = var 4 in let W = var 5 in
    (X :* U :+ Y :* V :+ Z :* W) :* (X :* U :+ Y :* V :+ Z :* W) :+ ((X :* V :- Y :* U) :* (X :* V :- Y :* U) :+ (Y :* W :- Z :* V) :* (Y :* W :- Z :* V) :+ (Z :* U :- X :* W) :* (Z :* U :- X :* W)))
    (let X = var 0 in let Y = var 1 in let Z = var 2 in let U = var 3 in let V = var 4 in let W = var 5 in
    (X :* X :+ Y :* Y :+ Z :* Z) :* (U :* U :+ V :* V :+ W :* W))
    refl

-- a sum of squares is a natural number
of_squares : (x y z : ℤ) → (n : ℕ) × (squares x y z ≡ pos n)
of_squares x y z =
    let a = square_is x in let b = square_is y in let c = square_is z in
    (unsigned_abs x * unsigned_abs x + unsigned_abs y * unsigned_abs y + unsigned_abs z * unsigned_abs z, omega (arith, ints))

-- a scalar product is at most the product of the lengths
scalar_within : (x y z u v w : ℤ) (a d : ℕ) → squares x y z ≤ℤ pos (a * a) → squares u v w ≤ℤ pos (d * d) → unsigned_abs (x *ℤ u +ℤ y *ℤ v +ℤ z *ℤ w) ≤ a * d
scalar_within x y z u v w a d h k =
    let s = x *ℤ u +ℤ y *ℤ v +ℤ z *ℤ w in
    let n = of_squares x y z in
    let m = of_squares u v w in
    let rest = of_squares (x *ℤ v -ℤ y *ℤ u) (y *ℤ w -ℤ z *ℤ v) (z *ℤ u -ℤ x *ℤ w) in
    root-le (unsigned_abs s) (a * d)
    (at_most (squares x y z) (squares u v w) (s *ℤ s) (squares (x *ℤ v -ℤ y *ℤ u) (y *ℤ w -ℤ z *ℤ v) (z *ℤ u -ℤ x *ℤ w)) n.0 m.0 rest.0 (unsigned_abs s * unsigned_abs s) a d n.1 m.1 rest.1 (square_is s) (lagrange x y z u v w) h k)
  where
    bounded : (n m a d r q : ℕ) → n ≤ a * a → m ≤ d * d → q + r ≡ n * m → q ≤ (a * d) * (a * d)
    bounded n m a d r q h k e = let p : n * m ≤ (a * a) * (d * d) = mul-le-mul h k in omega arith

    at_most : (p q s t : ℤ) (n m r i a d : ℕ) → p ≡ pos n → q ≡ pos m → t ≡ pos r → s ≡ pos i → s +ℤ t ≡ p *ℤ q → p ≤ℤ pos (a * a) → q ≤ℤ pos (d * d) → i ≤ (a * d) * (a * d)
    at_most p q s t n m r i a d ep eq et es e h k =
        let left : s +ℤ t ≡ pos (i + r) = λ k. es k +ℤ et k in
        let right : p *ℤ q ≡ pos (n * m) = λ k. ep k *ℤ eq k in
        let pq = sym left ∙ e ∙ right in
        bounded n m a d r i (omega (arith, ints)) (omega (arith, ints)) (omega (arith, ints))

-- a place is no further out than another place and the distance between them
triangle : (x y z x' y' z' : ℤ) (a d : ℕ) → squares x y z ≤ℤ pos (a * a) → squares (x -ℤ x') (y -ℤ y') (z -ℤ z') ≤ℤ pos (d * d) → squares x' y' z' ≤ℤ pos ((a + d) * (a + d))
triangle x y z x' y' z' a d h k =
    let s = x *ℤ (x -ℤ x') +ℤ y *ℤ (y -ℤ y') +ℤ z *ℤ (z -ℤ z') in
    let w = scalar_within x y z (x -ℤ x') (y -ℤ y') (z -ℤ z') a d h k in
    sum (squares x' y' z') (squares x y z) (squares (x -ℤ x') (y -ℤ y') (z -ℤ z')) s a d (opened x y z x' y' z') h k w
  where
    opened : (x y z x' y' z' : ℤ) → squares x' y' z' +ℤ pos 2 *ℤ (x *ℤ (x -ℤ x') +ℤ y *ℤ (y -ℤ y') +ℤ z *ℤ (z -ℤ z')) ≡ squares x y z +ℤ squares (x -ℤ x') (y -ℤ y') (z -ℤ z')
    opened x y z x' y' z' = ring (from (x ∷ y ∷ z ∷ x' ∷ y' ∷ z' ∷ []))
        (let X = var 0 in let Y = var 1 in let Z = var 2 in let U = var 3 in let V = var 4 in let W = var 5 in
        (U :* U :+ V :* V :+ W :* W) :+ num (pos 2) :* (X :* (X :- U) :+ Y :* (Y :- V) :+ Z :* (Z :- W)))
        (let X = var 0 in let Y = var 1 in let Z = var 2 in let U = var 3 in let V = var 4 in let W = var 5 in
        (X :* X :+ Y :* Y :+ Z :* Z) :+ ((X :- U) :* (X :- U) :+ (Y :- V) :* (Y :- V) :+ (Z :- W) :* (Z :- W)))
        refl

    sum : (t p q s : ℤ) (a d : ℕ) → t +ℤ pos 2 *ℤ s ≡ p +ℤ q → p ≤ℤ pos (a * a) → q ≤ℤ pos (d * d) → unsigned_abs s ≤ a * d → t ≤ℤ pos ((a + d) * (a + d))
    sum t p q s a d e h k w = omega (arith, ints)

-- the squares of places with denominators p and q, brought to the denominator p * q
scaled : (x y z q : ℤ) → squares (q *ℤ x) (q *ℤ y) (q *ℤ z) ≡ squares x y z *ℤ (q *ℤ q)
scaled x y z q = ring (from (x ∷ y ∷ z ∷ q ∷ []))
    (let X = var 0 in let Y = var 1 in let Z = var 2 in let Q = var 3 in (Q :* X) :* (Q :* X) :+ (Q :* Y) :* (Q :* Y) :+ (Q :* Z) :* (Q :* Z))
    (let X = var 0 in let Y = var 1 in let Z = var 2 in let Q = var 3 in (X :* X :+ Y :* Y :+ Z :* Z) :* (Q :* Q))
    refl

scaled_most : (x y z : ℤ) (r p q : ℕ) → squares x y z ≤ℤ pos (r * r * (p * p)) → squares (pos q *ℤ x) (pos q *ℤ y) (pos q *ℤ z) ≤ℤ pos (r * (p * q) * (r * (p * q)))
scaled_most x y z r p q h =
    let m : (squares x y z *ℤ pos (q * q)) ≤ℤ pos (r * r * (p * p) * (q * q)) = mul-le_right _ _ (q * q) h in
    let e : r * r * (p * p) * (q * q) ≡ r * (p * q) * (r * (p * q)) = omega arith in
    subst (λ (t : ℤ). t ≤ℤ pos (r * (p * q) * (r * (p * q)))) (sym (scaled x y z (pos q))) (subst (λ (n : ℕ). (squares x y z *ℤ pos (q * q)) ≤ℤ pos n) e m)

scaled_least : (x y z : ℤ) (r p q : ℕ) → pos (r * r * (p * p)) ≤ℤ squares x y z → pos (r * (p * q) * (r * (p * q))) ≤ℤ squares (pos q *ℤ x) (pos q *ℤ y) (pos q *ℤ z)
scaled_least x y z r p q h =
    let m : pos (r * r * (p * p) * (q * q)) ≤ℤ (squares x y z *ℤ pos (q * q)) = mul-le_right _ _ (q * q) h in
    let e : r * r * (p * p) * (q * q) ≡ r * (p * q) * (r * (p * q)) = omega arith in
    subst (λ (t : ℤ). pos (r * (p * q) * (r * (p * q))) ≤ℤ t) (sym (scaled x y z (pos q))) (subst (λ (n : ℕ). pos n ≤ℤ (squares x y z *ℤ pos (q * q))) e m)

-- an inner radius is at most an outer radius and the distance
reached : (x y z x' y' z' : ℤ) (hi lo thr p q : ℕ) → 0 < p → 0 < q → squares x y z ≤ℤ pos (hi * hi * (p * p)) → pos (lo * lo * (q * q)) ≤ℤ squares x' y' z'
    → squares (pos q *ℤ x -ℤ pos p *ℤ x') (pos q *ℤ y -ℤ pos p *ℤ y') (pos q *ℤ z -ℤ pos p *ℤ z') ≤ℤ pos (thr * thr * (p * q * (p * q))) → lo ≤ hi + thr
reached x y z x' y' z' hi lo thr p q some some' most least near =
    let d : thr * thr * (p * q * (p * q)) ≡ thr * (p * q) * (thr * (p * q)) = omega arith in
    let t = triangle (pos q *ℤ x) (pos q *ℤ y) (pos q *ℤ z) (pos p *ℤ x') (pos p *ℤ y') (pos p *ℤ z') (hi * (p * q)) (thr * (p * q)) (scaled_most x y z hi p q most)
    (subst (λ (n : ℕ). squares (pos q *ℤ x -ℤ pos p *ℤ x') (pos q *ℤ y -ℤ pos p *ℤ y') (pos q *ℤ z -ℤ pos p *ℤ z') ≤ℤ pos n) d near) in
    let l = scaled_least x' y' z' lo q p least in
    let turned : lo * (q * p) ≡ lo * (p * q) = omega arith in
    let sum : hi * (p * q) + thr * (p * q) ≡ (hi + thr) * (p * q) = omega arith in
    let within = root-le _ _ (between (lo * (q * p) * (lo * (q * p))) _ _ l t) in
    le_of_mul-le-mul_right (subst (λ (n : ℕ). n ≤ (hi + thr) * (p * q)) turned (subst (λ (n : ℕ). lo * (q * p) ≤ n) sum within)) (mul_pos p q some some')
  where
    between : (m n : ℕ) (s : ℤ) → pos m ≤ℤ s → s ≤ℤ pos n → m ≤ n
    between m n s h k = omega (arith, ints)

-- a distance the other way round
turned_round : (x y z x' y' z' p q : ℤ) → squares (q *ℤ x -ℤ p *ℤ x') (q *ℤ y -ℤ p *ℤ y') (q *ℤ z -ℤ p *ℤ z') ≡ squares (p *ℤ x' -ℤ q *ℤ x) (p *ℤ y' -ℤ q *ℤ y) (p *ℤ z' -ℤ q *ℤ z)
turned_round x y z x' y' z' p q = sum_same _ _ _ _ _ _ (one x x' p q) (one y y' p q) (one z z' p q)
  where
    one : (x x' p q : ℤ) → (q *ℤ x -ℤ p *ℤ x') *ℤ (q *ℤ x -ℤ p *ℤ x') ≡ (p *ℤ x' -ℤ q *ℤ x) *ℤ (p *ℤ x' -ℤ q *ℤ x)
    one x x' p q = ring (from (x ∷ x' ∷ p ∷ q ∷ []))
        ((var 3 :* var 0 :- var 2 :* var 1) :* (var 3 :* var 0 :- var 2 :* var 1))
        ((var 2 :* var 1 :- var 3 :* var 0) :* (var 2 :* var 1 :- var 3 :* var 0))
        refl

    sum_same : (a b c a' b' c' : ℤ) → a ≡ a' → b ≡ b' → c ≡ c' → a +ℤ b +ℤ c ≡ a' +ℤ b' +ℤ c'
    sum_same a b c a' b' c' e f g = λ i. e i +ℤ f i +ℤ g i

pub denominator_some : (t : ℕ) → 0 < t → 0 < place_denominator t
denominator_some t some = mul_pos 3000000 (t * t * t) (omega arith) (mul_pos (t * t) t (mul_pos t t some some) some)

-- interpolants in shells that are more than a threshold apart
parted_far : (c d : Curve) (m lo hi lo' hi' thr : ℕ) → 0 < c.span → 0 < d.span → IsRadiusWithin c m lo hi → IsRadiusWithin d m lo' hi' → min hi hi' + thr < max lo lo' → IsFar c d thr m
parted_far c d m lo hi lo' hi' thr some some' h k apart near =
    let p = place_denominator c.span in
    let q = place_denominator d.span in
    let x = place_numerator c.x c.span (m - c.start) in
    let y = place_numerator c.y c.span (m - c.start) in
    let z = place_numerator c.z c.span (m - c.start) in
    let x' = place_numerator d.x d.span (m - d.start) in
    let y' = place_numerator d.y d.span (m - d.start) in
    let z' = place_numerator d.z d.span (m - d.start) in
    let p0 = denominator_some c.span some in
    let q0 = denominator_some d.span some' in
    let own = inner_within p lo hi x y z p0 h.least h.most in
    let other = inner_within q lo' hi' x' y' z' q0 k.least k.most in
    let out = reached x y z x' y' z' hi lo' thr p q p0 q0 h.most k.least near in
    let e : thr * thr * (p * q * (p * q)) ≡ thr * thr * (q * p * (q * p)) = omega arith in
    let back = reached x' y' z' x y z hi' lo thr q p q0 p0 k.most h.least
    (subst (λ (n : ℕ). squares (pos p *ℤ x' -ℤ pos q *ℤ x) (pos p *ℤ y' -ℤ pos q *ℤ y) (pos p *ℤ z' -ℤ pos q *ℤ z) ≤ℤ pos n) e
    (subst (λ (t : ℤ). t ≤ℤ pos (thr * thr * (p * q * (p * q)))) (turned_round x y z x' y' z' (pos p) (pos q)) near)) in
    none hi hi' lo lo' thr own other out back apart
  where
    inner_within : (p lo hi : ℕ) (x y z : ℤ) → 0 < p → pos (lo * lo * (p * p)) ≤ℤ squares x y z → squares x y z ≤ℤ pos (hi * hi * (p * p)) → lo ≤ hi
    inner_within p lo hi x y z some h k =
        let l : lo * lo * (p * p) ≤ hi * hi * (p * p) = omega (arith, ints) in
        root-le lo hi (le_of_mul-le-mul_right l (mul_pos p p some some))

    none : (hi hi' lo lo' thr : ℕ) → lo ≤ hi → lo' ≤ hi' → lo' ≤ hi + thr → lo ≤ hi' + thr → min hi hi' + thr < max lo lo' → ⊥
    none hi hi' lo lo' thr a b c d e = omega arith

-- where a test finds two shells parted
pub law_of : (a b : Shell) (thr : ℕ) (r : Bool) → r ≡ are_parted a b thr → (c d : Curve) (m : ℕ) → 0 < c.span → 0 < d.span → IsRadiusWithin c m a.lo a.hi → IsRadiusWithin d m b.lo b.hi → IsTrue r → IsFar c d thr m
law_of a b thr r e c d m some some' h k holds =
    parted_far c d m a.lo a.hi b.lo b.hi thr some some' h k (ltb-true (min a.hi b.hi + thr) (max a.lo b.lo) (sym e ∙ holds))
