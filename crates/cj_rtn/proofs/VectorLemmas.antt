-- Vectors: lengths by their squares, and how far sums and products are from each other.
use Rattle.std.proofs.Common.{◌≡◌, ℕ, ◌+◌, ◌*◌, ◌<◌, ◌≤◌, arith, refl, sym, ap, subst, ◌∙◌, [], ◌∷◌, inl, inr}
use Rattle.std.proofs.Math.Nat.{mul-le-mul, mul-le-mul_left}
use Rattle.std.proofs.lemmas.Bool.{cases_lt}
use Rattle.std.proofs.lemmas.Int.{ints}
use Rattle.std.specs.Prelude.{ℤ, pos, ◌+ℤ◌, ◌-ℤ◌, ◌*ℤ◌, ◌≤ℤ◌, ◌<ℤ◌, unsigned_abs}
use Rattle.cj_interval.specs.Rounding.{floor_div}
use Rattle.cj_interval.specs.Sizes.{IsWithin}
use Rattle.cj_interval.proofs.IntegerLemmas.{mul_assoc_ℤ, mul_comm_ℤ}
use Rattle.cj_interval.proofs.RingLemmas.{ring, var, num, ◌:+◌, ◌:-◌, ◌:*◌, from}
use Rattle.cj_interval.proofs.RoundingLemmas.{floor_div-le, floor_div-gt}
use Rattle.cj_interval.proofs.SquareLemmas.{root-le, square_is}
use Rattle.cj_rtn.specs.declared.vector.Vector.{Vector}
use Rattle.cj_rtn.specs.Vectors.{IsEachWithin, dot, cross, less, divided, square}

-- each component k times as large
unfoldable pub times : ℕ → Vector → Vector
times k a = record { x = pos k *ℤ a.x; y = pos k *ℤ a.y; z = pos k *ℤ a.z }

-- at most n long
pub record IsUpTo (n : ℕ) (a : Vector) : Type 0 where
  pub square_le : square a ≤ n * n

-- at least n long
pub record IsFrom (n : ℕ) (a : Vector) : Type 0 where
  pub square_ge : n * n ≤ square a

-- the second is at most n from the first
pub record IsBy (n : ℕ) (a b : Vector) : Type 0 where
  pub square_le : square (less b a) ≤ n * n

same_vector : (a b : Vector) → a.x ≡ b.x → a.y ≡ b.y → a.z ≡ b.z → a ≡ b
same_vector a b x y z =
    ap (λ (t : ℤ). record { x = t; y = a.y; z = a.z }) x
    ∙ ap (λ (t : ℤ). record { x = b.x; y = t; z = a.z }) y
    ∙ ap (λ (t : ℤ). record { x = b.x; y = b.y; z = t }) z

-- ---- squares of lengths

not_negative : (z : ℤ) → z *ℤ z ≡ pos (unsigned_abs z * unsigned_abs z)
not_negative z = square_is z

pub dot_is : (a : Vector) → dot a a ≡ pos (square a)
unfolding dot square
dot_is a = sum_is (a.x *ℤ a.x) (a.y *ℤ a.y) (a.z *ℤ a.z) _ _ _ (square_is a.x) (square_is a.y) (square_is a.z)
  where
    sum_is : (x y z : ℤ) (m n k : ℕ) → x ≡ pos m → y ≡ pos n → z ≡ pos k → x +ℤ y +ℤ z ≡ pos (unsigned_abs (x +ℤ y +ℤ z))
    sum_is x y z m n k e f g = omega (arith, ints)

pub square_sum : (a : Vector) → square a ≡ unsigned_abs a.x * unsigned_abs a.x + unsigned_abs a.y * unsigned_abs a.y + unsigned_abs a.z * unsigned_abs a.z
unfolding dot square
square_sum a = sum_is (a.x *ℤ a.x) (a.y *ℤ a.y) (a.z *ℤ a.z) _ _ _ (square_is a.x) (square_is a.y) (square_is a.z)
  where
    sum_is : (x y z : ℤ) (m n k : ℕ) → x ≡ pos m → y ≡ pos n → z ≡ pos k → unsigned_abs (x +ℤ y +ℤ z) ≡ m + n + k
    sum_is x y z m n k e f g = omega (arith, ints)

pub each_upto : (m : ℕ) (a : Vector) → IsEachWithin m a → square a ≤ 3 * (m * m)
each_upto m a h =
    let x = mul-le-mul h.x h.x in
    let y = mul-le-mul h.y h.y in
    let z = mul-le-mul h.z h.z in
    let s = square_sum a in
    omega arith

-- ---- products

lagrange : (a b : Vector) → dot a a *ℤ dot b b ≡ dot a b *ℤ dot a b +ℤ dot (cross a b) (cross a b)
unfolding dot cross
lagrange a b =
    let a1 = var 0 in let a2 = var 1 in let a3 = var 2 in let b1 = var 3 in let b2 = var 4 in let b3 = var 5 in
    ring (from (a.x ∷ a.y ∷ a.z ∷ b.x ∷ b.y ∷ b.z ∷ []))
    ((a1 :* a1 :+ a2 :* a2 :+ a3 :* a3) :* (b1 :* b1 :+ b2 :* b2 :+ b3 :* b3))
    ((a1 :* b1 :+ a2 :* b2 :+ a3 :* b3) :* (a1 :* b1 :+ a2 :* b2 :+ a3 :* b3)
    :+ ((a2 :* b3 :- a3 :* b2) :* (a2 :* b3 :- a3 :* b2) :+ (a3 :* b1 :- a1 :* b3) :* (a3 :* b1 :- a1 :* b3) :+ (a1 :* b2 :- a2 :* b1) :* (a1 :* b2 :- a2 :* b1)))
    refl

-- the squares of the scalar and the vector product add up to that of the lengths
pub products : (a b : Vector) → square a * square b ≡ unsigned_abs (dot a b) * unsigned_abs (dot a b) + square (cross a b)
products a b =
    let aa = dot_is a in
    let bb = dot_is b in
    let xx = dot_is (cross a b) in
    let ab = square_is (dot a b) in
    whole _ _ _ _ (square a) (square b) (unsigned_abs (dot a b) * unsigned_abs (dot a b)) (square (cross a b)) aa bb ab xx (lagrange a b)
  where
    whole : (p q r s : ℤ) (a b u x : ℕ) → p ≡ pos a → q ≡ pos b → r ≡ pos u → s ≡ pos x → p *ℤ q ≡ r +ℤ s → a * b ≡ u + x
    whole p q r s a b u x e f g h k = ap unsigned_abs (sym (ap (λ (t : ℤ). t *ℤ pos b) e) ∙ ap (λ (t : ℤ). p *ℤ t) (sym f) ∙ k ∙ ap (λ (t : ℤ). t +ℤ s) g ∙ ap (λ (t : ℤ). pos u +ℤ t) h)

regroup : (p q : ℕ) → p * p * (q * q) ≡ p * q * (p * q)
regroup p q = omega arith

pub dot_within : (p q : ℕ) (a b : Vector) → IsUpTo p a → IsUpTo q b → IsWithin (p * q) (dot a b)
dot_within p q a b h k =
    let both = mul-le-mul h.square_le k.square_le in
    let sum = products a b in
    let same = regroup p q in
    root-le (unsigned_abs (dot a b)) (p * q) (omega arith)

pub cross_upto : (p q : ℕ) (a b : Vector) → IsUpTo p a → IsUpTo q b → IsUpTo (p * q) (cross a b)
cross_upto p q a b h k =
    let both = mul-le-mul h.square_le k.square_le in
    let sum = products a b in
    let same = regroup p q in
    record { square_le = omega arith }

-- ---- sums

grown : (a b : Vector) → dot b b ≡ dot a a +ℤ pos 2 *ℤ dot a (less b a) +ℤ dot (less b a) (less b a)
unfolding dot less
grown a b =
    let a1 = var 0 in let a2 = var 1 in let a3 = var 2 in let b1 = var 3 in let b2 = var 4 in let b3 = var 5 in
    let d1 = b1 :- a1 in let d2 = b2 :- a2 in let d3 = b3 :- a3 in
    ring (from (a.x ∷ a.y ∷ a.z ∷ b.x ∷ b.y ∷ b.z ∷ []))
    (b1 :* b1 :+ b2 :* b2 :+ b3 :* b3)
    ((a1 :* a1 :+ a2 :* a2 :+ a3 :* a3) :+ num (pos 2) :* (a1 :* d1 :+ a2 :* d2 :+ a3 :* d3) :+ (d1 :* d1 :+ d2 :* d2 :+ d3 :* d3))
    refl

same_square : (a b : Vector) → dot (less a b) (less a b) ≡ dot (less b a) (less b a)
unfolding dot less
same_square a b =
    let a1 = var 0 in let a2 = var 1 in let a3 = var 2 in let b1 = var 3 in let b2 = var 4 in let b3 = var 5 in
    ring (from (a.x ∷ a.y ∷ a.z ∷ b.x ∷ b.y ∷ b.z ∷ []))
    ((a1 :- b1) :* (a1 :- b1) :+ (a2 :- b2) :* (a2 :- b2) :+ (a3 :- b3) :* (a3 :- b3))
    ((b1 :- a1) :* (b1 :- a1) :+ (b2 :- a2) :* (b2 :- a2) :+ (b3 :- a3) :* (b3 :- a3))
    refl

pub less_turned : (a b : Vector) → square (less a b) ≡ square (less b a)
less_turned a b =
    let one = dot_is (less a b) in
    let two = dot_is (less b a) in
    whole (square (less a b)) (square (less b a)) (sym one ∙ same_square a b ∙ two)
  where
    whole : (m n : ℕ) → pos m ≡ pos n → m ≡ n
    whole m n e = ap unsigned_abs e

pub by_turned : (n : ℕ) (a b : Vector) → IsBy n a b → IsBy n b a
by_turned n a b h = record { square_le = subst (λ (k : ℕ). k ≤ n * n) (less_turned b a) h.square_le }

-- what is at most k from a vector of at most p is at most p + k long
pub near_upto : (p k : ℕ) (a b : Vector) → IsUpTo p a → IsBy k a b → IsUpTo (p + k) b
near_upto p k a b h near =
    let d : IsUpTo k (less b a) = record { square_le = near.square_le } in
    record {
      square_le = bound (dot a a) (dot a (less b a)) (dot (less b a) (less b a)) (dot b b) (square a) (square (less b a)) (square b) p k
          (dot_is a) (dot_is (less b a)) (dot_is b) (grown a b) h.square_le near.square_le (dot_within p k a (less b a) h d);
    }
  where
    bound : (aa ad dd bb : ℤ) (a d b p k : ℕ) → aa ≡ pos a → dd ≡ pos d → bb ≡ pos b → bb ≡ aa +ℤ pos 2 *ℤ ad +ℤ dd → a ≤ p * p → d ≤ k * k → IsWithin (p * k) ad → b ≤ (p + k) * (p + k)
    bound aa ad dd bb a d b p k e f g h i j w = omega (arith, ints)

-- what is at most k from a vector of at least n + k is at least n long
pub near_from : (n k : ℕ) (a b : Vector) → IsFrom (n + k) a → IsBy k a b → IsFrom n b
near_from n k a b h near = elim (cases_lt (square b) (n * n)) [
  | inr ge ↦ record { square_ge = ge }
  | inl lt ↦
      let d = by_turned k a b near in
      let up : IsUpTo n b = record { square_le = omega arith } in
      let apart : IsUpTo k (less a b) = record { square_le = d.square_le } in
      absurd (clash (dot b b) (dot b (less a b)) (dot (less a b) (less a b)) (dot a a) (square b) (square (less a b)) (square a) n k
      (dot_is b) (dot_is (less a b)) (dot_is a) (grown b a) lt d.square_le (dot_within n k b (less a b) up apart) h.square_ge)
]
  where
    clash : (bb bd dd aa : ℤ) (b d a n k : ℕ) → bb ≡ pos b → dd ≡ pos d → aa ≡ pos a → aa ≡ bb +ℤ pos 2 *ℤ bd +ℤ dd → b < n * n → d ≤ k * k → IsWithin (n * k) bd → (n + k) * (n + k) ≤ a → ⊥
    clash bb bd dd aa b d a n k e f g h i j w l = omega (arith, ints)

step : (a b c : Vector) → less (less c a) (less b a) ≡ less c b
unfolding less
step a b c = same_vector _ _ (gap a.x b.x c.x) (gap a.y b.y c.y) (gap a.z b.z c.z)
  where
    gap : (a b c : ℤ) → (c -ℤ a) -ℤ (b -ℤ a) ≡ c -ℤ b
    gap a b c = omega (arith, ints)

-- two steps
pub by_steps : (p q : ℕ) (a b c : Vector) → IsBy p a b → IsBy q b c → IsBy (p + q) a c
by_steps p q a b c h k =
    let first : IsUpTo p (less b a) = record { square_le = h.square_le } in
    let second : IsBy q (less b a) (less c a) = record { square_le = subst (λ (v : Vector). square v ≤ q * q) (sym (step a b c)) k.square_le } in
    let sum = near_upto p q (less b a) (less c a) first second in
    record { square_le = sum.square_le }

-- ---- multiples

pub dot-times : (k : ℕ) (a b : Vector) → dot a (times k b) ≡ pos k *ℤ dot a b
unfolding dot times
dot-times k a b =
    ring (from (a.x ∷ a.y ∷ a.z ∷ b.x ∷ b.y ∷ b.z ∷ pos k ∷ []))
    (var 0 :* (var 6 :* var 3) :+ var 1 :* (var 6 :* var 4) :+ var 2 :* (var 6 :* var 5)) (var 6 :* (var 0 :* var 3 :+ var 1 :* var 4 :+ var 2 :* var 5)) refl

pub dot_turned : (a b : Vector) → dot a b ≡ dot b a
unfolding dot
dot_turned a b =
    ring (from (a.x ∷ a.y ∷ a.z ∷ b.x ∷ b.y ∷ b.z ∷ [])) (var 0 :* var 3 :+ var 1 :* var 4 :+ var 2 :* var 5) (var 3 :* var 0 :+ var 4 :* var 1 :+ var 5 :* var 2) refl

-- the scalar product with what b is, and with what is left
pub dot-less : (a b c : Vector) → dot a b ≡ dot a c +ℤ dot a (less b c)
unfolding dot less
dot-less a b c =
    ring (from (a.x ∷ a.y ∷ a.z ∷ b.x ∷ b.y ∷ b.z ∷ c.x ∷ c.y ∷ c.z ∷ []))
    (var 0 :* var 3 :+ var 1 :* var 4 :+ var 2 :* var 5)
    ((var 0 :* var 6 :+ var 1 :* var 7 :+ var 2 :* var 8) :+ (var 0 :* (var 3 :- var 6) :+ var 1 :* (var 4 :- var 7) :+ var 2 :* (var 5 :- var 8)))
    refl

pub square-times : (k : ℕ) (a : Vector) → square (times k a) ≡ k * k * square a
square-times k a =
    let one = dot_is (times k a) in
    let two = dot-times k (times k a) a in
    let three = dot_turned (times k a) a ∙ dot-times k a a in
    whole (square (times k a)) k (square a) (sym one ∙ two ∙ ap (λ (z : ℤ). pos k *ℤ z) (three ∙ ap (λ (z : ℤ). pos k *ℤ z) (dot_is a)))
  where
    whole : (m k n : ℕ) → pos m ≡ pos k *ℤ (pos k *ℤ pos n) → m ≡ k * k * n
    whole m k n e = ap unsigned_abs e ∙ (let same : k * (k * n) ≡ k * k * n = omega arith in same)

spread : (k n : ℕ) → k * k * (n * n) ≡ k * n * (k * n)
spread k n = omega arith

pub times_upto : (k n : ℕ) (a : Vector) → IsUpTo n a → IsUpTo (k * n) (times k a)
times_upto k n a h =
    let more = mul-le-mul_left (k * k) h.square_le in
    let same = square-times k a in
    let sum = spread k n in
    record { square_le = omega arith }

pub times_from : (k n : ℕ) (a : Vector) → IsFrom n a → IsFrom (k * n) (times k a)
times_from k n a h =
    let more = mul-le-mul_left (k * k) h.square_ge in
    let same = square-times k a in
    let sum = spread k n in
    record { square_ge = omega arith }

apart : (k : ℕ) (a b : Vector) → less (times k b) (times k a) ≡ times k (less b a)
unfolding less times
apart k a b = same_vector _ _ (gap (pos k) a.x b.x) (gap (pos k) a.y b.y) (gap (pos k) a.z b.z)
  where
    gap : (k a b : ℤ) → k *ℤ b -ℤ k *ℤ a ≡ k *ℤ (b -ℤ a)
    gap k a b = ring (from (k ∷ a ∷ b ∷ [])) (var 0 :* var 2 :- var 0 :* var 1) (var 0 :* (var 2 :- var 1)) refl

pub times_by : (k n : ℕ) (a b : Vector) → IsBy n a b → IsBy (k * n) (times k a) (times k b)
times_by k n a b h =
    let d : IsUpTo n (less b a) = record { square_le = h.square_le } in
    let more = times_upto k n (less b a) d in
    record { square_le = subst (λ (v : Vector). square v ≤ k * n * (k * n)) (sym (apart k a b)) more.square_le }

pub times-times : (k l : ℕ) (a : Vector) → times k (times l a) ≡ times (k * l) a
unfolding times
times-times k l a = same_vector _ _ (sym (mul_assoc_ℤ (pos k) (pos l) a.x)) (sym (mul_assoc_ℤ (pos k) (pos l) a.y)) (sym (mul_assoc_ℤ (pos k) (pos l) a.z))

pub cross-times : (k l : ℕ) (a b : Vector) → cross (times k a) (times l b) ≡ times (k * l) (cross a b)
unfolding cross times
cross-times k l a b = same_vector _ _ (axis (pos k) (pos l) a.y b.z a.z b.y) (axis (pos k) (pos l) a.z b.x a.x b.z) (axis (pos k) (pos l) a.x b.y a.y b.x)
  where
    axis : (k l p q r s : ℤ) → (k *ℤ p) *ℤ (l *ℤ q) -ℤ (k *ℤ r) *ℤ (l *ℤ s) ≡ (k *ℤ l) *ℤ (p *ℤ q -ℤ r *ℤ s)
    axis k l p q r s =
        ring (from (k ∷ l ∷ p ∷ q ∷ r ∷ s ∷ [])) (var 0 :* var 2 :* (var 1 :* var 3) :- var 0 :* var 4 :* (var 1 :* var 5)) (var 0 :* var 1 :* (var 2 :* var 3 :- var 4 :* var 5)) refl

-- ---- vector products of what is near

rest : (a b c d : Vector) → less (less (cross c d) (cross a b)) (cross a (less d b)) ≡ cross (less c a) d
unfolding cross less
rest a b c d =
    same_vector _ _ (axis a.y b.z c.y d.z a.z b.y c.z d.y) (axis a.z b.x c.z d.x a.x b.z c.x d.z) (axis a.x b.y c.x d.y a.y b.x c.y d.x)
  where
    axis : (a b c d e f g h : ℤ) → ((c *ℤ d -ℤ g *ℤ h) -ℤ (a *ℤ b -ℤ e *ℤ f)) -ℤ (a *ℤ (d -ℤ b) -ℤ e *ℤ (h -ℤ f)) ≡ (c -ℤ a) *ℤ d -ℤ (g -ℤ e) *ℤ h
    axis a b c d e f g h =
        ring (from (a ∷ b ∷ c ∷ d ∷ e ∷ f ∷ g ∷ h ∷ []))
        (((var 2 :* var 3 :- var 6 :* var 7) :- (var 0 :* var 1 :- var 4 :* var 5)) :- (var 0 :* (var 3 :- var 1) :- var 4 :* (var 7 :- var 5)))
        ((var 2 :- var 0) :* var 3 :- (var 6 :- var 4) :* var 7)
        refl

-- each factor is near its own, one of at most m and the other, as it is to be, of at most n
pub cross_by : (p q m n : ℕ) (a b c d : Vector) → IsUpTo m a → IsUpTo n d → IsBy p a c → IsBy q b d → IsBy (m * q + p * n) (cross a b) (cross c d)
cross_by p q m n a b c d ha hd ac bd =
    let second : IsUpTo q (less d b) = record { square_le = bd.square_le } in
    let first : IsUpTo p (less c a) = record { square_le = ac.square_le } in
    let one = cross_upto m q a (less d b) ha second in
    let two = cross_upto p n (less c a) d first hd in
    let step : IsBy (p * n) (cross a (less d b)) (less (cross c d) (cross a b)) =
    record { square_le = subst (λ (v : Vector). square v ≤ p * n * (p * n)) (sym (rest a b c d)) two.square_le } in
    let sum = near_upto (m * q) (p * n) (cross a (less d b)) (less (cross c d) (cross a b)) one step in
    record { square_le = sum.square_le }

-- a vector product is across its first factor
pub across_first : (a b : Vector) → dot (cross a b) a ≡ pos 0
unfolding dot cross
across_first a b =
    let a1 = var 0 in let a2 = var 1 in let a3 = var 2 in let b1 = var 3 in let b2 = var 4 in let b3 = var 5 in
    ring (from (a.x ∷ a.y ∷ a.z ∷ b.x ∷ b.y ∷ b.z ∷ []))
    ((a2 :* b3 :- a3 :* b2) :* a1 :+ (a3 :* b1 :- a1 :* b3) :* a2 :+ (a1 :* b2 :- a2 :* b1) :* a3) (num (pos 0)) refl

-- ---- quotients

left : (a : Vector) (d : ℕ) → 0 < d → IsEachWithin d (less a (times d (divided a d)))
unfolding less times divided
left a d some = record { x = axis a.x d some; y = axis a.y d some; z = axis a.z d some }
  where
    near : (z q : ℤ) (d : ℕ) → q ≤ℤ z → z <ℤ (q +ℤ pos d) → IsWithin d (z -ℤ q)
    near z q d h k = omega (arith, ints)

    axis : (z : ℤ) (d : ℕ) → 0 < d → IsWithin d (z -ℤ pos d *ℤ floor_div z d)
    axis z d some =
        let turned : floor_div z d *ℤ pos d ≡ pos d *ℤ floor_div z d = mul_comm_ℤ (floor_div z d) (pos d) in
        subst (λ (q : ℤ). IsWithin d (z -ℤ q)) turned (near z (floor_div z d *ℤ pos d) d (floor_div-le z d some) (floor_div-gt z d some))

-- what is left of each component is less than d
pub divided_by : (a : Vector) (d : ℕ) → 0 < d → IsBy (2 * d) (times d (divided a d)) a
divided_by a d some =
    let each = each_upto d (less a (times d (divided a d))) (left a d some) in
    record { square_le = omega arith }
