-- A turn takes a place hardly farther from the center: the angle's cosine and sine are those of a right triangle.
use Rattle.std.proofs.Common.{◌≡◌, ℕ, zero, suc, ◌+◌, ◌*◌, ◌<◌, ◌≤◌, arith, sym, ap, subst, refl, [], ◌∷◌}
use Rattle.std.proofs.lemmas.Int.{ints}
use Rattle.std.proofs.Math.Nat.{mul-le-mul}
use Rattle.std.specs.Prelude.{ℤ, pos, negsuc, ◌+ℤ◌, ◌-ℤ◌, ◌*ℤ◌, ◌≤ℤ◌, ◌<ℤ◌, neg_ℤ, unsigned_abs}
use Rattle.cj_interval.specs.Rounding.{floor_div}
use Rattle.cj_interval.specs.Sizes.{IsWithin}
use Rattle.cj_interval.proofs.IntegerLemmas.{gap_of}
use Rattle.cj_interval.proofs.MachineLemmas.{product_within}
use Rattle.cj_interval.proofs.RingLemmas.{ring, var, num, ◌:+◌, ◌:-◌, ◌:*◌, from}
use Rattle.cj_interval.proofs.RoundingLemmas.{floor_div-le, floor_div-gt}
use Rattle.cj_interval.proofs.SizeLemmas.{floor_div_within}
use Rattle.cj_interval.proofs.SquareLemmas.{square_is, root-le}
use Rattle.cj_gen.specs.declared.plane.Point.{Point}
use Rattle.cj_gen.specs.Orbits.{turned, after_turns, on_axis, rate_at, IsNear, IsInSquare}

pub point_same : (p q : Point) → p.x ≡ q.x → p.y ≡ q.y → p ≡ q
point_same p q ex ey = λ i. record { x = ex i; y = ey i }

-- what a quotient by 481 that is rounded down leaves
rest_of : (z : ℤ) → (r : ℕ) × (r ≤ 480) × (z ≡ floor_div z 481 *ℤ pos 481 +ℤ pos r)
rest_of z =
    let low = floor_div-le z 481 (omega arith) in
    let high = floor_div-gt z 481 (omega arith) in
    let gap = gap_of (floor_div z 481 *ℤ pos 481) z low in
    (gap.0, small z (floor_div z 481 *ℤ pos 481) gap.0 high gap.1, gap.1)
  where
    small : (z q : ℤ) (r : ℕ) → z <ℤ (q +ℤ pos 481) → z ≡ q +ℤ pos r → r ≤ 480
    small z q r h e = omega (arith, ints)

-- the square of a quotient, by its number and what it leaves
square_left : (u r : ℤ) → pos 231361 *ℤ (u *ℤ u) ≡ (u *ℤ pos 481 +ℤ r) *ℤ (u *ℤ pos 481 +ℤ r) +ℤ negsuc 1 *ℤ ((u *ℤ pos 481 +ℤ r) *ℤ r) +ℤ r *ℤ r
square_left u r =
    ring (from (u ∷ r ∷ [])) (num (pos 231361) :* (var 0 :* var 0))
    ((var 0 :* num (pos 481) :+ var 1) :* (var 0 :* num (pos 481) :+ var 1) :+ num (negsuc 1) :* ((var 0 :* num (pos 481) :+ var 1) :* var 1) :+ var 1 :* var 1)
    refl

square_of : (z u : ℤ) (r : ℕ) → z ≡ u *ℤ pos 481 +ℤ pos r → pos 231361 *ℤ (u *ℤ u) ≡ z *ℤ z +ℤ negsuc 1 *ℤ (z *ℤ pos r) +ℤ pos r *ℤ pos r
square_of z u r e = subst (λ (w : ℤ). pos 231361 *ℤ (u *ℤ u) ≡ w *ℤ w +ℤ negsuc 1 *ℤ (w *ℤ pos r) +ℤ pos r *ℤ pos r) (sym e) (square_left u (pos r))

-- a turn that is not rounded, 481 times as large, keeps the distance
distance : (x y : ℤ) → (pos 480 *ℤ x -ℤ pos 31 *ℤ y) *ℤ (pos 480 *ℤ x -ℤ pos 31 *ℤ y) +ℤ (pos 31 *ℤ x +ℤ pos 480 *ℤ y) *ℤ (pos 31 *ℤ x +ℤ pos 480 *ℤ y)
    ≡ pos 231361 *ℤ (x *ℤ x +ℤ y *ℤ y)
distance x y =
    ring (from (x ∷ y ∷ []))
    ((num (pos 480) :* var 0 :- num (pos 31) :* var 1) :* (num (pos 480) :* var 0 :- num (pos 31) :* var 1)
    :+ (num (pos 31) :* var 0 :+ num (pos 480) :* var 1) :* (num (pos 31) :* var 0 :+ num (pos 480) :* var 1))
    (num (pos 231361) :* (var 0 :* var 0 :+ var 1 :* var 1))
    refl

-- each leg is at most the root of a bound on the sum of the squares
leg : (z w s : ℤ) (m : ℕ) → z *ℤ z +ℤ w *ℤ w ≡ pos 231361 *ℤ s → s ≤ℤ pos (m * m) → unsigned_abs z ≤ 481 * m
leg z w s m e h =
    let b = below (z *ℤ z) (w *ℤ w) s (unsigned_abs z * unsigned_abs z) (unsigned_abs w * unsigned_abs w) (m * m) (square_is z) (square_is w) e h in
    let whole : 231361 * (m * m) ≡ 481 * m * (481 * m) = omega arith in
    root-le (unsigned_abs z) (481 * m) (subst (λ (n : ℕ). unsigned_abs z * unsigned_abs z ≤ n) whole b)
  where
    below : (zz ww s : ℤ) (a b mm : ℕ) → zz ≡ pos a → ww ≡ pos b → zz +ℤ ww ≡ pos 231361 *ℤ s → s ≤ℤ pos mm → a ≤ 231361 * mm
    below zz ww s a b mm e1 e2 e h = omega (arith, ints)

swapped : (a b c : ℤ) → a +ℤ b ≡ c → b +ℤ a ≡ c
swapped a b c e = omega (arith, ints)

turned_core : (uu vv zz ww zr ws xx : ℤ) (rr ss m mm : ℕ) → pos 231361 *ℤ uu ≡ zz +ℤ negsuc 1 *ℤ zr +ℤ pos rr → pos 231361 *ℤ vv ≡ ww +ℤ negsuc 1 *ℤ ws +ℤ pos ss
    → zz +ℤ ww ≡ pos 231361 *ℤ xx → xx ≤ℤ pos mm → IsWithin (481 * m * 480) zr → IsWithin (481 * m * 480) ws → rr ≤ 230400 → ss ≤ 230400
    → (uu +ℤ vv) ≤ℤ pos (mm + 4 * m + 4)
turned_core uu vv zz ww zr ws xx rr ss m mm e1 e2 e3 h1 h2 h3 h4 h5 = omega (arith, ints)

-- one turn takes a place at most 2 m farther
near_turned : (m : ℕ) (p : Point) → IsNear m p → IsNear (m + 2) (turned p)
near_turned m p near =
    let z = pos 480 *ℤ p.x -ℤ pos 31 *ℤ p.y in
    let w = pos 31 *ℤ p.x +ℤ pos 480 *ℤ p.y in
    let s = p.x *ℤ p.x +ℤ p.y *ℤ p.y in
    let u = floor_div z 481 in
    let v = floor_div w 481 in
    let rz = rest_of z in
    let rw = rest_of w in
    let e = distance p.x p.y in
    let zs = leg z w s m e near in
    let ws = leg w z s m (swapped (z *ℤ z) (w *ℤ w) (pos 231361 *ℤ s) e) near in
    let whole : m * m + 4 * m + 4 ≡ (m + 2) * (m + 2) = omega arith in
    subst (λ (n : ℕ). (u *ℤ u +ℤ v *ℤ v) ≤ℤ pos n) whole
    (turned_core (u *ℤ u) (v *ℤ v) (z *ℤ z) (w *ℤ w) (z *ℤ pos rz.0) (w *ℤ pos rw.0) s (rz.0 * rz.0) (rw.0 * rw.0) m (m * m)
    (square_of z u rz.0 rz.2) (square_of w v rw.0 rw.2) e near
    (product_within z (pos rz.0) (481 * m) 480 zs rz.1) (product_within w (pos rw.0) (481 * m) 480 ws rw.1)
    (mul-le-mul rz.1 rz.1) (mul-le-mul rw.1 rw.1))

-- and so many turns
pub near_after : (n m : ℕ) (p : Point) → IsNear m p → IsNear (m + 2 * n) (after_turns n p)
unfolding after_turns
near_after zero m p near = let e : m ≡ m + 2 * 0 = omega arith in subst (λ (k : ℕ). IsNear k p) e near
near_after (suc n) m p near =
    let e : m + 2 * n + 2 ≡ m + 2 * suc n = omega arith in
    subst (λ (k : ℕ). IsNear k (turned (after_turns n p))) e (near_turned (m + 2 * n) (after_turns n p) (near_after n m p near))

-- one turn more
pub turn_more : (n : ℕ) (p : Point) → turned (after_turns n p) ≡ after_turns (n + 1) p
unfolding after_turns
turn_more n p = let e : suc n ≡ n + 1 = omega arith in ap (λ (k : ℕ). after_turns k p) e

near_farther : (m n : ℕ) (p : Point) → m ≤ n → IsNear m p → IsNear n p
near_farther m n p h near = grown (p.x *ℤ p.x +ℤ p.y *ℤ p.y) (m * m) (n * n) near (mul-le-mul h h)
  where
    grown : (s : ℤ) (a b : ℕ) → s ≤ℤ pos a → a ≤ b → s ≤ℤ pos b
    grown s a b h k = omega (arith, ints)

-- the coordinates of a place are at most its distance
pub in_square : (m : ℕ) (p : Point) → IsNear m p → IsInSquare m p
in_square m p near =
    let b = both (p.x *ℤ p.x) (p.y *ℤ p.y) (unsigned_abs p.x * unsigned_abs p.x) (unsigned_abs p.y * unsigned_abs p.y) (m * m) (square_is p.x) (square_is p.y) near in
    (root-le (unsigned_abs p.x) m b.0, root-le (unsigned_abs p.y) m b.1)
  where
    both : (xx yy : ℤ) (a b mm : ℕ) → xx ≡ pos a → yy ≡ pos b → (xx +ℤ yy) ≤ℤ pos mm → (a ≤ mm) × (b ≤ mm)
    both xx yy a b mm e1 e2 h = (omega (arith, ints), omega (arith, ints))

-- where the turns are few, all places are in reach
pub few_near : (n m k : ℕ) (p : Point) → m + 2 * n ≤ k → IsNear m p → IsNear k (after_turns n p)
few_near n m k p h near = near_farther (m + 2 * n) k (after_turns n p) h (near_after n m p near)

pub few_in_square : (n : ℕ) (p : Point) → n ≤ 1500000 → IsNear 7000000 p → IsInSquare 10000000 (after_turns n p)
few_in_square n p h near = in_square 10000000 (after_turns n p) (few_near n 7000000 10000000 p (omega arith) near)

-- a place on the first axis
pub near_start : (r m : ℕ) (p : Point) → p.x ≡ pos r → p.y ≡ pos 0 → r ≤ m → IsNear m p
near_start r m p ex ey h =
    subst (λ (x : ℤ). (x *ℤ x +ℤ p.y *ℤ p.y) ≤ℤ pos (m * m)) (sym ex)
    (subst (λ (y : ℤ). (pos r *ℤ pos r +ℤ y *ℤ y) ≤ℤ pos (m * m)) (sym ey) (only (r * r) (m * m) (mul-le-mul h h)))
  where
    only : (a b : ℕ) → a ≤ b → (pos a +ℤ pos 0 *ℤ pos 0) ≤ℤ pos b
    only a b h = omega (arith, ints)

-- the place of an orbit that is drawn
pub near_drawn : (a b : ℕ) → a < 41 → b < 97 → IsNear 7000000 (after_turns b (on_axis (6900000 + 1000 * a)))
near_drawn a b small few =
    let r = 6900000 + 1000 * a in
    few_near b 6940000 7000000 (on_axis r) (omega arith) (near_start r 6940000 (on_axis r) refl refl (omega arith))

-- a rate in mm/s is hardly larger than the place in metres
part_within : (z : ℤ) (m : ℕ) → unsigned_abs z ≤ m → unsigned_abs (floor_div (pos 10749 *ℤ z) 10000) ≤ 2 * m
part_within z m h = floor_div_within (pos 10749 *ℤ z) 10000 (2 * m) (omega arith) (larger z m h)
  where
    larger : (z : ℤ) (m : ℕ) → unsigned_abs z ≤ m → unsigned_abs (pos 10749 *ℤ z) ≤ 2 * m * 10000
    larger z m h = omega (arith, ints)

back_within : (z : ℤ) (m : ℕ) → unsigned_abs z ≤ m → unsigned_abs (floor_div (neg_ℤ (pos 10749 *ℤ z)) 10000) ≤ 2 * m
back_within z m h = floor_div_within (neg_ℤ (pos 10749 *ℤ z)) 10000 (2 * m) (omega arith) (larger z m h)
  where
    larger : (z : ℤ) (m : ℕ) → unsigned_abs z ≤ m → unsigned_abs (neg_ℤ (pos 10749 *ℤ z)) ≤ 2 * m * 10000
    larger z m h = omega (arith, ints)

pub rate_within : (m : ℕ) (p : Point) → IsInSquare m p → IsInSquare (2 * m) (rate_at p)
rate_within m p size = (back_within p.y m size.1, part_within p.x m size.0)

pub rate_in_square : (p : Point) → IsInSquare 10000000 p → IsInSquare 20000000 (rate_at p)
rate_in_square p size = rate_within 10000000 p size
