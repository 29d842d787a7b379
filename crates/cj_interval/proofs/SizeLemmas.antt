-- Bounds on the sizes of products, of weighted sums and of quotients.
use Rattle.std.proofs.Common.{ℕ, zero, suc, ◌+◌, ◌*◌, ◌/◌, ◌<◌, ◌≤◌, ◌≡◌, ◌⊎◌, inl, inr, arith, sym, subst}
use Rattle.std.proofs.Math.Nat.{mul-le-mul_right, mul-le-mul_left}
use Rattle.std.proofs.lemmas.Int.{ints, clamps, unsigned_abs-mul}
use Rattle.std.proofs.lemmas.Bool.{cases_lt}
use Rattle.std.proofs.lemmas.Nat.{div_below}
use Rattle.std.specs.Prelude.{ℤ, pos, negsuc, ◌+ℤ◌, ◌*ℤ◌, neg_ℤ, unsigned_abs}
use Rattle.std.specs.Int.{int_div_euclid}
use Rattle.cj_interval.specs.Rounding.{floor_div, ceil_div}
use Rattle.cj_interval.specs.Sizes.{IsWithin}
use Rattle.cj_interval.specs.Spans.{least, greatest}

pub part_within : (a : ℤ) (n m k : ℕ) → n ≤ m → IsWithin k (a *ℤ pos m) → IsWithin k (a *ℤ pos n)
part_within a n m k h w =
    let p : unsigned_abs a * m ≤ k = omega (arith, unsigned_abs-mul a (pos m)) in
    let q = mul-le-mul_left (unsigned_abs a) h in
    omega (arith, unsigned_abs-mul a (pos n))

weighted_ℕ : (a b n m k : ℕ) → a * (n + m) ≤ k → b * (n + m) ≤ k → a * n + b * m ≤ k
weighted_ℕ a b n m k h j = by_order (cases_lt a b)
  where
    by_order : (a < b) ⊎ (b ≤ a) → a * n + b * m ≤ k
    by_order (inl l) = let p : a ≤ b = omega arith in let q = mul-le-mul_right n p in omega arith
    by_order (inr l) = let q = mul-le-mul_right m l in omega arith

pub weighted_within : (a b : ℤ) (n m k : ℕ) → IsWithin k (a *ℤ pos (n + m)) → IsWithin k (b *ℤ pos (n + m)) → IsWithin k (a *ℤ pos n +ℤ b *ℤ pos m)
weighted_within a b n m k h j =
    let p : unsigned_abs a * (n + m) ≤ k = omega (arith, unsigned_abs-mul a (pos (n + m))) in
    let q : unsigned_abs b * (n + m) ≤ k = omega (arith, unsigned_abs-mul b (pos (n + m))) in
    let r = weighted_ℕ (unsigned_abs a) (unsigned_abs b) n m k p q in
    let s = abs_sum (a *ℤ pos n) (b *ℤ pos m) in
    omega (arith, unsigned_abs-mul a (pos n), unsigned_abs-mul b (pos m))
  where
    abs_sum : (x y : ℤ) → unsigned_abs (x +ℤ y) ≤ unsigned_abs x + unsigned_abs y
    abs_sum x y = omega (arith, ints)

pub mul_pos : (m n : ℕ) → 0 < m → 0 < n → 0 < m * n
mul_pos zero n p q = elim p [ ]
mul_pos (suc m) zero p q = elim q [ ]
mul_pos (suc m) (suc n) p q = omega arith

-- ---- quotients

quotient_within : (z : ℤ) (d m : ℕ) → 0 < d → unsigned_abs z ≤ m * d → unsigned_abs (int_div_euclid z (pos d)) ≤ m
quotient_within (pos a) d m p h =
    let q : a / d < m + 1 = div_below a d (m + 1) p (omega arith) in
    omega arith
quotient_within (negsuc a) d m p h =
    let q : a / d < m = div_below a d m p h in
    q

pub floor_div_within : (z : ℤ) (d m : ℕ) → 0 < d → IsWithin (m * d) z → IsWithin m (floor_div z d)
unfolding floor_div
floor_div_within z d m p h = quotient_within z d m p h

pub ceil_div_within : (z : ℤ) (d m : ℕ) → 0 < d → IsWithin (m * d) z → IsWithin m (ceil_div z d)
unfolding ceil_div
ceil_div_within z d m p h =
    let n : unsigned_abs (neg_ℤ z) ≤ m * d = subst (λ (k : ℕ). k ≤ m * d) (sym (abs-neg z)) h in
    subst (λ (k : ℕ). k ≤ m) (sym (abs-neg (int_div_euclid (neg_ℤ z) (pos d)))) (quotient_within (neg_ℤ z) d m p n)
  where
    abs-neg : (z : ℤ) → unsigned_abs (neg_ℤ z) ≡ unsigned_abs z
    abs-neg z = omega (arith, ints)

-- ---- the least and the greatest of four

pub least_within : (m : ℕ) (a b c d : ℤ) → IsWithin m a → IsWithin m b → IsWithin m c → IsWithin m d → IsWithin m (least a b c d)
unfolding least
least_within m a b c d p q r s = omega (arith, ints, clamps)

pub greatest_within : (m : ℕ) (a b c d : ℤ) → IsWithin m a → IsWithin m b → IsWithin m c → IsWithin m d → IsWithin m (greatest a b c d)
unfolding greatest
greatest_within m a b c d p q r s = omega (arith, ints, clamps)
