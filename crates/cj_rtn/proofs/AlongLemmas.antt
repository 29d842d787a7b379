-- How near a value along a whole axis is to the exact one along the exact axis.
use Rattle.std.proofs.Common.{◌≡◌, ℕ, suc, ◌+◌, ◌-◌, ◌*◌, ◌<◌, ◌≤◌, arith, refl, ap, subst, ◌∙◌, [], ◌∷◌, inl, inr}
use Rattle.std.proofs.Math.Nat.{mul-le-mul, mul-le-mul_left, mul-le-mul_right, le_of_mul-le-mul_right}
use Rattle.std.proofs.lemmas.Bool.{cases_lt}
use Rattle.std.proofs.lemmas.Int.{ints, unsigned_abs-mul}
use Rattle.std.specs.Prelude.{ℤ, pos, negsuc, neg_ℤ, ◌+ℤ◌, ◌-ℤ◌, ◌*ℤ◌, ◌≤ℤ◌, ◌<ℤ◌, unsigned_abs}
use Rattle.cj_interval.specs.Rounding.{floor_div}
use Rattle.cj_interval.specs.Sizes.{IsWithin}
use Rattle.cj_interval.proofs.IntegerLemmas.{mul_comm_ℤ, mul-le_right, le_trans_ℤ}
use Rattle.cj_interval.proofs.RingLemmas.{ring, var, num, neg, ◌:+◌, ◌:-◌, ◌:*◌, from}
use Rattle.cj_interval.proofs.RoundingLemmas.{floor_div-le, floor_div-gt}
use Rattle.cj_interval.proofs.SizeLemmas.{mul_pos}
use Rattle.cj_interval.proofs.SquareLemmas.{root-le}
use Rattle.cj_interval.proofs.SquareRootLemmas.{floor_root-below, floor_root-next}
use Rattle.cj_rtn.specs.declared.vector.Vector.{Vector}
use Rattle.cj_rtn.specs.Exact.{IsTimesAtMost, IsNearly}
use Rattle.cj_rtn.specs.Vectors.{dot, less, square, size, along}
use Rattle.cj_rtn.proofs.VectorLemmas.{IsUpTo, IsFrom, IsBy, times, dot-times, dot_turned, dot-less, dot_within, near_upto, near_from, times_upto, times_from, by_turned, square-times}

-- ---- lengths

pub size_from : (a : Vector) → IsFrom (size a) a
unfolding size
size_from a = record { square_ge = floor_root-below (square a) }

pub size_upto : (a : Vector) → IsUpTo (size a + 1) a
unfolding size
size_upto a = let next = floor_root-next (square a) in record { square_le = omega arith }

-- a bound on the length is one on the whole length
pub size_le : (n : ℕ) (a : Vector) → IsUpTo n a → size a ≤ n
size_le n a h = let low = (size_from a).square_ge in root-le (size a) n (omega (arith, h.square_le))

pub size_next : (a : Vector) → square a < (size a + 1) * (size a + 1)
unfolding size
size_next a = floor_root-next (square a)

-- what has a square below that of s + 1 is at most s
pub below_next : (n s : ℕ) → n * n < (s + 1) * (s + 1) → n ≤ s
below_next n s h = elim (cases_lt s n) [
  | inl lt ↦ let more : s + 1 ≤ n = omega arith in let up : (s + 1) * (s + 1) ≤ n * n = mul-le-mul more more in absurd (omega arith)
  | inr le ↦ le
]

pub size_ge : (n : ℕ) (a : Vector) → IsFrom n a → n ≤ size a
size_ge n a h = below_next n (size a) (below (size a) n (square a) h.square_ge (size_next a))
  where
    below : (s n q : ℕ) → n * n ≤ q → q < (s + 1) * (s + 1) → n * n < (s + 1) * (s + 1)
    below s n q h k = omega arith

-- ---- products with a length, by squares

-- y times a root that lies between m and n is at most z
pub times_at_most : (y : ℤ) (s m n : ℕ) (z : ℤ) → m * m ≤ s → s ≤ n * n → (y *ℤ pos m) ≤ℤ z → (y *ℤ pos n) ≤ℤ z → IsTimesAtMost y s z
times_at_most (pos y) s m n (pos z) low high h k =
    let up : y * n ≤ z = omega (arith, ints) in
    let squares : y * n * (y * n) ≤ z * z = mul-le-mul up up in
    let more : y * y * s ≤ y * y * (n * n) = mul-le-mul_left (y * y) high in
    omega arith
times_at_most (pos y) s m n (negsuc z) low high h k = absurd (omega (arith, ints))
times_at_most (negsuc y) s m n (pos z) low high h k = tt
times_at_most (negsuc y) s m n (negsuc z) low high h k =
    let up : suc z ≤ suc y * m = omega (arith, ints) in
    let squares : suc z * suc z ≤ suc y * m * (suc y * m) = mul-le-mul up up in
    let more : suc y * suc y * (m * m) ≤ suc y * suc y * s = mul-le-mul_left (suc y * suc y) low in
    omega arith

-- ---- one value

-- k f times an axis of the whole length s is an exact one but for k e: what suffices for one millimetre
pub record IsEnough (s f e : ℕ) : Type 0 where
  pub long : 999_999_999_000 ≤ s
  pub room : 1_100_000_000_002_000 * (e + f) + 8 * (f * (s + 1)) + 1_100_000_000_000_000 * e + 1_000_000 * e ≤ 1_000_000 * (f * s)

-- the size of a value, where d is the scalar product
value_within : (c d : ℤ) (s : ℕ) → 999_999_999_000 ≤ s → IsWithin (1_100_000_000_000_007 * (s + 1)) d → (c *ℤ pos s) ≤ℤ d → d <ℤ (c *ℤ pos s +ℤ pos s) → IsWithin 1_100_000_000_002_000 c
value_within c d s long h low high =
    let size = unsigned_abs-mul c (pos s) in
    let up : unsigned_abs c * s ≤ 1_100_000_000_002_000 * s = bound (c *ℤ pos s) d s (unsigned_abs c * s) size long h low high in
    cancel (unsigned_abs c) 1_100_000_000_002_000 s long up
  where
    bound : (p d : ℤ) (s n : ℕ) → unsigned_abs p ≡ n → 999_999_999_000 ≤ s → IsWithin (1_100_000_000_000_007 * (s + 1)) d → p ≤ℤ d → d <ℤ (p +ℤ pos s) → n ≤ 1_100_000_000_002_000 * s
    bound p d s n e long h low high = omega (arith, ints)

    cancel : (a b s : ℕ) → 999_999_999_000 ≤ s → a * s ≤ b * s → a ≤ b
    cancel a b s long h = let some : 0 < s = omega arith in le_of_mul-le-mul_right h some

-- the value, one millimetre less and more, times the ends of what a length is, and what is left of a scalar product of them
record Fits (a b c d p : ℤ) (w : ℕ) : Type 0 where
  low_near : a ≤ℤ (p -ℤ pos w)
  low_far : b ≤ℤ (p -ℤ pos w)
  high_near : (p +ℤ pos w) ≤ℤ c
  high_far : (p +ℤ pos w) ≤ℤ d

two_sided : (n : ℕ) (z : ℤ) → IsWithin n z → (neg_ℤ (pos n) ≤ℤ z) × (z ≤ℤ pos n)
two_sided n z h = (omega (arith, ints), omega (arith, ints))

within_times : (c : ℤ) (m n : ℕ) → IsWithin m c → IsWithin (m * n) (c *ℤ pos n)
within_times c m n h = let more = mul-le-mul_right n h in omega (arith, unsigned_abs-mul c (pos n))

left_le : (f : ℕ) (a b : ℤ) → a ≤ℤ b → (pos f *ℤ a) ≤ℤ (pos f *ℤ b)
left_le f a b h = rw (mul_comm_ℤ (pos f) a, mul_comm_ℤ (pos f) b) (mul-le_right a b f h)

fits : (c d : ℤ) (f s e n : ℕ) → n + e ≡ f * s → IsEnough s f e → IsWithin 1_100_000_000_002_000 c → (c *ℤ pos s) ≤ℤ d → d <ℤ (c *ℤ pos s +ℤ pos s)
    → Fits ((c -ℤ pos 1_000_000) *ℤ pos n) ((c -ℤ pos 1_000_000) *ℤ pos (f * (s + 1) + e)) ((c +ℤ pos 1_000_000) *ℤ pos n) ((c +ℤ pos 1_000_000) *ℤ pos (f * (s + 1) + e))
    (pos f *ℤ d) (7 * (f * (s + 1)) + 1_100_000_000_000_000 * e)
fits c d f s e n sum enough small low high =
    let k = f * (s + 1) + e in
    let ce = two_sided (1_100_000_000_002_000 * e) (c *ℤ pos e) (within_times c 1_100_000_000_002_000 e small) in
    let cf = two_sided (1_100_000_000_002_000 * f) (c *ℤ pos f) (within_times c 1_100_000_000_002_000 f small) in
    done (c *ℤ pos n) (c *ℤ pos k) (pos f *ℤ (c *ℤ pos s)) (pos f *ℤ d) (c *ℤ pos e) (c *ℤ pos f) _ _ _ _ f e n (f * s) (f * (s + 1)) (sum_of f s) sum enough.room
    (times_less c n) (times_less c k) (times_more c n) (times_more c k) (part c f s e n sum) (whole c f s e)
    (left_le f (c *ℤ pos s) d low) (left_lt f d (c *ℤ pos s) s high) ce.0 ce.1 cf.0 cf.1
  where
    sum_of : (f s : ℕ) → f * (s + 1) ≡ f * s + f
    sum_of f s = omega arith

    times_less : (c : ℤ) (n : ℕ) → (c -ℤ pos 1_000_000) *ℤ pos n ≡ c *ℤ pos n -ℤ pos (1_000_000 * n)
    times_less c n = ring (from (c ∷ pos 1_000_000 ∷ pos n ∷ [])) ((var 0 :- var 1) :* var 2) (var 0 :* var 2 :- var 1 :* var 2) refl

    times_more : (c : ℤ) (n : ℕ) → (c +ℤ pos 1_000_000) *ℤ pos n ≡ c *ℤ pos n +ℤ pos (1_000_000 * n)
    times_more c n = ring (from (c ∷ pos 1_000_000 ∷ pos n ∷ [])) ((var 0 :+ var 1) :* var 2) (var 0 :* var 2 :+ var 1 :* var 2) refl

    part : (c : ℤ) (f s e n : ℕ) → n + e ≡ f * s → c *ℤ pos n +ℤ c *ℤ pos e ≡ pos f *ℤ (c *ℤ pos s)
    part c f s e n sum =
        ring (from (c ∷ pos n ∷ pos e ∷ [])) (var 0 :* var 1 :+ var 0 :* var 2) (var 0 :* (var 1 :+ var 2)) refl
        ∙ ap (λ (k : ℕ). c *ℤ pos k) sum
        ∙ ring (from (c ∷ pos f ∷ pos s ∷ [])) (var 0 :* (var 1 :* var 2)) (var 1 :* (var 0 :* var 2)) refl

    whole : (c : ℤ) (f s e : ℕ) → c *ℤ pos (f * (s + 1) + e) ≡ pos f *ℤ (c *ℤ pos s) +ℤ c *ℤ pos f +ℤ c *ℤ pos e
    whole c f s e =
        ring (from (c ∷ pos f ∷ pos s ∷ pos e ∷ [])) (var 0 :* (var 1 :* (var 2 :+ num (pos 1)) :+ var 3)) (var 1 :* (var 0 :* var 2) :+ var 0 :* var 1 :+ var 0 :* var 3) refl

    left_lt : (f : ℕ) (d p : ℤ) (s : ℕ) → d <ℤ (p +ℤ pos s) → (pos f *ℤ d) ≤ℤ (pos f *ℤ p +ℤ pos (f * s))
    left_lt f d p s h =
        let le : d ≤ℤ (p +ℤ pos s) = omega (arith, ints) in
        subst (λ (z : ℤ). (pos f *ℤ d) ≤ℤ z) (ring (from (pos f ∷ p ∷ pos s ∷ [])) (var 0 :* (var 1 :+ var 2)) (var 0 :* var 1 :+ var 0 :* var 2) refl) (left_le f d (p +ℤ pos s) le)

    done : (cn ck fcs fd ce cf a b c d : ℤ) (f e n fs k : ℕ) → k ≡ fs + f → n + e ≡ fs
        → 1_100_000_000_002_000 * (e + f) + 8 * k + 1_100_000_000_000_000 * e + 1_000_000 * e ≤ 1_000_000 * fs
        → a ≡ cn -ℤ pos (1_000_000 * n) → b ≡ ck -ℤ pos (1_000_000 * (k + e)) → c ≡ cn +ℤ pos (1_000_000 * n) → d ≡ ck +ℤ pos (1_000_000 * (k + e))
        → cn +ℤ ce ≡ fcs → ck ≡ fcs +ℤ cf +ℤ ce → fcs ≤ℤ fd → fd ≤ℤ (fcs +ℤ pos fs)
        → neg_ℤ (pos (1_100_000_000_002_000 * e)) ≤ℤ ce → ce ≤ℤ pos (1_100_000_000_002_000 * e) → neg_ℤ (pos (1_100_000_000_002_000 * f)) ≤ℤ cf → cf ≤ℤ pos (1_100_000_000_002_000 * f)
        → Fits a b c d fd (7 * k + 1_100_000_000_000_000 * e)
    done cn ck fcs fd ce cf a b c d f e n fs k same sum room e1 e2 e3 e4 near far below above ce_low ce_high cf_low cf_high =
        record { low_near = omega (arith, ints); low_far = omega (arith, ints); high_near = omega (arith, ints); high_far = omega (arith, ints) }

-- ---- the scalar product of what is exact

-- d is that of the whole vectors, p and q come of what is between them and the exact ones
product_near : (d p q z : ℤ) (k f g s e : ℕ) → z ≡ pos (k * f) *ℤ (pos g *ℤ d +ℤ p) +ℤ q → IsWithin ((s + 1) * (7 * g)) p → IsWithin (1_100_000_000_000_000 * g * (k * e)) q
    → ((pos (k * g) *ℤ (pos f *ℤ d -ℤ pos (7 * (f * (s + 1)) + 1_100_000_000_000_000 * e))) ≤ℤ z) × (z ≤ℤ (pos (k * g) *ℤ (pos f *ℤ d +ℤ pos (7 * (f * (s + 1)) + 1_100_000_000_000_000 * e))))
product_near d p q z k f g s e is small_p small_q =
    let w = 7 * (f * (s + 1)) + 1_100_000_000_000_000 * e in
    let fp = two_sided ((s + 1) * (7 * g) * (k * f)) (p *ℤ pos (k * f)) (within_times p ((s + 1) * (7 * g)) (k * f) small_p) in
    let q_two = two_sided (1_100_000_000_000_000 * g * (k * e)) q small_q in
    done z (pos (k * g) *ℤ (pos f *ℤ d)) (p *ℤ pos (k * f)) q _ _ (k * g * w) ((s + 1) * (7 * g) * (k * f)) (1_100_000_000_000_000 * g * (k * e))
    (is ∙ parted d p q k f g) (spread_less (pos f *ℤ d) (k * g) w) (spread_more (pos f *ℤ d) (k * g) w) (sum k f g s e) fp.0 fp.1 q_two.0 q_two.1
  where
    parted : (d p q : ℤ) (k f g : ℕ) → pos (k * f) *ℤ (pos g *ℤ d +ℤ p) +ℤ q ≡ pos (k * g) *ℤ (pos f *ℤ d) +ℤ p *ℤ pos (k * f) +ℤ q
    parted d p q k f g =
        ring (from (d ∷ p ∷ q ∷ pos k ∷ pos f ∷ pos g ∷ []))
        (var 3 :* var 4 :* (var 5 :* var 0 :+ var 1) :+ var 2) (var 3 :* var 5 :* (var 4 :* var 0) :+ var 1 :* (var 3 :* var 4) :+ var 2) refl

    spread_less : (a : ℤ) (k w : ℕ) → pos k *ℤ (a -ℤ pos w) ≡ pos k *ℤ a -ℤ pos (k * w)
    spread_less a k w = ring (from (a ∷ pos k ∷ pos w ∷ [])) (var 1 :* (var 0 :- var 2)) (var 1 :* var 0 :- var 1 :* var 2) refl

    spread_more : (a : ℤ) (k w : ℕ) → pos k *ℤ (a +ℤ pos w) ≡ pos k *ℤ a +ℤ pos (k * w)
    spread_more a k w = ring (from (a ∷ pos k ∷ pos w ∷ [])) (var 1 :* (var 0 :+ var 2)) (var 1 :* var 0 :+ var 1 :* var 2) refl

    sum : (k f g s e : ℕ) → k * g * (7 * (f * (s + 1)) + 1_100_000_000_000_000 * e) ≡ (s + 1) * (7 * g) * (k * f) + 1_100_000_000_000_000 * g * (k * e)
    sum k f g s e = omega arith

    done : (z a fp q l h : ℤ) (w m n : ℕ) → z ≡ a +ℤ fp +ℤ q → l ≡ a -ℤ pos w → h ≡ a +ℤ pos w → w ≡ m + n → neg_ℤ (pos m) ≤ℤ fp → fp ≤ℤ pos m → neg_ℤ (pos n) ≤ℤ q → q ≤ℤ pos n
        → (l ≤ℤ z) × (z ≤ℤ h)
    done z a fp q l h w m n is low high sum p0 p1 q0 q1 = (omega (arith, ints), omega (arith, ints))

exact_product : (b e x y : Vector) (g h : ℕ) → dot y e ≡ pos h *ℤ (pos g *ℤ dot x b +ℤ dot b (less y (times g x))) +ℤ dot y (less e (times h b))
exact_product b e x y g h =
    dot-less y e (times h b)
    ∙ ap (λ (z : ℤ). z +ℤ dot y (less e (times h b)))
    (dot-times h y b ∙ ap (λ (z : ℤ). pos h *ℤ z)
    (dot_turned y b ∙ dot-less b y (times g x) ∙ ap (λ (z : ℤ). z +ℤ dot b (less y (times g x))) (dot-times g b x ∙ ap (λ (z : ℤ). pos g *ℤ z) (dot_turned b x))))

-- ---- the value

-- g times a vector of at most n is at most g n long, and so the other way round
upto_from_times : (g n : ℕ) (x : Vector) → 0 < g → IsUpTo (g * n) (times g x) → IsUpTo n x
upto_from_times g n x some h =
    let same = square-times g x in
    let up : square x * (g * g) ≤ n * n * (g * g) = regroup (square (times g x)) (square x) g n same h.square_le in
    record { square_le = le_of_mul-le-mul_right up (mul_pos g g some some) }
  where
    regroup : (q s g n : ℕ) → q ≡ g * g * s → q ≤ g * n * (g * n) → s * (g * g) ≤ n * n * (g * g)
    regroup q s g n e h = omega arith

-- y is g x but for 7 g, and at most 1,100 km times g; e is k f b but for k d
pub along_near : (b e x y : Vector) (g k f d : ℕ) → 0 < g → IsEnough (size b) f d → IsBy (k * d) (times (k * f) b) e → IsBy (7 * g) (times g x) y → IsUpTo (1_100_000_000_000_000 * g) y
    → IsNearly (along x b) y e g
unfolding along
along_near b e x y g k f d some enough axis near far =
    let s = size b in
    let w = 7 * (f * (s + 1)) + 1_100_000_000_000_000 * d in
    let c = floor_div (dot x b) s in
    let n = f * s - d in
    let less_one : n + d ≡ f * s = omega (arith, enough.room) in
    let long : 0 < s = omega (arith, enough.long) in
    let back = near_upto (1_100_000_000_000_000 * g) (7 * g) y (times g x) far (by_turned (7 * g) (times g x) y near) in
    let short : IsUpTo 1_100_000_000_000_007 x = upto_from_times g 1_100_000_000_000_007 x some (subst (λ (m : ℕ). IsUpTo m (times g x)) (sevens g) back) in
    let low = floor_div-le (dot x b) s long in
    let high = floor_div-gt (dot x b) s long in
    let within = value_within c (dot x b) s enough.long (dot_within 1_100_000_000_000_007 (s + 1) x b short (size_upto b)) low high in
    let four = fits c (dot x b) f s d n less_one enough within low high in
    let apart : IsUpTo (7 * g) (less y (times g x)) = record { square_le = near.square_le } in
    let left : IsUpTo (k * d) (less e (times (k * f) b)) = record { square_le = axis.square_le } in
    let ends = product_near (dot x b) (dot b (less y (times g x))) (dot y (less e (times (k * f) b))) (dot y e) k f g s d (exact_product b e x y g (k * f))
    (dot_within (s + 1) (7 * g) b (less y (times g x)) (size_upto b) apart)
    (dot_within (1_100_000_000_000_000 * g) (k * d) y (less e (times (k * f) b)) far left) in
    let least : IsFrom (k * n) e = near_from (k * n) (k * d) (times (k * f) b) e (subst (λ (m : ℕ). IsFrom m (times (k * f) b)) (parts k f s n d less_one) (times_from (k * f) s b (size_from b))) axis in
    let most : IsUpTo (k * (f * (s + 1) + d)) e = subst (λ (m : ℕ). IsUpTo m e) (joined k f s d) (near_upto (k * f * (s + 1)) (k * d) (times (k * f) b) e (times_upto (k * f) (s + 1) b (size_upto b)) axis) in
    record {
      low = times_at_most ((c -ℤ pos 1_000_000) *ℤ pos g) (square e) (k * n) (k * (f * (s + 1) + d)) (dot y e) least.square_ge most.square_le
          (below (c -ℤ pos 1_000_000) (pos f *ℤ dot x b -ℤ pos w) (dot y e) k g n four.low_near ends.0)
          (below (c -ℤ pos 1_000_000) (pos f *ℤ dot x b -ℤ pos w) (dot y e) k g (f * (s + 1) + d) four.low_far ends.0);
      high = times_at_most (neg_ℤ ((c +ℤ pos 1_000_000) *ℤ pos g)) (square e) (k * n) (k * (f * (s + 1) + d)) (neg_ℤ (dot y e)) least.square_ge most.square_le
          (above (c +ℤ pos 1_000_000) (pos f *ℤ dot x b +ℤ pos w) (dot y e) k g n four.high_near ends.1)
          (above (c +ℤ pos 1_000_000) (pos f *ℤ dot x b +ℤ pos w) (dot y e) k g (f * (s + 1) + d) four.high_far ends.1);
    }
  where
    sevens : (g : ℕ) → 1_100_000_000_000_000 * g + 7 * g ≡ g * 1_100_000_000_000_007
    sevens g = omega arith

    parts : (k f s n d : ℕ) → n + d ≡ f * s → k * f * s ≡ k * n + k * d
    parts k f s n d h = let more : k * (n + d) ≡ k * (f * s) = ap (λ (m : ℕ). k * m) h in omega arith

    joined : (k f s d : ℕ) → k * f * (s + 1) + k * d ≡ k * (f * (s + 1) + d)
    joined k f s d = omega arith

    regrouped : (a : ℤ) (k g n : ℕ) → pos (k * g) *ℤ (a *ℤ pos n) ≡ a *ℤ pos g *ℤ pos (k * n)
    regrouped a k g n = ring (from (a ∷ pos k ∷ pos g ∷ pos n ∷ [])) (var 1 :* var 2 :* (var 0 :* var 3)) (var 0 :* var 2 :* (var 1 :* var 3)) refl

    below : (a p z : ℤ) (k g n : ℕ) → (a *ℤ pos n) ≤ℤ p → (pos (k * g) *ℤ p) ≤ℤ z → (a *ℤ pos g *ℤ pos (k * n)) ≤ℤ z
    below a p z k g n h j = subst (λ (t : ℤ). t ≤ℤ z) (regrouped a k g n) (le_trans_ℤ _ _ _ (left_le (k * g) (a *ℤ pos n) p h) j)

    turned : (a z : ℤ) (m : ℕ) → z ≤ℤ (a *ℤ pos m) → (neg_ℤ a *ℤ pos m) ≤ℤ neg_ℤ z
    turned a z m h = subst (λ (t : ℤ). t ≤ℤ neg_ℤ z) (ring (from (a ∷ pos m ∷ [])) (neg (var 0 :* var 1)) (neg (var 0) :* var 1) refl) (turn z (a *ℤ pos m) h)
      where
        turn : (z p : ℤ) → z ≤ℤ p → neg_ℤ p ≤ℤ neg_ℤ z
        turn z p h = omega (arith, ints)

    above : (a p z : ℤ) (k g n : ℕ) → p ≤ℤ (a *ℤ pos n) → z ≤ℤ (pos (k * g) *ℤ p) → (neg_ℤ (a *ℤ pos g) *ℤ pos (k * n)) ≤ℤ neg_ℤ z
    above a p z k g n h j =
        turned (a *ℤ pos g) z (k * n) (subst (λ (t : ℤ). z ≤ℤ t) (regrouped a k g n) (le_trans_ℤ _ _ _ j (left_le (k * g) p (a *ℤ pos n) h)))
