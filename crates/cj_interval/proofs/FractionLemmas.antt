-- Quotients by multiplication: a fraction scaled to a power of two, the guess that it gives, and its one correction.
use Rattle.std.proofs.Common.{◌≡◌, ℕ, zero, suc, ◌+◌, ◌-◌, ◌*◌, ◌/◌, ◌^◌, ◌<◌, ◌≤◌, arith, ap, subst, sym, ◌∙◌, refl, [], ◌∷◌}
use Rattle.std.proofs.Math.Nat.{mul-le-mul_right, mul-le-mul_left}
use Rattle.std.proofs.lemmas.Int.{ints, by_lt_z}
use Rattle.std.specs.Prelude.{ℤ, pos, ◌+ℤ◌, ◌-ℤ◌, ◌*ℤ◌, ◌≤ℤ◌, ◌<ℤ◌}
use borrow.Author.Differences.{up, down}
use Rattle.cj_interval.specs.Rounding.{floor_div, ceil_div}
use Rattle.cj_interval.specs.Sizes.{IsWithin}
use Rattle.cj_interval.proofs.IntegerLemmas.{mul-le_right, add-mul_ℤ, gap_of}
use Rattle.cj_interval.proofs.MachineLemmas.{product_within}
use Rattle.cj_interval.proofs.RingLemmas.{var, num, ◌:+◌, ◌:-◌, ◌:*◌, from, ring}
use Rattle.cj_interval.proofs.RoundingLemmas.{floor_div-le, floor_div-gt, ceil_div-ge, ceil_div-lt, ceil_div-unique, ceil_div-from}
use Rattle.cj_interval.proofs.SizeLemmas.{floor_div_within, mul_pos}

-- ---- the scaled fraction f of s / t, from the kept quotient v

pub scaled_below : (v t f s : ℕ) → v * t ≤ 2 ^ 95 → f * 2 ^ 32 ≤ v * s → f * t ≤ s * 2 ^ 63
scaled_below v t f s h k = omega (arith, mul-le-mul_right s h, mul-le-mul_right t k)

pub scaled_above : (v t f s : ℕ) → 2 ^ 95 < v * t + t → v * s < (f + 1) * 2 ^ 32 → s ≤ 2 ^ 32 → 0 < t → s * 2 ^ 63 < f * t + 2 * t
scaled_above v t f s h k small some =
    let p : 2 ^ 95 + 1 ≤ v * t + t = h in
    let q : v * s + 1 ≤ (f + 1) * 2 ^ 32 = omega arith in
    omega (arith, mul-le-mul_right s p, mul-le-mul_right t q, mul-le-mul_right t small)

-- ---- the guess g of u s / t: at most one too small

pub guess_below : (f t s u : ℕ) → f * t ≤ s * 2 ^ 63 → (f * (2 * u) / 2 ^ 64) * t ≤ s * u
guess_below f t s u h =
    let g = f * (2 * u) / 2 ^ 64 in
    let k : g * 2 ^ 64 ≤ f * (2 * u) = omega arith in
    omega (arith, mul-le-mul_right u h, mul-le-mul_right t k)

pub guess_near : (f t s u : ℕ) → s * 2 ^ 63 < f * t + 2 * t → u ≤ 2 ^ 62 → 0 < t → s * u < (f * (2 * u) / 2 ^ 64) * t + 2 * t
guess_near f t s u h small some =
    let g = f * (2 * u) / 2 ^ 64 in
    let p : s * 2 ^ 63 + 1 ≤ f * t + 2 * t = omega arith in
    let q : f * (2 * u) + 1 ≤ (g + 1) * 2 ^ 64 = omega arith in
    omega (arith, mul-le-mul_right u p, mul-le-mul_right t q, mul-le-mul_right t small)

-- ---- quotients of whole numbers

-- the quotient is the number that leaves less than the divisor
pub floor_div-unique : (z q : ℤ) (d r : ℕ) → z ≡ q *ℤ pos d +ℤ pos r → r < d → q ≡ floor_div z d
floor_div-unique z q d r e h =
    let p : 0 < d = omega arith in
    let f = floor_div z d in
    let le = floor_div-le z d p in
    let gt = floor_div-gt z d p in
    let one = below f q z d (omega (arith, ints)) gt in
    let two = below q f z d le (omega (arith, ints)) in
    omega (arith, ints)
  where
    more : (b : ℤ) (d : ℕ) → (b +ℤ pos 1) *ℤ pos d ≡ b *ℤ pos d +ℤ pos d
    more b d = ring (from (b ∷ pos d ∷ [])) ((var 0 :+ num (pos 1)) :* var 1) (var 0 :* var 1 :+ var 1) refl

    clash : (ad bd s z : ℤ) (d : ℕ) → s ≡ ad +ℤ pos d → s ≤ℤ bd → bd ≤ℤ z → z <ℤ (ad +ℤ pos d) → ⊥
    clash ad bd s z d e h1 h2 h3 = omega (arith, ints)

    below : (a b z : ℤ) (d : ℕ) → (b *ℤ pos d) ≤ℤ z → z <ℤ (a *ℤ pos d +ℤ pos d) → b ≤ℤ a
    below a b z d h k =
        by_lt_z a b
        (λ l.
        let q : (a +ℤ pos 1) ≤ℤ b = omega (arith, ints) in
        let r = mul-le_right (a +ℤ pos 1) b d q in
        absurd (clash (a *ℤ pos d) (b *ℤ pos d) ((a +ℤ pos 1) *ℤ pos d) z d (more a d) r h k))
        (λ l. l)

-- the quotient rounded up is one more where something is left
pub ceil_div-rounded : (z q v : ℤ) (d r : ℕ) → z ≡ q *ℤ pos d +ℤ pos r → r < d → (r ≡ 0 → v ≡ q) → (0 < r → v ≡ q +ℤ pos 1) → v ≡ ceil_div z d
ceil_div-rounded z q v d zero e k exact next =
    let n = ceil_div-from z q d 0 0 (omega arith) e (omega arith) (omega arith) in
    let m = exact refl in
    omega (arith, ints)
ceil_div-rounded z q v d (suc r) e k exact next =
    let n = ceil_div-from z q d (suc r) 1 (omega arith) e (omega arith) (omega arith) in
    let m = next (omega arith) in
    omega (arith, ints)

-- a common factor may be left out
pub floor_div-cancel : (z : ℤ) (d t : ℕ) → 0 < d → 0 < t → floor_div (z *ℤ pos t) (t * d) ≡ floor_div z d
floor_div-cancel z d t p h =
    let q = floor_div z d in
    let gt = floor_div-gt z d p in
    let left = gap_of (q *ℤ pos d) z (floor_div-le z d p) in
    let r : left.0 + 1 ≤ d = omega (arith, ints) in
    sym (floor_div-unique (z *ℤ pos t) q (t * d) (left.0 * t) (ap (λ (x : ℤ). x *ℤ pos t) left.1 ∙ spread q d left.0 t) (omega (arith, mul-le-mul_right t r)))
  where
    spread : (q : ℤ) (d r t : ℕ) → (q *ℤ pos d +ℤ pos r) *ℤ pos t ≡ q *ℤ pos (t * d) +ℤ pos (r * t)
    spread q d r t = ring (from (q ∷ pos d ∷ pos r ∷ pos t ∷ [])) ((var 0 :* var 1 :+ var 2) :* var 3) (var 0 :* (var 3 :* var 1) :+ var 2 :* var 3) refl

pub ceil_div-cancel : (z : ℤ) (d t : ℕ) → 0 < d → 0 < t → ceil_div (z *ℤ pos t) (t * d) ≡ ceil_div z d
ceil_div-cancel z d t p h =
    let c = ceil_div z d in
    let lt = ceil_div-lt z d p in
    let next : (c *ℤ pos d +ℤ pos 1) ≤ℤ (z +ℤ pos d) = omega (arith, ints) in
    let turn = regroup c d t in
    let one = mul-le_right z (c *ℤ pos d) t (ceil_div-ge z d p) in
    let two = mul-le_right (c *ℤ pos d +ℤ pos 1) (z +ℤ pos d) t next in
    sym (ceil_div-unique (z *ℤ pos t) c (t * d) (mul_pos t d h p) (omega (arith, ints)) (omega (arith, ints, add-mul_ℤ (c *ℤ pos d) (pos 1) (pos t), add-mul_ℤ z (pos d) (pos t))))
  where
    regroup : (c : ℤ) (d t : ℕ) → (c *ℤ pos d) *ℤ pos t ≡ c *ℤ pos (t * d)
    regroup c d t = ring (from (c ∷ pos d ∷ pos t ∷ [])) ((var 0 :* var 1) :* var 2) (var 0 :* (var 2 :* var 1)) refl

-- d was lifted to u by l, whose fraction is m
pub lifted : (d : ℤ) (u l s t m q r : ℕ) → pos u ≡ d +ℤ pos l → l * s ≡ m * t → q * t + r ≡ u * s → d *ℤ pos s ≡ (pos q -ℤ pos m) *ℤ pos t +ℤ pos r
lifted d u l s t m q r e f g =
    let n : d ≡ pos u -ℤ pos l = omega (arith, ints) in
    let a : d *ℤ pos s ≡ (pos u -ℤ pos l) *ℤ pos s = ap (λ (z : ℤ). z *ℤ pos s) n in
    let b = minus u l s in
    let k = minus q m t in
    omega (arith, ints)
  where
    minus : (a b c : ℕ) → (pos a -ℤ pos b) *ℤ pos c ≡ pos (a * c) -ℤ pos (b * c)
    minus a b c = ring (from (pos a ∷ pos b ∷ pos c ∷ [])) ((var 0 :- var 1) :* var 2) (var 0 :* var 2 :- var 1 :* var 2) refl

-- a quotient of a fraction is at most as large as the number
pub whole_within : (d q : ℤ) (s t r m : ℕ) → d *ℤ pos s ≡ q *ℤ pos t +ℤ pos r → r < t → s ≤ t → IsWithin m d → IsWithin m q
whole_within d q s t r m e h k w =
    let p : 0 < t = omega arith in
    let n = product_within d (pos s) m s w (omega arith) in
    let wide : IsWithin (m * t) (d *ℤ pos s) = omega (arith, mul-le-mul_left m k) in
    subst (IsWithin m) (sym (floor_div-unique (d *ℤ pos s) q t r e h)) (floor_div_within (d *ℤ pos s) t m p wide)

-- from a to b, s of t on the way, is a and the fraction of the difference
on_the_way : (a b q : ℤ) (s t r : ℕ) → s ≤ t → (b -ℤ a) *ℤ pos s ≡ q *ℤ pos t +ℤ pos r → a *ℤ pos (t - s) +ℤ b *ℤ pos s ≡ (a +ℤ q) *ℤ pos t +ℤ pos r
on_the_way a b q s t r h e =
    let n : t ≡ (t - s) + s = omega arith in
    omega (arith, ints, spread a b (pos s), add-mul_ℤ a q (pos t), weights a (t - s) s t n)
  where
    spread : (a b s : ℤ) → (b -ℤ a) *ℤ s +ℤ a *ℤ s ≡ b *ℤ s
    spread a b s = omega (arith, ints, add-mul_ℤ (b -ℤ a) a s, ap (λ (z : ℤ). z *ℤ s) (let k : (b -ℤ a) +ℤ a ≡ b = omega (arith, ints) in k))

    weights : (a : ℤ) (n s t : ℕ) → t ≡ n + s → a *ℤ pos t ≡ a *ℤ pos n +ℤ a *ℤ pos s
    weights a n s t e = omega (arith, ints, ap (λ (z : ℕ). up a * z) e, ap (λ (z : ℕ). down a * z) e)

pub way-floor : (a b q : ℤ) (s t r : ℕ) → s ≤ t → (b -ℤ a) *ℤ pos s ≡ q *ℤ pos t +ℤ pos r → r < t → a +ℤ q ≡ floor_div (a *ℤ pos (t - s) +ℤ b *ℤ pos s) t
way-floor a b q s t r h e k = floor_div-unique _ _ t r (on_the_way a b q s t r h e) k

pub way-ceil : (a b q v : ℤ) (s t r : ℕ) → s ≤ t → (b -ℤ a) *ℤ pos s ≡ q *ℤ pos t +ℤ pos r → r < t → (r ≡ 0 → v ≡ q) → (0 < r → v ≡ q +ℤ pos 1)
    → a +ℤ v ≡ ceil_div (a *ℤ pos (t - s) +ℤ b *ℤ pos s) t
way-ceil a b q v s t r h e k exact next =
    ceil_div-rounded _ (a +ℤ q) (a +ℤ v) t r (on_the_way a b q s t r h e) k
    (λ z. ap (λ (x : ℤ). a +ℤ x) (exact z)) (λ p. let n = next p in omega (arith, ints))
