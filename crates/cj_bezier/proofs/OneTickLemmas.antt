-- Three spans of at most six at one tick: where their squares are neither far nor near, they are in the band.
use Rattle.std.proofs.Common.{◌≡◌, ℕ, ◌+◌, ◌-◌, ◌*◌, ◌<◌, ◌≤◌, ◌⊎◌, inl, inr, arith, ap}
use Rattle.std.proofs.Math.Nat.{mul-le-mul_right, mul-le-mul_left}
use Rattle.std.proofs.lemmas.Bool.{cases_lt}
use Rattle.std.proofs.lemmas.Int.{ints}
use Rattle.std.specs.Prelude.{ℤ, pos, ◌+ℤ◌, ◌*ℤ◌, ◌≤ℤ◌, ◌<ℤ◌}
use Rattle.cj_interval.specs.Spans.{least, greatest}
use Rattle.cj_interval.proofs.SquareLemmas.{narrow, amgm, root-le}

-- s is a sum of three squares, n the sum of their roots
too_large : (t s n : ℕ) → 1000000000 ≤ t → s ≤ t * t + 12 * n → 2 * (n * t) ≤ s + 3 * (t * t) → (t + 1000000) * (t + 1000000) < s → ⊥
too_large t s n big h k l =
    let r = s - (t + 1000000) * (t + 1000000) in
    let e : s ≡ (t + 1000000) * (t + 1000000) + r = omega arith in
    let st : s * t ≤ (t * t + 12 * n) * t = mul-le-mul_right t h in
    let rt : r * 6 ≤ r * t = mul-le-mul_left r (omega arith) in
    let tt' : t * 1000000000 ≤ t * t = mul-le-mul_left t big in
    let es : s * t ≡ ((t + 1000000) * (t + 1000000) + r) * t = ap (λ (k : ℕ). k * t) e in
    core t r n (s * t) (omega arith) (omega arith) big rt tt'
  where
    core : (t r n st : ℕ) → st ≡ ((t + 1000000) * (t + 1000000) + r) * t → st ≤ t * t * t + 6 * ((t + 1000000) * (t + 1000000) + r) + 18 * (t * t) → 1000000000 ≤ t → r * 6 ≤ r * t → t * 1000000000 ≤ t * t → ⊥
    core t r n st e h big rt tt' = omega arith

sum_small : (t a b c : ℕ) → 1000000000 ≤ t → a * a + b * b + c * c ≤ t * t + 12 * (a + b + c) → a * a + b * b + c * c ≤ (t + 1000000) * (t + 1000000)
sum_small t a b c big h = by_size (cases_lt ((t + 1000000) * (t + 1000000)) (a * a + b * b + c * c))
  where
    by_size : ((t + 1000000) * (t + 1000000) < a * a + b * b + c * c) ⊎ (a * a + b * b + c * c ≤ (t + 1000000) * (t + 1000000)) → a * a + b * b + c * c ≤ (t + 1000000) * (t + 1000000)
    by_size (inr l) = l
    by_size (inl l) =
        let x = amgm a t in let y = amgm b t in let z = amgm c t in
        let k : 2 * ((a + b + c) * t) ≤ a * a + b * b + c * c + 3 * (t * t) = omega arith in
        absurd (too_large t (a * a + b * b + c * c) (a + b + c) big h k l)

sum_large : (t a b c : ℕ) → 1000000000 ≤ t → t * t < a * a + b * b + c * c → a * a + b * b + c * c ≤ (t + 1000000) * (t + 1000000)
    → (t - 1000000) * (t - 1000000) + 12 * (a + b + c) ≤ a * a + b * b + c * c
sum_large t a b c big h k =
    let x = root-le a (t + 1000000) (omega arith) in
    let y = root-le b (t + 1000000) (omega arith) in
    let z = root-le c (t + 1000000) (omega arith) in
    let e : t - 1000000 + 1000000 ≡ t = omega arith in
    let sq : (t - 1000000 + 1000000) * (t - 1000000 + 1000000) ≡ t * t = ap (λ (n : ℕ). n * n) e in
    core (t - 1000000) (a + b + c) (a * a + b * b + c * c) (omega arith) (omega arith) (omega arith)
  where
    core : (u n s : ℕ) → 999000000 ≤ u → n ≤ 3 * (u + 2000000) → (u + 1000000) * (u + 1000000) < s → u * u + 12 * n ≤ s
    core u n s big h k = omega arith

-- two ends lie in the band of a threshold t
pub record AreInBand (t : ℕ) (low high : ℤ) : Type 0 where
  pub lower : pos ((t - 1000000) * (t - 1000000)) ≤ℤ low
  pub upper : high ≤ℤ pos ((t + 1000000) * (t + 1000000))

-- the squares of three spans of at most 6, summed, are in the band where they are neither far nor near
pub band_of_one : (t : ℕ) (l1 h1 l2 h2 l3 h3 : ℤ) → 1000000000 ≤ t
    → l1 ≤ℤ h1 → h1 ≤ℤ (l1 +ℤ pos 6) → l2 ≤ℤ h2 → h2 ≤ℤ (l2 +ℤ pos 6) → l3 ≤ℤ h3 → h3 ≤ℤ (l3 +ℤ pos 6)
    → let low = least (l1 *ℤ l1) (l1 *ℤ h1) (h1 *ℤ l1) (h1 *ℤ h1) +ℤ least (l2 *ℤ l2) (l2 *ℤ h2) (h2 *ℤ l2) (h2 *ℤ h2) +ℤ least (l3 *ℤ l3) (l3 *ℤ h3) (h3 *ℤ l3) (h3 *ℤ h3) in
    let high = greatest (l1 *ℤ l1) (l1 *ℤ h1) (h1 *ℤ l1) (h1 *ℤ h1) +ℤ greatest (l2 *ℤ l2) (l2 *ℤ h2) (h2 *ℤ l2) (h2 *ℤ h2) +ℤ greatest (l3 *ℤ l3) (l3 *ℤ h3) (h3 *ℤ l3) (h3 *ℤ h3) in
    low ≤ℤ pos (t * t) → pos (t * t) <ℤ high → AreInBand t low high
band_of_one t l1 h1 l2 h2 l3 h3 big p1 q1 p2 q2 p3 q3 notfar notnear =
    let n1 = narrow l1 h1 p1 q1 in
    let n2 = narrow l2 h2 p2 q2 in
    let n3 = narrow l3 h3 p3 q3 in
    ends t n1.0 n2.0 n3.0 _ _ _ _ _ _ big n1.1.lower n2.1.lower n3.1.lower n1.1.upper n2.1.upper n3.1.upper notfar notnear
  where
    ends : (t a b c : ℕ) (x y z u v w : ℤ) → 1000000000 ≤ t → pos (a * a) ≤ℤ (x +ℤ pos (12 * a)) → pos (b * b) ≤ℤ (y +ℤ pos (12 * b)) → pos (c * c) ≤ℤ (z +ℤ pos (12 * c))
        → u ≤ℤ pos (a * a) → v ≤ℤ pos (b * b) → w ≤ℤ pos (c * c) → (x +ℤ y +ℤ z) ≤ℤ pos (t * t) → pos (t * t) <ℤ (u +ℤ v +ℤ w) → AreInBand t (x +ℤ y +ℤ z) (u +ℤ v +ℤ w)
    ends t a b c x y z u v w big ha hb hc hu hv hw nf nn =
        let s : a * a + b * b + c * c ≤ t * t + 12 * (a + b + c) = omega (arith, ints) in
        let top = sum_small t a b c big s in
        let r : t * t < a * a + b * b + c * c = omega (arith, ints) in
        let bottom = sum_large t a b c big r top in
        record { lower = omega (arith, ints); upper = omega (arith, ints) }
