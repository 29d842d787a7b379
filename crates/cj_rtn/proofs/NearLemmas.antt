-- How near a whole place and rate are to the exact ones, and their differences.
use Rattle.std.proofs.Common.{◌≡◌, ℕ, ◌+◌, ◌-◌, ◌*◌, ◌<◌, ◌≤◌, arith, refl, sym, ap, subst, ◌∙◌, [], ◌∷◌}
use Rattle.std.proofs.Math.Nat.{mul-le-mul, mul-le-mul_left}
use Rattle.std.proofs.lemmas.Int.{ints, unsigned_abs-mul}
use Rattle.std.specs.Prelude.{ℤ, pos, ◌+ℤ◌, ◌-ℤ◌, ◌*ℤ◌, ◌≤ℤ◌}
use Rattle.cj_interval.specs.Rounding.{floor_div, ceil_div}
use Rattle.cj_interval.specs.Sizes.{IsWithin}
use Rattle.cj_interval.proofs.IntegerLemmas.{mul-le_right, mul_comm_ℤ}
use Rattle.cj_interval.proofs.RingLemmas.{ring, var, ◌:+◌, ◌:-◌, ◌:*◌, from}
use Rattle.cj_interval.proofs.RoundingLemmas.{floor_div-le, floor_div-gt}
use Rattle.cj_track.specs.Limits.{MAX_RATE}
use Rattle.cj_hermite.specs.Distance.{IsWithinAt, square_distance}
use Rattle.cj_hermite.specs.Interpolant.{Four, Curve, IsOver, place_numerator, place_denominator, rate_numerator, rate_denominator}
use Rattle.cj_hermite.specs.Levels.{polar, rate_value}
use Rattle.cj_hermite.proofs.LevelLemmas.{polar-low, polar-high, polar-width, exact_polar-same}
use Rattle.cj_hermite.proofs.RateLemmas.{rate-low, rate-high, rate-width}
use Rattle.cj_rtn.specs.declared.vector.Vector.{Vector}
use Rattle.cj_rtn.specs.Exact.{exact_place, exact_rate, difference}
use Rattle.cj_rtn.specs.States.{middle, axis_place, axis_rate, place_at, rate_at}
use Rattle.cj_rtn.specs.Vectors.{IsEachWithin, dot, less, square}
use Rattle.cj_rtn.proofs.VectorLemmas.{IsUpTo, IsBy, times, dot_is, each_upto, near_upto, times_upto}

-- ---- one axis

-- the middle of two bounds, at most twice n apart, is at most n from what lies between them
middle_near : (lo hi x : ℤ) (q n : ℕ) → hi ≤ℤ (lo +ℤ pos (n + n)) → (lo *ℤ pos q) ≤ℤ x → x ≤ℤ (hi *ℤ pos q) → IsWithin (n * q) (x -ℤ pos q *ℤ middle lo hi)
unfolding middle
middle_near lo hi x q n width low high =
    let r = floor_div (lo +ℤ hi) 2 in
    let below = floor_div-le (lo +ℤ hi) 2 (omega arith) in
    let above = floor_div-gt (lo +ℤ hi) 2 (omega arith) in
    let up : hi ≤ℤ (r +ℤ pos n) = omega (arith, ints) in
    let down : r ≤ℤ (lo +ℤ pos n) = omega (arith, ints) in
    near (r *ℤ pos q) (lo *ℤ pos q) (hi *ℤ pos q) x _ _ _ q n (spread r q n) (spread lo q n) (mul_comm_ℤ (pos q) r) (mul-le_right hi (r +ℤ pos n) q up) (mul-le_right r (lo +ℤ pos n) q down) low high
  where
    spread : (a : ℤ) (q n : ℕ) → (a +ℤ pos n) *ℤ pos q ≡ a *ℤ pos q +ℤ pos (n * q)
    spread a q n = ring (from (a ∷ pos q ∷ pos n ∷ [])) ((var 0 :+ var 2) :* var 1) (var 0 :* var 1 :+ var 2 :* var 1) refl

    near : (rq lq hq x u d qr : ℤ) (q n : ℕ) → u ≡ rq +ℤ pos (n * q) → d ≡ lq +ℤ pos (n * q) → qr ≡ rq → hq ≤ℤ u → rq ≤ℤ d → lq ≤ℤ x → x ≤ℤ hq → IsWithin (n * q) (x -ℤ qr)
    near rq lq hq x u d qr q n e f g h k low high = omega (arith, ints)

place_axis : (k : Four) (t u : ℕ) → 0 < t → u ≤ t → IsWithin (2 * place_denominator t) (place_numerator k t u -ℤ pos (place_denominator t) *ℤ axis_place k t u)
place_axis k t u some within =
    middle_near (polar floor_div k t u u u) (polar ceil_div k t u u u) (place_numerator k t u) (place_denominator t) 2
    (wider (polar floor_div k t u u u) (polar ceil_div k t u u u) (polar-width k t u u u some within within))
    (subst (λ (z : ℤ). (polar floor_div k t u u u *ℤ pos (place_denominator t)) ≤ℤ z) (exact_polar-same k t u) (polar-low k t u u u some))
    (subst (λ (z : ℤ). z ≤ℤ (polar ceil_div k t u u u *ℤ pos (place_denominator t))) (exact_polar-same k t u) (polar-high k t u u u some))
  where
    wider : (lo hi : ℤ) → hi ≤ℤ (lo +ℤ pos 3) → hi ≤ℤ (lo +ℤ pos 4)
    wider lo hi h = omega (arith, ints)

rate_axis : (k : Four) (t u : ℕ) → 0 < t → u ≤ t → IsWithin (1 * rate_denominator t) (rate_numerator k t u -ℤ pos (rate_denominator t) *ℤ axis_rate k t u)
rate_axis k t u some within =
    middle_near (rate_value floor_div k t u) (rate_value ceil_div k t u) (rate_numerator k t u) (rate_denominator t) 1 (rate-width k t u some within) (rate-low k t u some)
    (rate-high k t u some)

-- ---- a state

pub place_each : (c : Curve) (m : ℕ) → IsOver c m m → IsEachWithin (2 * place_denominator c.span) (less (exact_place c m) (times (place_denominator c.span) (place_at c m)))
unfolding less exact_place times place_at
place_each c m over =
    let within : m - c.start ≤ c.span = omega (arith, over.from, over.to) in
    record { x = place_axis c.x c.span (m - c.start) over.some within; y = place_axis c.y c.span (m - c.start) over.some within; z = place_axis c.z c.span (m - c.start) over.some within }

pub rate_each : (c : Curve) (m : ℕ) → IsOver c m m → IsEachWithin (1 * rate_denominator c.span) (less (exact_rate c m) (times (rate_denominator c.span) (rate_at c m)))
unfolding less exact_rate times rate_at
rate_each c m over =
    let within : m - c.start ≤ c.span = omega (arith, over.from, over.to) in
    record { x = rate_axis c.x c.span (m - c.start) over.some within; y = rate_axis c.y c.span (m - c.start) over.some within; z = rate_axis c.z c.span (m - c.start) over.some within }

-- by components, and so by length
pub each_by : (n : ℕ) (a b : Vector) → IsEachWithin n (less b a) → IsBy (2 * n) a b
each_by n a b h = let sum = each_upto n (less b a) h in record { square_le = omega arith }

-- ---- differences

difference_axis : (x y a b : ℤ) (s t : ℕ) → IsWithin (2 * s) (x -ℤ pos s *ℤ a) → IsWithin (2 * t) (y -ℤ pos t *ℤ b) → IsWithin (4 * (s * t)) ((pos s *ℤ y -ℤ pos t *ℤ x) -ℤ pos (s * t) *ℤ (b -ℤ a))
difference_axis x y a b s t h k =
    let p = times_within s (2 * t) (y -ℤ pos t *ℤ b) k in
    let q = times_within t (2 * s) (x -ℤ pos s *ℤ a) h in
    two (pos s *ℤ (y -ℤ pos t *ℤ b)) (pos t *ℤ (x -ℤ pos s *ℤ a)) _ s t (same x y a b (pos s) (pos t)) p q
  where
    times_within : (n m : ℕ) (z : ℤ) → IsWithin m z → IsWithin (n * m) (pos n *ℤ z)
    times_within n m z h = let more = mul-le-mul_left n h in omega (arith, unsigned_abs-mul (pos n) z)

    same : (x y a b s t : ℤ) → (s *ℤ y -ℤ t *ℤ x) -ℤ (s *ℤ t) *ℤ (b -ℤ a) ≡ s *ℤ (y -ℤ t *ℤ b) -ℤ t *ℤ (x -ℤ s *ℤ a)
    same x y a b s t =
        ring (from (x ∷ y ∷ a ∷ b ∷ s ∷ t ∷ []))
        ((var 4 :* var 1 :- var 5 :* var 0) :- var 4 :* var 5 :* (var 3 :- var 2)) (var 4 :* (var 1 :- var 5 :* var 3) :- var 5 :* (var 0 :- var 4 :* var 2)) refl

    two : (p q d : ℤ) (s t : ℕ) → d ≡ p -ℤ q → IsWithin (s * (2 * t)) p → IsWithin (t * (2 * s)) q → IsWithin (4 * (s * t)) d
    two p q d s t e h k = let sum : s * (2 * t) + t * (2 * s) ≡ 4 * (s * t) = omega arith in omega (arith, ints)

difference_each : (x y a b : Vector) (s t : ℕ) → IsEachWithin (2 * s) (less x (times s a)) → IsEachWithin (2 * t) (less y (times t b)) → IsEachWithin (4 * (s * t)) (less (difference x s y t) (times (s * t) (less b a)))
unfolding less times difference
difference_each x y a b s t h k = record { x = difference_axis x.x y.x a.x b.x s t h.x k.x; y = difference_axis x.y y.y a.y b.y s t h.y k.y; z = difference_axis x.z y.z a.z b.z s t h.z k.z }

pub difference_by : (x y a b : Vector) (s t : ℕ) → IsEachWithin (2 * s) (less x (times s a)) → IsEachWithin (2 * t) (less y (times t b)) → IsBy (7 * (s * t)) (times (s * t) (less b a)) (difference x s y t)
difference_by x y a b s t h k =
    let sum = each_upto (4 * (s * t)) (less (difference x s y t) (times (s * t) (less b a))) (difference_each x y a b s t h k) in
    record { square_le = omega arith }

turned : (x y s t : ℤ) → (s *ℤ y -ℤ t *ℤ x) *ℤ (s *ℤ y -ℤ t *ℤ x) ≡ (t *ℤ x -ℤ s *ℤ y) *ℤ (t *ℤ x -ℤ s *ℤ y)
turned x y s t = ring (from (x ∷ y ∷ s ∷ t ∷ [])) ((var 2 :* var 1 :- var 3 :* var 0) :* (var 2 :* var 1 :- var 3 :* var 0)) ((var 3 :* var 0 :- var 2 :* var 1) :* (var 3 :* var 0 :- var 2 :* var 1)) refl

sums : (a b c a' b' c' : ℤ) → a ≡ a' → b ≡ b' → c ≡ c' → a +ℤ b +ℤ c ≡ a' +ℤ b' +ℤ c'
sums a b c a' b' c' e f g = ap (λ (z : ℤ). z +ℤ b +ℤ c) e ∙ ap (λ (z : ℤ). a' +ℤ z +ℤ c) f ∙ ap (λ (z : ℤ). a' +ℤ b' +ℤ z) g

distance_is : (c d : Curve) (m : ℕ) →
    let x = difference (exact_place c m) (place_denominator c.span) (exact_place d m) (place_denominator d.span) in
    dot x x ≡ square_distance c d m
unfolding dot difference exact_place
distance_is c d m =
    let s = pos (place_denominator c.span) in
    let t = pos (place_denominator d.span) in
    sums _ _ _ _ _ _
    (turned (place_numerator c.x c.span (m - c.start)) (place_numerator d.x d.span (m - d.start)) s t)
    (turned (place_numerator c.y c.span (m - c.start)) (place_numerator d.y d.span (m - d.start)) s t)
    (turned (place_numerator c.z c.span (m - c.start)) (place_numerator d.z d.span (m - d.start)) s t)

-- within e nm the difference of the places is at most e long
pub places_upto : (c d : Curve) (m e : ℕ) → IsWithinAt c d e m → IsUpTo (e * (place_denominator c.span * place_denominator d.span)) (difference (exact_place c m) (place_denominator c.span) (exact_place d m) (place_denominator d.span))
places_upto c d m e within =
    let x = difference (exact_place c m) (place_denominator c.span) (exact_place d m) (place_denominator d.span) in
    record { square_le = bound (square_distance c d m) (square x) e (place_denominator c.span * place_denominator d.span) (sym (dot_is x) ∙ distance_is c d m) within }
  where
    bound : (z : ℤ) (n e q : ℕ) → pos n ≡ z → z ≤ℤ pos (e * e * (q * q)) → n ≤ e * q * (e * q)
    bound z n e q is h = let sum : e * e * (q * q) ≡ e * q * (e * q) = omega arith in omega (arith, ints)

rates_each : (a b : Vector) → IsEachWithin MAX_RATE a → IsEachWithin MAX_RATE b → IsEachWithin 40_000_000_000_000 (less b a)
unfolding less
rates_each a b h k = record { x = omega (arith, ints, h.x, k.x); y = omega (arith, ints, h.y, k.y); z = omega (arith, ints, h.z, k.z) }

-- the difference of rates that are not too fast is at most 70 km/s
pub rates_upto : (a b x : Vector) (g : ℕ) → IsEachWithin MAX_RATE a → IsEachWithin MAX_RATE b → IsBy (7 * g) (times g (less b a)) x → IsUpTo (1_100_000_000_000_000 * g) x
rates_upto a b x g h k near =
    let all = each_upto 40_000_000_000_000 (less b a) (rates_each a b h k) in
    let short : IsUpTo 70_000_000_000_000 (less b a) = record { square_le = omega arith } in
    let sum = near_upto (g * 70_000_000_000_000) (7 * g) (times g (less b a)) x (times_upto g 70_000_000_000_000 (less b a) short) near in
    let le : g * 70_000_000_000_000 + 7 * g ≤ 1_100_000_000_000_000 * g = omega arith in
    let squares = mul-le-mul le le in
    record { square_le = omega (arith, sum.square_le) }
