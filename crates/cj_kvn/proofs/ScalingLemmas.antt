-- A number that was read, times a power of ten.
use Rattle.std.proofs.Common.{◌≡◌, ℕ, zero, suc, ◌+◌, ◌*◌, ◌/◌, ◌^◌, ◌<◌, ◌≤◌, arith, ap, sym, ◌∙◌, subst, ℤ, pos, negsuc, ◌+ℤ◌, Option, Some, None}
use Rattle.std.proofs.Math.Nat.{mul_assoc, mul-le-mul_left, mul-le-mul_right, div-mul-le_self, div-one, div-le_self}
use Rattle.std.proofs.lemmas.Int.{ints}
use Rattle.std.proofs.lemmas.Nat.{pow-add}
use Rattle.std.specs.Option.{SomeIff}
use Rattle.cj_kvn.specs.declared.leading.Scanned.{Scanned}
use Rattle.cj_base.specs.Numbers.{Number, ten_above, ten_below}
use Rattle.cj_kvn.specs.Numbers.{nearest, scaled_size}
use Rattle.cj_kvn.specs.Scanning.{Begins}
use Rattle.cj_kvn.proofs.PowerLemmas.{ten_pos, ten_grows, nearest_one, nearest_times, nearest_cancel, nearest_ge, nearest_first}

-- the digits times 10 ^ z and 10 ^ p, as a fraction
abbrev size : ℕ → ℤ → ℕ → ℕ
size d z p = nearest (d * ten_above z * 10 ^ p) (ten_below z)

-- a power of ten at least as high as the divisor
up_whole : (d : ℕ) (z : ℤ) (p k : ℕ) → z +ℤ pos p ≡ pos k → size d z p ≡ d * 10 ^ k
up_whole d (pos a) p k e =
    let sum : a + p ≡ k = omega (arith, ints) in
    nearest_one (d * 10 ^ a * 10 ^ p) ∙ mul_assoc d (10 ^ a) (10 ^ p) ∙ ap (λ (t : ℕ). d * t) (sym (pow-add 10 a p) ∙ ap (λ (j : ℕ). 10 ^ j) sum)
up_whole d (negsuc a) p k e =
    let sum : p ≡ k + suc a = omega (arith, ints) in
    let split : d * 1 * 10 ^ p ≡ d * 10 ^ k * 10 ^ suc a =
    ap (λ (j : ℕ). d * 1 * 10 ^ j) sum ∙ ap (λ (t : ℕ). d * 1 * t) (pow-add 10 k (suc a)) ∙ omega (arith, mul_assoc d (10 ^ k) (10 ^ suc a)) in
    ap (λ (t : ℕ). nearest t (10 ^ suc a)) split ∙ nearest_times (d * 10 ^ k) (10 ^ suc a) (ten_pos (suc a))

-- a number whose first digits alone exceed the limit
up_large : (d : ℕ) (z : ℤ) (q p k : ℕ) → 10 ^ 37 ≤ d / 10 ^ q → z +ℤ pos (q + p) ≡ pos k → 10 ^ 37 ≤ size d z p
up_large d (pos a) q p k full e =
    let whole = nearest_one (d * 10 ^ a * 10 ^ p) in
    let first : d ≤ d * 10 ^ a = omega (arith, mul-le-mul_left d (ten_pos a)) in
    let second : d * 10 ^ a ≤ d * 10 ^ a * 10 ^ p = omega (arith, mul-le-mul_left (d * 10 ^ a) (ten_pos p)) in
    omega (arith, div-le_self d (10 ^ q))
up_large d (negsuc a) q p k full e =
    let below : 10 ^ suc a ≤ 10 ^ (q + p) = ten_grows (suc a) (q + p) (omega (arith, ints)) in
    let digits : 10 ^ 37 * 10 ^ q ≤ d = omega (arith, mul-le-mul_right (10 ^ q) full, div-mul-le_self d (10 ^ q)) in
    let split : 10 ^ 37 * 10 ^ (q + p) ≡ 10 ^ 37 * 10 ^ q * 10 ^ p =
    ap (λ (t : ℕ). 10 ^ 37 * t) (pow-add 10 q p) ∙ sym (mul_assoc (10 ^ 37) (10 ^ q) (10 ^ p)) in
    nearest_ge (10 ^ 37) (d * 1 * 10 ^ p) (10 ^ suc a) (ten_pos (suc a))
    (omega (arith, mul-le-mul_left (10 ^ 37) below, split, mul-le-mul_right (10 ^ p) digits))

-- a divisor higher than the power of ten
down : (d : ℕ) (z : ℤ) (q p k : ℕ) → z +ℤ pos (q + p) ≡ negsuc k → size d z p ≡ nearest (d / 10 ^ q) (10 ^ suc k)
down d (pos a) q p k e = absurd (omega (arith, ints))
down d (negsuc a) q p k e =
    let sum : suc a ≡ suc k + q + p = omega (arith, ints) in
    let divisor : 10 ^ suc a ≡ 10 ^ suc k * 10 ^ q * 10 ^ p =
    ap (λ (j : ℕ). 10 ^ j) sum ∙ pow-add 10 (suc k + q) p ∙ ap (λ (t : ℕ). t * 10 ^ p) (pow-add 10 (suc k) q) in
    let one : d * 1 * 10 ^ p ≡ d * 10 ^ p = ap (λ (t : ℕ). t * 10 ^ p) (omega arith) in
    ap (λ (t : ℕ). nearest (d * 1 * 10 ^ p) t) divisor
    ∙ ap (λ (t : ℕ). nearest t (10 ^ suc k * 10 ^ q * 10 ^ p)) one
    ∙ nearest_cancel d (10 ^ suc k * 10 ^ q) (10 ^ p) (ten_pos p)
    ∙ nearest_first d (suc k) q (omega arith)

up_some : (d : ℕ) (z : ℤ) (q p k l : ℕ) (r : Option ℕ) → l ≡ d / 10 ^ q → (0 < q → 10 ^ 37 ≤ l) → z +ℤ pos (q + p) ≡ pos k
    → SomeIff r (l * 10 ^ k ≤ 10 ^ 36) (l * 10 ^ k) → SomeIff r (size d z p ≤ 10 ^ 36) (size d z p)
up_some d z zero p k l r first full e h =
    let exact : z +ℤ pos p ≡ pos k = omega (arith, ints) in
    let same : l ≡ d = first ∙ div-one d in
    subst (λ (n : ℕ). SomeIff r (n ≤ 10 ^ 36) n) (ap (λ (n : ℕ). n * 10 ^ k) same ∙ sym (up_whole d z p k exact)) h
up_some d z (suc q) p k l None first full e h =
    let large : 10 ^ 37 ≤ d / 10 ^ suc q = omega (arith, full (omega arith)) in
    λ le. absurd (omega (arith, up_large d z (suc q) p k large e))
up_some d z (suc q) p k l (Some x) first full e h =
    absurd (omega (arith, full (omega arith), h.0, mul-le-mul_left l (ten_pos k)))

pub scaled_up : (s : Scanned) (n : Number) (p k : ℕ) (r : Option ℕ) → Begins s n → s.power +ℤ pos p ≡ pos k
    → SomeIff r (s.leading * 10 ^ k ≤ 10 ^ 36) (s.leading * 10 ^ k) → SomeIff r (scaled_size p n ≤ 10 ^ 36) (scaled_size p n)
unfolding scaled_size
scaled_up s n p k r b e h = up_some n.digits n.power b.past p k s.leading r b.leading b.full (omega (arith, ints, b.power)) h

pub scaled_down : (s : Scanned) (n : Number) (p k : ℕ) → Begins s n → s.power +ℤ pos p ≡ negsuc k
    → scaled_size p n ≡ nearest s.leading (10 ^ suc k)
unfolding scaled_size
scaled_down s n p k b e =
    down n.digits n.power b.past p k (omega (arith, ints, b.power)) ∙ ap (λ (l : ℕ). nearest l (10 ^ suc k)) (sym b.leading)
