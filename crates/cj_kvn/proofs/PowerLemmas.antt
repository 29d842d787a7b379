-- Powers of ten, and the nearest whole number.
use Rattle.std.proofs.Common.{◌≡◌, ℕ, zero, suc, ◌+◌, ◌*◌, ◌/◌, ◌-◌, ◌^◌, ◌<◌, ◌≤◌, List, [], ◌∷◌, get_or, arith, ap, sym, ◌∙◌, inl, inr}
use Rattle.std.proofs.Math.Nat.{pow-suc, one-le-pow, mul_assoc, mul_comm, div-div-eq-div-mul, div-eq_of_lt, mul-div-mul_left, mul-div-mul_right, mul-le-mul_right, mul-lt-mul_of_pos_right, pow-le-pow_right, add-mul-div_right}
use Rattle.std.proofs.lemmas.Nat.{pow-add, le-div}
use Rattle.std.proofs.lemmas.Bool.Decides.{leb_tells}
use Rattle.cj_kvn.specs.Numbers.{nearest}

-- so many numbers, each ten times the one before
abbrev pub tenfold : ℕ → ℕ → List ℕ
tenfold zero n = []
tenfold (suc k) n = n ∷ tenfold k (n * 10)

pub get_tenfold : (k n i d : ℕ) → i < k → get_or (tenfold k n) i d ≡ n * 10 ^ i
get_tenfold zero n i d below = absurd (omega arith)
get_tenfold (suc k) n zero d below = omega arith
get_tenfold (suc k) n (suc i) d below =
    get_tenfold k (n * 10) i d (omega arith)
    ∙ mul_assoc n 10 (10 ^ i)
    ∙ ap (λ (m : ℕ). n * m) (mul_comm 10 (10 ^ i) ∙ sym (pow-suc 10 i))

pub ten_pos : (k : ℕ) → 0 < 10 ^ k
ten_pos k = one-le-pow k 10 (omega arith)

pub ten_more : (k : ℕ) → 10 ^ (k + 1) ≡ 10 ^ k * 10
ten_more k = omega (arith, pow-add 10 k 1)

pub ten_grows : (j k : ℕ) → j ≤ k → 10 ^ j ≤ 10 ^ k
ten_grows j k le = pow-le-pow_right (omega arith) le

-- a power of ten above 1 is even
pub half_of_ten : (k : ℕ) → 0 < k → 10 ^ k ≡ 2 * (10 ^ k / 2)
half_of_ten zero some = absurd (omega arith)
half_of_ten (suc k) some = omega (arith, pow-suc 10 k)

pub nearest_even : (n h : ℕ) → nearest n (2 * h) ≡ (n + h) / (2 * h)
nearest_even n h =
    let e : 2 * n + 2 * h ≡ 2 * (n + h) = omega arith in
    ap (λ (m : ℕ). m / (2 * (2 * h))) e ∙ mul-div-mul_left (n + h) (2 * h) (omega arith)

-- how the code rounds
pub nearest_ten : (n k : ℕ) → 0 < k → nearest n (10 ^ k) ≡ (n + 10 ^ k / 2) / 10 ^ k
nearest_ten n k some =
    let half = half_of_ten k some in
    ap (λ (d : ℕ). nearest n d) half
    ∙ nearest_even n (10 ^ k / 2)
    ∙ ap (λ (d : ℕ). (n + 10 ^ k / 2) / d) (sym half)

pub nearest_zero : (n d : ℕ) → 2 * n < d → nearest n d ≡ 0
nearest_zero n d small = div-eq_of_lt (omega arith)

pub nearest_one : (n : ℕ) → nearest n 1 ≡ n
nearest_one n = omega arith

pub nearest_cancel : (n d m : ℕ) → 0 < m → nearest (n * m) (d * m) ≡ nearest n d
nearest_cancel n d m some =
    let above : 2 * (n * m) + d * m ≡ (2 * n + d) * m = grind arith in
    let below : 2 * (d * m) ≡ 2 * d * m = sym (mul_assoc 2 d m) in
    ap (λ (a : ℕ). a / (2 * (d * m))) above
    ∙ ap (λ (b : ℕ). (2 * n + d) * m / b) below
    ∙ mul-div-mul_right (2 * n + d) (2 * d) some

pub nearest_times : (n m : ℕ) → 0 < m → nearest (n * m) m ≡ n
nearest_times n m some =
    let one : m ≡ 1 * m = omega arith in
    ap (λ (d : ℕ). nearest (n * m) d) one ∙ nearest_cancel n 1 m some ∙ nearest_one n

pub nearest_ge : (c n d : ℕ) → 0 < d → c * d ≤ n → c ≤ nearest n d
nearest_ge c n d some le =
    let e : c * (2 * d) ≡ 2 * (c * d) = grind arith in
    le-div c (2 * n + d) (2 * d) (omega arith) (omega (arith, e))

-- only the first digits count
pub nearest_first : (n k q : ℕ) → 0 < k → nearest n (10 ^ k * 10 ^ q) ≡ nearest (n / 10 ^ q) (10 ^ k)
nearest_first n k q some =
    let t = 10 ^ q in
    let h = 10 ^ k / 2 in
    let half = half_of_ten k some in
    let whole : 10 ^ k * t ≡ 2 * (h * t) = ap (λ (d : ℕ). d * t) half ∙ mul_assoc 2 h t in
    let turned : 2 * (h * t) ≡ t * (2 * h) = grind arith in
    ap (λ (d : ℕ). nearest n d) whole
    ∙ nearest_even n (h * t)
    ∙ ap (λ (d : ℕ). (n + h * t) / d) turned
    ∙ sym (div-div-eq-div-mul (n + h * t) t (2 * h))
    ∙ ap (λ (a : ℕ). a / (2 * h)) (add-mul-div_right n h (ten_pos q))
    ∙ sym (nearest_even (n / t) h)
    ∙ ap (λ (d : ℕ). nearest (n / t) d) (sym half)

ten_whole : (k : ℕ) → k ≤ 36 → 10 ^ (36 - k) * 10 ^ k ≡ 10 ^ 36
ten_whole k low =
    let e : 36 - k + k ≡ 36 = omega arith in
    sym (pow-add 10 (36 - k) k) ∙ ap (λ (j : ℕ). 10 ^ j) e

-- what is at most 10 ^ 36, and what is past it
pub raised_fits : (n k : ℕ) → k ≤ 36 → n ≤ 10 ^ (36 - k) → n * 10 ^ k ≤ 10 ^ 36
raised_fits n k low le = omega (arith, mul-le-mul_right (10 ^ k) le, ten_whole k low)

pub raised_past : (n k : ℕ) → 0 < n → (k ≤ 36 → 10 ^ (36 - k) < n) → 10 ^ 36 < n * 10 ^ k
raised_past n k some past = elim (leb_tells k 36) [
  | inl low ↦ omega (arith, mul-lt-mul_of_pos_right {k = 10 ^ k} (past low.1) (ten_pos k), ten_whole k low.1)
  | inr high ↦ omega (arith, ten_grows 37 k (omega arith), mul-le-mul_right (10 ^ k) some)
]
