-- How many digits a number has, and what follows for its size.
use Rattle.std.proofs.Common.{◌≡◌, ℕ, zero, suc, ◌+◌, ◌*◌, ◌/◌, ◌-◌, ◌^◌, ◌<◌, ◌≤◌, length, arith, ap, sym, ◌∙◌, refl, subst, inl, inr, true, false, ℤ, pos, negsuc, ◌+ℤ◌, ◌≤ℤ◌, ◌<ℤ◌}
use Rattle.std.specs.Int.Digits.{digits_of}
use Rattle.std.proofs.Math.Nat.{mul-le-mul_left, mul-le-mul_right, mul-lt-mul_of_pos_right, div-mul-le_self, lt-div-mul-add, div-lt_iff_lt-mul}
use Rattle.std.proofs.lemmas.Bool.{lt-ltb, le-ltb, le-leb, lt-leb}
use Rattle.std.proofs.lemmas.Bool.Decides.{leb_tells}
use Rattle.std.proofs.lemmas.Int.{by_lt_z, ints}
use Rattle.std.proofs.lemmas.Int.Digits.{length-digits_of-le, number_digits_of, number_lt, all_below_base_digits_of}
use Rattle.std.proofs.lemmas.Nat.{pow-add}
use Rattle.cj_base.specs.Decimals.{is_tiny, is_huge}
use Rattle.cj_kvn.specs.Decimals.{digit_count}
use Rattle.cj_base.specs.Numbers.{Number, ten_above, ten_below}
use Rattle.cj_kvn.specs.Numbers.{nearest}
use Rattle.cj_kvn.proofs.PowerLemmas.{ten_pos, ten_grows, nearest_ge, nearest_one}

pub count_zero : digit_count 0 ≡ 0
unfolding digit_count
count_zero = refl

-- a number is below ten to the count of its digits
pub count_above : (n : ℕ) → n < 10 ^ digit_count n
unfolding digit_count
count_above n = subst (λ (m : ℕ). m < 10 ^ length (digits_of 10 n)) (number_digits_of 10 n (omega arith)) (number_lt 10 (digits_of 10 n) (all_below_base_digits_of 10 n (omega arith)))

pub count_most : (n k : ℕ) → n < 10 ^ k → digit_count n ≤ k
unfolding digit_count
count_most n k small = length-digits_of-le 10 k n (omega arith) small

pub count_least : (n k : ℕ) → 10 ^ k ≤ n → k < digit_count n
count_least n k large = elim (leb_tells (suc k) (digit_count n)) [
  | inl h ↦ h.1
  | inr h ↦ absurd (omega (arith, count_above n, ten_grows (digit_count n) k (omega arith)))
]

pub count_is : (n k : ℕ) → 10 ^ k ≤ n → n < 10 ^ (k + 1) → digit_count n ≡ k + 1
count_is n k large small = omega (arith, count_least n k large, count_most n (k + 1) small)

pub count_pos : (n : ℕ) → 0 < n → 0 < digit_count n
count_pos n some = count_least n 0 some

pub pos_by_count : (n : ℕ) → 0 < digit_count n → 0 < n
pos_by_count n some = elim (leb_tells 1 n) [
  | inl h ↦ h.1
  | inr h ↦ let none : n ≡ 0 = omega arith in absurd (omega (arith, ap digit_count none, count_zero))
]

-- at least the power below
pub count_below : (n k : ℕ) → 0 < n → digit_count n ≡ suc k → 10 ^ k ≤ n
count_below n k some e = elim (leb_tells (10 ^ k) n) [
  | inl h ↦ h.1
  | inr h ↦ absurd (omega (arith, count_most n k h.1))
]

-- the first digits and all of them
pub count_first : (n q : ℕ) → 0 < n / 10 ^ q → digit_count n ≡ digit_count (n / 10 ^ q) + q
count_first n q some =
    let l = n / 10 ^ q in
    let k = digit_count l - 1 in
    let next : digit_count l ≡ suc k = omega (arith, count_pos l some) in
    let low : 10 ^ k ≤ l = count_below l k some next in
    let high : l + 1 ≤ 10 ^ suc k = omega (arith, subst (λ (c : ℕ). l < 10 ^ c) next (count_above l)) in
    let below : 10 ^ (k + q) ≤ n = omega (arith, pow-add 10 k q, mul-le-mul_right (10 ^ q) low, div-mul-le_self n (10 ^ q)) in
    let e : suc k + q ≡ k + q + 1 = omega arith in
    let room : l * 10 ^ q + 10 ^ q ≡ (l + 1) * 10 ^ q = grind arith in
    let top : 10 ^ (k + q + 1) ≡ 10 ^ suc k * 10 ^ q = ap (λ (j : ℕ). 10 ^ j) (sym e) ∙ pow-add 10 (suc k) q in
    let above : n < 10 ^ (k + q + 1) = omega (arith, top, room, mul-le-mul_right (10 ^ q) high, lt-div-mul-add {a = n} {b = 10 ^ q} (ten_pos q)) in
    omega (arith, count_is n (k + q) below above)

-- the nearest whole number to a fraction below a whole number
pub nearest_le : (c n d : ℕ) → 0 < d → n ≤ c * d → nearest n d ≤ c
nearest_le c n d some le =
    let e : (c + 1) * (2 * d) ≡ 2 * (c * d) + 2 * d = grind arith in
    let below : nearest n d < c + 1 = (div-lt_iff_lt-mul {k = 2 * d} {x = 2 * n + d} {y = c + 1} (omega arith)).1 (omega (arith, e)) in
    omega arith

-- below 10 ^ -99
below_yes : (d : ℕ) (z : ℤ) → (z +ℤ pos (digit_count d)) ≤ℤ negsuc 98 → d * ten_above z * 10 ^ 99 < ten_below z
below_yes d (pos a) le = absurd (omega (arith, ints))
below_yes d (negsuc a) le =
    let c = digit_count d in
    let whole : 10 ^ (c + 99) ≡ 10 ^ c * 10 ^ 99 = pow-add 10 c 99 in
    let small : d * 1 * 10 ^ 99 < 10 ^ c * 10 ^ 99 = mul-lt-mul_of_pos_right (omega (arith, count_above d)) (ten_pos 99) in
    omega (arith, ten_grows (c + 99) (suc a) (omega (arith, ints)))

below_no : (d : ℕ) (z : ℤ) → 0 < d → negsuc 97 ≤ℤ (z +ℤ pos (digit_count d)) → ten_below z ≤ d * ten_above z * 10 ^ 99
below_no d (pos a) some le =
    omega (arith, mul-le-mul_left d (ten_pos a), mul-le-mul_right (10 ^ 99) some, mul-le-mul_right (10 ^ 99) (mul-le-mul_left d (ten_pos a)))
below_no d (negsuc a) some le =
    let k = digit_count d - 1 in
    let next : digit_count d ≡ suc k = omega (arith, count_pos d some) in
    let whole : 10 ^ (k + 99) ≡ 10 ^ k * 10 ^ 99 = pow-add 10 k 99 in
    let large : 10 ^ k * 10 ^ 99 ≤ d * 1 * 10 ^ 99 = mul-le-mul_right (10 ^ 99) (omega (arith, count_below d k some next)) in
    omega (arith, ten_grows (suc a) (k + 99) (omega (arith, ints)))

-- 10 ^ 100 or more
above_yes : (d : ℕ) (z : ℤ) → 0 < d → pos 101 ≤ℤ (z +ℤ pos (digit_count d)) → ten_below z * 10 ^ 100 ≤ d * ten_above z
above_yes d (pos a) some le =
    let k = digit_count d - 1 in
    let next : digit_count d ≡ suc k = omega (arith, count_pos d some) in
    omega (arith, ten_grows 100 (k + a) (omega (arith, ints)), pow-add 10 k a, mul-le-mul_right (10 ^ a) (count_below d k some next))
above_yes d (negsuc a) some le =
    let k = digit_count d - 1 in
    let next : digit_count d ≡ suc k = omega (arith, count_pos d some) in
    omega (arith, ten_grows (suc a + 100) k (omega (arith, ints)), pow-add 10 (suc a) 100, count_below d k some next)

above_no : (d : ℕ) (z : ℤ) → (z +ℤ pos (digit_count d)) ≤ℤ pos 100 → d * ten_above z < ten_below z * 10 ^ 100
above_no d (pos a) le =
    let c = digit_count d in
    omega (arith, ten_grows (c + a) 100 (omega (arith, ints)), pow-add 10 c a, mul-lt-mul_of_pos_right {k = 10 ^ a} (count_above d) (ten_pos a))
above_no d (negsuc a) le =
    let c = digit_count d in
    omega (arith, ten_grows c (suc a + 100) (omega (arith, ints)), pow-add 10 (suc a) 100, count_above d)

below_pos : (z : ℤ) → 0 < ten_below z
below_pos (pos a) = omega arith
below_pos (negsuc a) = ten_pos (suc a)

pub tiny_zero : (n : Number) → n.digits ≡ 0 → is_tiny n ≡ true
unfolding is_tiny
tiny_zero n none =
    let zero : n.digits * ten_above n.power * 10 ^ 99 ≡ 0 = ap (λ (d : ℕ). d * ten_above n.power * 10 ^ 99) none ∙ omega arith in
    lt-ltb _ _ (omega (arith, below_pos n.power))

pub tiny_yes : (n : Number) → (n.power +ℤ pos (digit_count n.digits)) ≤ℤ negsuc 98 → is_tiny n ≡ true
unfolding is_tiny
tiny_yes n le = lt-ltb _ _ (below_yes n.digits n.power le)

pub tiny_no : (n : Number) → 0 < n.digits → negsuc 97 ≤ℤ (n.power +ℤ pos (digit_count n.digits)) → is_tiny n ≡ false
unfolding is_tiny
tiny_no n some le = le-ltb _ _ (below_no n.digits n.power some le)

pub huge_yes : (n : Number) → 0 < n.digits → pos 101 ≤ℤ (n.power +ℤ pos (digit_count n.digits)) → is_huge n ≡ true
unfolding is_huge
huge_yes n some le = le-leb _ _ (above_yes n.digits n.power some le)

pub huge_no : (n : Number) → (n.power +ℤ pos (digit_count n.digits)) ≤ℤ pos 100 → is_huge n ≡ false
unfolding is_huge
huge_no n le = lt-leb _ _ (above_no n.digits n.power le)

pub short_by_count : (n k : ℕ) → digit_count n ≤ k → n < 10 ^ k
short_by_count n k few = omega (arith, count_above n, ten_grows (digit_count n) k few)

-- a number of more digits, rounded to 18 of them
pub nearest_least : (n k : ℕ) → 0 < k → digit_count n - 18 ≡ k → 10 ^ 17 ≤ nearest n (10 ^ k)
nearest_least n k some e =
    let low = count_below n (17 + k) (let p : 0 < n = pos_by_count n (omega arith) in p) (omega arith) in
    nearest_ge (10 ^ 17) n (10 ^ k) (ten_pos k) (omega (arith, low, pow-add 10 17 k))

pub nearest_most : (n k : ℕ) → 0 < k → digit_count n - 18 ≡ k → nearest n (10 ^ k) ≤ 10 ^ 18
nearest_most n k some e =
    nearest_le (10 ^ 18) n (10 ^ k) (ten_pos k) (omega (arith, short_by_count n (18 + k) (omega arith), pow-add 10 18 k))

-- numbers whose first digits stand at one power of ten
pub tiny_same : (n m : Number) → 0 < n.digits → 0 < m.digits → n.power +ℤ pos (digit_count n.digits) ≡ m.power +ℤ pos (digit_count m.digits)
    → is_tiny n ≡ is_tiny m
tiny_same n m some more same =
    let t = n.power +ℤ pos (digit_count n.digits) in
    by_lt_z t (negsuc 97)
    (λ (below : t <ℤ negsuc 97). tiny_yes n (omega (arith, ints)) ∙ sym (tiny_yes m (omega (arith, ints))))
    (λ (above : negsuc 97 ≤ℤ t). tiny_no n some (omega (arith, ints)) ∙ sym (tiny_no m more (omega (arith, ints))))

pub huge_same : (n m : Number) → 0 < n.digits → 0 < m.digits → n.power +ℤ pos (digit_count n.digits) ≡ m.power +ℤ pos (digit_count m.digits)
    → is_huge n ≡ is_huge m
huge_same n m some more same =
    let t = n.power +ℤ pos (digit_count n.digits) in
    by_lt_z (pos 100) t
    (λ (above : pos 100 <ℤ t). huge_yes n some (omega (arith, ints)) ∙ sym (huge_yes m more (omega (arith, ints))))
    (λ (below : t ≤ℤ pos 100). huge_no n (omega (arith, ints)) ∙ sym (huge_no m (omega (arith, ints))))

-- rounding leaves the first digit where it is, or one higher
pub rounded_count : (n k : ℕ) → 0 < n → digit_count n - 18 ≡ k → digit_count n ≤ k + digit_count (nearest n (10 ^ k))
rounded_count n zero some e = omega (arith, ap digit_count (nearest_one n))
rounded_count n (suc k) some e = omega (arith, count_least (nearest n (10 ^ suc k)) 17 (nearest_least n (suc k) (omega arith) e))
