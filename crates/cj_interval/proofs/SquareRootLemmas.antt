-- Whole square roots, by their squares.
use Rattle.std.proofs.Common.{◌≡◌, ℕ, zero, suc, ◌+◌, ◌*◌, ◌<◌, ◌≤◌, leb, inl, inr, arith}
use Rattle.std.proofs.Math.Nat.{mul-le-mul}
use Rattle.std.proofs.lemmas.Bool.{cases_lt, leb-true, le-leb}
use Rattle.cj_interval.proofs.PassingLemmas.{greatest_passes, greatest_most, least_is}
use Rattle.cj_interval.specs.SquareRoots.{floor_root, ceil_root}

square_ge : (r : ℕ) → r ≤ r * r
square_ge zero = omega arith
square_ge (suc r) = omega arith

pub floor_root-below : (n : ℕ) → floor_root n * floor_root n ≤ n
unfolding floor_root
floor_root-below n = leb-true _ n (greatest_passes n (λ r. leb (r * r) n) (le-leb 0 n (omega arith)))

pub floor_root-most : (n r : ℕ) → r * r ≤ n → r ≤ floor_root n
unfolding floor_root
floor_root-most n r le = let up = square_ge r in greatest_most n r (λ r. leb (r * r) n) (omega arith) (le-leb (r * r) n le)

pub floor_root-next : (n : ℕ) → n < (floor_root n + 1) * (floor_root n + 1)
floor_root-next n = elim (cases_lt n ((floor_root n + 1) * (floor_root n + 1))) [
  | inl lt ↦ lt
  | inr ge ↦ let most = floor_root-most n (floor_root n + 1) ge in absurd (omega arith)
]

pub floor_root-is : (n r : ℕ) → r * r ≤ n → n < (r + 1) * (r + 1) → floor_root n ≡ r
floor_root-is n r le next = elim (cases_lt r (floor_root n)) [
  | inl lt ↦
      let more : r + 1 ≤ floor_root n = omega arith in
      let up : (r + 1) * (r + 1) ≤ floor_root n * floor_root n = mul-le-mul more more in
      let below = floor_root-below n in
      absurd (omega arith)
  | inr ge ↦ let most = floor_root-most n r le in omega arith
]

pub ceil_root-is : (n r : ℕ) → n ≤ r * r → ((k : ℕ) → n ≤ k * k → r ≤ k) → ceil_root n ≡ r
unfolding ceil_root
ceil_root-is n r le least =
    let most = least n (square_ge n) in
    least_is n 0 r (λ k. leb n (k * k)) (omega arith) (omega arith) (le-leb n (r * r) le) (λ k passes. least k (leb-true n (k * k) passes))
