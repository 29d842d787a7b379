-- The seven coefficients one by one, and the binomial coefficients.
use Rattle.std.proofs.Common.{◌≡◌, ℕ, zero, suc, ◌<◌, ◌≤◌, arith, refl, sym, subst, List, [], ◌∷◌, slice_index_or}
use Rattle.std.specs.Prelude.{ℤ, pos}
use Rattle.cj_bezier.specs.Verdicts.{choose6}

-- what holds of 0 to 6 holds of each number below 7
pub seven_cases : (P : ℕ → Type 0) → P 0 → P 1 → P 2 → P 3 → P 4 → P 5 → P 6 → (k : ℕ) → k < 7 → P k
seven_cases P a b c d e f g zero l = a
seven_cases P a b c d e f g (suc zero) l = b
seven_cases P a b c d e f g (suc (suc zero)) l = c
seven_cases P a b c d e f g (suc (suc (suc zero))) l = d
seven_cases P a b c d e f g (suc (suc (suc (suc zero)))) l = e
seven_cases P a b c d e f g (suc (suc (suc (suc (suc zero))))) l = f
seven_cases P a b c d e f g (suc (suc (suc (suc (suc (suc zero)))))) l = g
seven_cases P a b c d e f g (suc (suc (suc (suc (suc (suc (suc n))))))) l = absurd (omega arith)

-- the first seven values of a function
abbrev pub seven : (ℕ → ℤ) → List ℤ
seven f = f 0 ∷ f 1 ∷ f 2 ∷ f 3 ∷ f 4 ∷ f 5 ∷ f 6 ∷ []

-- what holds of each value beside its binomial coefficient holds of the first seven
pub first_seven : (P : ℕ → ℤ → Type 0) (f : ℕ → ℤ) → ((k : ℕ) → P (choose6 k) (f k)) → (k : ℕ) → k < 7 → P (choose6 k) (slice_index_or (seven f) k (pos 0))
first_seven P f h = seven_cases (λ k. P (choose6 k) (slice_index_or (seven f) k (pos 0))) (h 0) (h 1) (h 2) (h 3) (h 4) (h 5) (h 6)

-- and the other way round, where the values end with the seventh
pub from_seven : (P : ℕ → ℤ → Type 0) (f : ℕ → ℤ) → ((n : ℕ) → f (suc (suc (suc (suc (suc (suc n)))))) ≡ f 6)
    → ((k : ℕ) → k < 7 → P (choose6 k) (slice_index_or (seven f) k (pos 0))) → (k : ℕ) → P (choose6 k) (f k)
from_seven P f last h zero = h 0 (omega arith)
from_seven P f last h (suc zero) = h 1 (omega arith)
from_seven P f last h (suc (suc zero)) = h 2 (omega arith)
from_seven P f last h (suc (suc (suc zero))) = h 3 (omega arith)
from_seven P f last h (suc (suc (suc (suc zero)))) = h 4 (omega arith)
from_seven P f last h (suc (suc (suc (suc (suc zero))))) = h 5 (omega arith)
from_seven P f last h (suc (suc (suc (suc (suc (suc n)))))) = subst (λ (z : ℤ). P 1 z) (sym (last n)) (h 6 (omega arith))

-- C(6,k) is from 1 to 20
pub choose6-bounds : (k : ℕ) → (0 < choose6 k) × (choose6 k ≤ 20)
choose6-bounds zero = (omega arith, omega arith)
choose6-bounds (suc zero) = (omega arith, omega arith)
choose6-bounds (suc (suc zero)) = (omega arith, omega arith)
choose6-bounds (suc (suc (suc zero))) = (omega arith, omega arith)
choose6-bounds (suc (suc (suc (suc zero)))) = (omega arith, omega arith)
choose6-bounds (suc (suc (suc (suc (suc zero))))) = (omega arith, omega arith)
choose6-bounds (suc (suc (suc (suc (suc (suc n)))))) = (omega arith, omega arith)

-- a value of a function of the first seven
pub at_seven : (f : ℕ → ℤ) (k : ℕ) → k < 7 → slice_index_or (seven f) k (pos 0) ≡ f k
at_seven f = seven_cases (λ k. slice_index_or (seven f) k (pos 0) ≡ f k) refl refl refl refl refl refl refl
