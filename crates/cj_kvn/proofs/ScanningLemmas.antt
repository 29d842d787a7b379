-- The first digits of a number, as digits are added.
use Rattle.std.proofs.Common.{◌≡◌, ℕ, zero, suc, ◌+◌, ◌*◌, ◌/◌, ◌^◌, ◌<◌, ◌≤◌, arith, ap, sym, ◌∙◌}
use Rattle.std.proofs.Math.Nat.{mul_comm, div-one, div-div-eq-div-mul}
use Rattle.std.proofs.lemmas.Nat.{div-mul-add}
use Rattle.cj_kvn.proofs.PowerLemmas.{ten_more}

-- one more digit that is kept
pub digit_kept : (v q n d : ℕ) → v ≡ n / 10 ^ q → (0 < q → 10 ^ 37 ≤ v) → v < 10 ^ 37 → v * 10 + d ≡ (n * 10 + d) / 10 ^ q
digit_kept v zero n d first full room = ap (λ (m : ℕ). m * 10 + d) (first ∙ div-one n) ∙ sym (div-one (n * 10 + d))
digit_kept v (suc q) n d first full room = absurd (omega (arith, full (omega arith)))

-- one more digit that is left out
pub digit_past : (v q n d : ℕ) → v ≡ n / 10 ^ q → d < 10 → v ≡ (n * 10 + d) / 10 ^ (q + 1)
digit_past v q n d first small =
    first
    ∙ ap (λ (m : ℕ). m / 10 ^ q) (sym (div-mul-add n 10 d small))
    ∙ div-div-eq-div-mul (n * 10 + d) 10 (10 ^ q)
    ∙ ap (λ (m : ℕ). (n * 10 + d) / m) (mul_comm 10 (10 ^ q) ∙ sym (ten_more q))
