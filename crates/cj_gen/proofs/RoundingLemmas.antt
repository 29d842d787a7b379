-- A quotient of 64 bits that was computed and read again.
use Rattle.std.proofs.Common.{◌≡◌, ℕ, ap, ◌∙◌, to_z, of_z, to_z-of_z, FitsSigned}
use Rattle.std.specs.Prelude.{ℤ, pos}
use Rattle.std.specs.Int.{int_div_euclid, w64}
use Rattle.cj_interval.specs.Rounding.{floor_div}

pub read_down : (z q k : ℤ) (d : ℕ) → FitsSigned w64 z → FitsSigned w64 k → FitsSigned w64 q → k ≡ pos d
    → q ≡ int_div_euclid (to_z w64 (of_z w64 z)) (to_z w64 (of_z w64 k)) → to_z w64 (of_z w64 q) ≡ floor_div z d
unfolding floor_div
read_down z q k d p r s e f =
    to_z-of_z s ∙ f
    ∙ ap (λ x. int_div_euclid x (to_z w64 (of_z w64 k))) (to_z-of_z p)
    ∙ ap (λ x. int_div_euclid z x) (to_z-of_z r ∙ e)
