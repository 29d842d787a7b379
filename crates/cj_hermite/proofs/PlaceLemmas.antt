-- The rounded polar values at a tick hold the exact place.
use Rattle.std.proofs.Common.{◌≡◌, ℕ, ◌<◌, sym, subst}
use Rattle.std.specs.Prelude.{ℤ, pos, ◌*ℤ◌, ◌≤ℤ◌}
use Rattle.cj_interval.specs.declared.span.Span.{Span}
use Rattle.cj_interval.specs.Rounding.{floor_div, ceil_div}
use Rattle.cj_hermite.specs.Boxes.{IsPolar, HoldsAxis}
use Rattle.cj_hermite.specs.Interpolant.{Four, place_numerator, place_denominator}
use Rattle.cj_hermite.specs.Levels.{polar}
use Rattle.cj_hermite.proofs.LevelLemmas.{polar-low, polar-high, exact_polar-same}

pub polar_holds : (k : Four) (t u : ℕ) (s : Span) → 0 < t → IsPolar k t u u u s → HoldsAxis k t u s
polar_holds k t u s some p =
    let same = exact_polar-same k t u in
    let low = subst (λ (z : ℤ). (polar floor_div k t u u u *ℤ pos (place_denominator t)) ≤ℤ z) same (polar-low k t u u u some) in
    let high = subst (λ (z : ℤ). z ≤ℤ (polar ceil_div k t u u u *ℤ pos (place_denominator t))) same (polar-high k t u u u some) in
    record {
      place = record {
        low = subst (λ (z : ℤ). (z *ℤ pos (place_denominator t)) ≤ℤ place_numerator k t u) (sym p.lower) low;
        high = subst (λ (z : ℤ). place_numerator k t u ≤ℤ (z *ℤ pos (place_denominator t))) (sym p.upper) high;
      };
    }

-- what holds of an axis holds of it under equal names
pub along : (P : Four → ℕ → ℕ → Type 0) (k l : Four) (t s u v : ℕ) → k ≡ l → t ≡ s → u ≡ v → P k t u → P l s v
along P k l t s u v ek et eu h =
    subst (λ (x : ℕ). P l s x) eu (subst (λ (x : ℕ). P l x u) et (subst (λ (x : Four). P x t u) ek h))
