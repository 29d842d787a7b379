-- Distance: how far two interpolants are apart at a tick, compared by cross-multiplication.
use Rattle.std.specs.Prelude.{ℕ, ◌+◌, ◌-◌, ◌*◌, ℤ, pos, ◌+ℤ◌, ◌-ℤ◌, ◌*ℤ◌, ◌≤ℤ◌}
use Rattle.cj_hermite.specs.Interpolant.{Four, Curve, place_numerator, place_denominator}

-- one millimetre in nm
abbrev pub BAND : ℕ
BAND = 1_000_000

-- the difference of the places of two axes at tick m, times both denominators
abbrev pub offset : ℕ → ℕ → Four → ℕ → ℕ → Four → ℕ → ℤ
offset s t k s' t' k' m = pos (place_denominator t') *ℤ place_numerator k t (m - s) -ℤ pos (place_denominator t) *ℤ place_numerator k' t' (m - s')

-- the squared distance at tick m, times the square of both denominators
abbrev pub square_distance : Curve → Curve → ℕ → ℤ
square_distance a b m =
    let dx = offset a.start a.span a.x b.start b.span b.x m in
    let dy = offset a.start a.span a.y b.start b.span b.y m in
    let dz = offset a.start a.span a.z b.start b.span b.z m in
    dx *ℤ dx +ℤ dy *ℤ dy +ℤ dz *ℤ dz

-- the square of e nm, times the square of both denominators
abbrev pub square_bound : Curve → Curve → ℕ → ℤ
square_bound a b e =
    let q = place_denominator a.span * place_denominator b.span in
    pos (e * e * (q * q))

-- at most e nm apart at tick m
abbrev pub IsWithinAt : Curve → Curve → ℕ → ℕ → Type 0
IsWithinAt a b e m = square_distance a b m ≤ℤ square_bound a b e

-- at least e nm apart at tick m
abbrev pub IsBeyondAt : Curve → Curve → ℕ → ℕ → Type 0
IsBeyondAt a b e m = square_bound a b e ≤ℤ square_distance a b m

-- near: within the threshold
abbrev pub IsNear : Curve → Curve → ℕ → ℕ → Type 0
IsNear a b thr m = IsWithinAt a b thr m

-- far: not near
abbrev pub IsFar : Curve → Curve → ℕ → ℕ → Type 0
IsFar a b thr m = ¬ IsNear a b thr m

-- in the band: within one millimetre of the threshold, which is at least 10^9 nm
pub record IsInBand (a b : Curve) (thr m : ℕ) : Type 0 where
  pub within : IsWithinAt a b (thr + BAND) m
  pub beyond : IsBeyondAt a b (thr - BAND) m
