-- Interpolant: the cubic Hermite form between two nodes, by its Bezier control values, as exact fractions.
use Rattle.std.specs.Prelude.{ℕ, ◌+◌, ◌-◌, ◌*◌, ◌<◌, ◌≤◌, ℤ, pos, ◌+ℤ◌, ◌-ℤ◌, ◌*ℤ◌, List, slice_index_or}
use Rattle.cj_interval.specs.Sizes.{IsWithin}
use Rattle.cj_hermite.specs.Limits.{CONTROL_REACH}
use Rattle.cj_hermite.specs.declared.pieces.Piece.{Piece}

-- four values on an axis, as the control values of a cubic
pub record Four : Type 0 where
  pub k0 : ℤ
  pub k1 : ℤ
  pub k2 : ℤ
  pub k3 : ℤ

-- the four values of a list
abbrev pub four_of : List ℤ → Four
four_of xs = record {
  k0 = slice_index_or xs 0 (pos 0);
  k1 = slice_index_or xs 1 (pos 0);
  k2 = slice_index_or xs 2 (pos 0);
  k3 = slice_index_or xs 3 (pos 0);
}

-- the control values between places p0 and p1 in nm with rates v0 and v1 in nm/s, t microseconds apart, in 1/3000000 nm
abbrev pub controls_of : ℤ → ℤ → ℤ → ℤ → ℕ → Four
controls_of p0 v0 p1 v1 t = record {
  k0 = pos 3000000 *ℤ p0;
  k1 = pos 3000000 *ℤ p0 +ℤ v0 *ℤ pos t;
  k2 = pos 3000000 *ℤ p1 -ℤ v1 *ℤ pos t;
  k3 = pos 3000000 *ℤ p1;
}

-- the numerator of the place, s of t ticks after the first node: the Bernstein form of degree 3
abbrev pub place_numerator : Four → ℕ → ℕ → ℤ
place_numerator k t s =
    let y = pos (t - s) in
    let x = pos s in
    k.k0 *ℤ y *ℤ y *ℤ y +ℤ pos 3 *ℤ k.k1 *ℤ y *ℤ y *ℤ x +ℤ pos 3 *ℤ k.k2 *ℤ y *ℤ x *ℤ x +ℤ k.k3 *ℤ x *ℤ x *ℤ x

-- the denominator of the place, which is then in nm
abbrev pub place_denominator : ℕ → ℕ
place_denominator t = 3000000 * (t * t * t)

-- the numerator of the rate, s of t ticks after the first node: the Bernstein form of degree 2 of the differences
abbrev pub rate_numerator : Four → ℕ → ℕ → ℤ
rate_numerator k t s =
    let y = pos (t - s) in
    let x = pos s in
    (k.k1 -ℤ k.k0) *ℤ y *ℤ y +ℤ pos 2 *ℤ (k.k2 -ℤ k.k1) *ℤ y *ℤ x +ℤ (k.k3 -ℤ k.k2) *ℤ x *ℤ x

-- the denominator of the rate, which is then in nm/s
abbrev pub rate_denominator : ℕ → ℕ
rate_denominator t = t * t * t

-- control values within the reach of a piece
pub record AreBounded (k : Four) : Type 0 where
  pub k0 : IsWithin CONTROL_REACH k.k0
  pub k1 : IsWithin CONTROL_REACH k.k1
  pub k2 : IsWithin CONTROL_REACH k.k2
  pub k3 : IsWithin CONTROL_REACH k.k3

-- an interpolant: its first tick, its length in ticks, the control values of each axis
pub record Curve : Type 0 where
  pub start : ℕ
  pub span : ℕ
  pub x : Four
  pub y : Four
  pub z : Four

-- the interpolant of a piece
abbrev pub curve_of : Piece → Curve
curve_of p =
    let t = p.t1.micros - p.t0.micros in
    record {
      start = p.t0.micros;
      span = t;
      x = controls_of p.p0.x p.v0.x p.p1.x p.v1.x t;
      y = controls_of p.p0.y p.v0.y p.p1.y p.v1.y t;
      z = controls_of p.p0.z p.v0.z p.p1.z p.v1.z t;
    }

-- the interpolant gives a place at each tick from first to last
pub record IsOver (c : Curve) (first last : ℕ) : Type 0 where
  pub some : 0 < c.span
  pub from : c.start ≤ first
  pub to : last ≤ c.start + c.span
