-- Levels: de Casteljau's algorithm in polar form, with each quotient rounded by `round`, and without division.
use Rattle.std.specs.Prelude.{ℕ, ◌-◌, ◌*◌, ℤ, pos, ◌+ℤ◌, ◌-ℤ◌, ◌*ℤ◌}
use Rattle.cj_hermite.specs.Interpolant.{Four}

-- three values of an axis, which the first level leaves of four
pub record Three : Type 0 where
  pub a : ℤ
  pub b : ℤ
  pub c : ℤ

-- two values of an axis, which the second level leaves of three
pub record Two : Type 0 where
  pub a : ℤ
  pub b : ℤ

-- between two values, u of t ticks on the way, times t
abbrev pub between : ℕ → ℕ → ℤ → ℤ → ℤ
between t u a b = a *ℤ pos (t - u) +ℤ b *ℤ pos u

-- one level: between two values, divided by t and by c
abbrev pub level : (ℤ → ℕ → ℤ) → ℕ → ℕ → ℕ → ℤ → ℤ → ℤ
level round c t u a b = round (between t u a b) (t * c)

-- the first level at u, from control values in 1/3000000 nm to nm
abbrev pub first_values : (ℤ → ℕ → ℤ) → Four → ℕ → ℕ → Three
first_values round k t u = record {
  a = level round 3000000 t u k.k0 k.k1;
  b = level round 3000000 t u k.k1 k.k2;
  c = level round 3000000 t u k.k2 k.k3;
}

-- the second level at v
abbrev pub second_values : (ℤ → ℕ → ℤ) → Three → ℕ → ℕ → Two
second_values round l t v = record { a = level round 1 t v l.a l.b; b = level round 1 t v l.b l.c }

-- the third level at w
abbrev pub third_value : (ℤ → ℕ → ℤ) → Two → ℕ → ℕ → ℤ
third_value round l t w = level round 1 t w l.a l.b

-- the polar value in nm: a level at u, one at v and one at w
abbrev pub polar : (ℤ → ℕ → ℤ) → Four → ℕ → ℕ → ℕ → ℕ → ℤ
polar round k t u v w = third_value round (second_values round (first_values round k t u) t v) t w

-- the exact polar value, times the denominator of the place
abbrev pub exact_polar : Four → ℕ → ℕ → ℕ → ℕ → ℤ
exact_polar k t u v w =
    let a0 = between t u k.k0 k.k1 in
    let a1 = between t u k.k1 k.k2 in
    let a2 = between t u k.k2 k.k3 in
    between t w (between t v a0 a1) (between t v a1 a2)

-- the rate in nm/s: a level at u of the differences of the control values, which divides by t once more, and another
abbrev pub rate_value : (ℤ → ℕ → ℤ) → Four → ℕ → ℕ → ℤ
rate_value round k t u =
    let a = level round t t u (k.k1 -ℤ k.k0) (k.k2 -ℤ k.k1) in
    let b = level round t t u (k.k2 -ℤ k.k1) (k.k3 -ℤ k.k2) in
    level round 1 t u a b
