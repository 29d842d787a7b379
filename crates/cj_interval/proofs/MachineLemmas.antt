-- Numbers of 128 bits that were computed and read again.
use Rattle.std.proofs.Common.{◌≡◌, ℕ, ◌*◌, ◌^◌, ◌<◌, ◌≤◌, arith, sym, ap, subst, ◌∙◌, to_z, of_z, to_z-of_z, FitsSigned}
use Rattle.std.proofs.lemmas.Int.{ints, fits_signed_from_abs, unsigned_abs-mul}
use Rattle.std.proofs.lemmas.Nat.{mul-le}
use Rattle.std.specs.Prelude.{ℤ, pos, negsuc, ◌+ℤ◌, ◌-ℤ◌, ◌*ℤ◌, ◌≤ℤ◌, neg_ℤ, unsigned_abs}
use Rattle.std.specs.Int.{int_div_euclid}
use mir.Syntax.{Width, w64, w128}
use mir.Val.{hbits}
use Rattle.cj_interval.specs.Rounding.{floor_div, ceil_div}
use Rattle.cj_interval.specs.Sizes.{IsWithin}

-- a number that fits comes back as it was
pub back : (z : ℤ) → unsigned_abs z < 2 ^ 127 → to_z w128 (of_z w128 z) ≡ z
back z h = to_z-of_z (fits_signed_from_abs w128 z h)

-- f of two numbers that were read fits, where it is v
pub fits_in : (w : Width) (f : ℤ → ℤ → ℤ) (a b v : ℤ) → FitsSigned w a → FitsSigned w b → f a b ≡ v → unsigned_abs v < 2 ^ hbits w
    → FitsSigned w (f (to_z w (of_z w a)) (to_z w (of_z w b)))
fits_in w f a b v p q e h =
    subst (λ (z : ℤ). FitsSigned w z)
    (sym (ap (λ (z : ℤ). f z (to_z w (of_z w b))) (to_z-of_z p) ∙ ap (f a) (to_z-of_z q) ∙ e))
    (fits_signed_from_abs w v h)

-- and is read as v
pub read_in : (w : Width) (f : ℤ → ℤ → ℤ) (a b v : ℤ) → FitsSigned w a → FitsSigned w b → f a b ≡ v → unsigned_abs v < 2 ^ hbits w
    → to_z w (of_z w (f (to_z w (of_z w a)) (to_z w (of_z w b)))) ≡ v
read_in w f a b v p q e h =
    to_z-of_z (fits_in w f a b v p q e h)
    ∙ ap (λ (z : ℤ). f z (to_z w (of_z w b))) (to_z-of_z p) ∙ ap (f a) (to_z-of_z q) ∙ e

-- the same in 128 bits
pub read_as : (f : ℤ → ℤ → ℤ) (a b v : ℤ) → FitsSigned w128 a → FitsSigned w128 b → f a b ≡ v → unsigned_abs v < 2 ^ 127
    → to_z w128 (of_z w128 (f (to_z w128 (of_z w128 a)) (to_z w128 (of_z w128 b)))) ≡ v
read_as f a b v p q e h = read_in w128 f a b v p q e h

-- a quotient of numbers that were read
pub read_down : (z q : ℤ) (k : ℤ) (d : ℕ) → FitsSigned w128 z → FitsSigned w128 k → FitsSigned w128 q → k ≡ pos d
    → q ≡ int_div_euclid (to_z w128 (of_z w128 z)) (to_z w128 (of_z w128 k)) → to_z w128 (of_z w128 q) ≡ floor_div z d
unfolding floor_div
read_down z q k d p r s e f =
    to_z-of_z s ∙ f
    ∙ ap (λ x. int_div_euclid x (to_z w128 (of_z w128 k))) (to_z-of_z p)
    ∙ ap (λ x. int_div_euclid z x) (to_z-of_z r ∙ e)

-- the same, rounded up: the code negates, divides and negates again
pub read_up : (z q : ℤ) (k : ℤ) (d : ℕ) → FitsSigned w128 z → FitsSigned w128 k → FitsSigned w128 q → k ≡ pos d → unsigned_abs z ≤ 2 ^ 126
    → q ≡ int_div_euclid (to_z w128 (of_z w128 (pos 0 -ℤ to_z w128 (of_z w128 z)))) (to_z w128 (of_z w128 k)) → 0 < d
    → to_z w128 (of_z w128 (pos 0 -ℤ to_z w128 (of_z w128 q))) ≡ ceil_div z d
unfolding ceil_div
read_up z q k d p r s e h f g =
    let m : to_z w128 (of_z w128 (pos 0 -ℤ to_z w128 (of_z w128 z))) ≡ neg_ℤ z = omega (arith, ints) in
    let same : q ≡ int_div_euclid (neg_ℤ z) (pos d) =
    f ∙ ap (λ x. int_div_euclid x (to_z w128 (of_z w128 k))) m ∙ ap (λ x. int_div_euclid (neg_ℤ z) x) (to_z-of_z r ∙ e) in
    let small = quotient_within (neg_ℤ z) q d same g in
    let n : unsigned_abs (neg_ℤ z) ≤ 2 ^ 126 = omega (arith, ints) in
    let back : to_z w128 (of_z w128 (pos 0 -ℤ to_z w128 (of_z w128 q))) ≡ neg_ℤ q = omega (arith, ints) in
    back ∙ ap neg_ℤ same
  where
    quotient_within : (z q : ℤ) (d : ℕ) → q ≡ int_div_euclid z (pos d) → 0 < d → unsigned_abs q ≤ unsigned_abs z
    quotient_within (pos a) q d e g = rw e (omega arith)
    quotient_within (negsuc a) q d e g = rw e (omega arith)

-- the value of f in r, from two numbers that were read
pub read_known : (f : ℤ → ℤ → ℤ) (a b r v : ℤ) → FitsSigned w128 a → FitsSigned w128 b → FitsSigned w128 r
    → r ≡ f (to_z w128 (of_z w128 a)) (to_z w128 (of_z w128 b)) → f a b ≡ v → to_z w128 (of_z w128 r) ≡ v
read_known f a b r v p q s e g =
    to_z-of_z s ∙ e ∙ ap (λ z. f z (to_z w128 (of_z w128 b))) (to_z-of_z p) ∙ ap (f a) (to_z-of_z q) ∙ g

pub product_within : (a b : ℤ) (m n : ℕ) → IsWithin m a → IsWithin n b → IsWithin (m * n) (a *ℤ b)
product_within a b m n h k = omega (arith, unsigned_abs-mul a b, mul-le (unsigned_abs a) (unsigned_abs b) m n h k)

-- what is so small fits in 64 bits, where it was read in 128
pub short_fits : (z : ℤ) → IsWithin (2 ^ 62) z → FitsSigned w64 (to_z w128 (of_z w128 z))
short_fits z h = subst (λ (x : ℤ). FitsSigned w64 x) (sym (back z (omega arith))) (fits_signed_from_abs w64 z (omega arith))

pub product_fits : (a b : ℤ) → IsWithin (2 ^ 62) a → IsWithin (2 ^ 62) b → unsigned_abs (a *ℤ b) < 2 ^ 127
product_fits a b h k = let size = product_within a b (2 ^ 62) (2 ^ 62) h k in omega arith

-- what is so small fits in 128 bits
pub under : (z : ℤ) → IsWithin (2 ^ 126) z → unsigned_abs z < 2 ^ 127
under z h = omega arith

pub sum_fits : (a b : ℤ) → IsWithin (2 ^ 125) a → IsWithin (2 ^ 125) b → unsigned_abs (a +ℤ b) < 2 ^ 127
sum_fits a b h k = omega (arith, ints)

pub difference_fits : (a b : ℤ) → IsWithin (2 ^ 125) a → IsWithin (2 ^ 125) b → unsigned_abs (a -ℤ b) < 2 ^ 127
difference_fits a b h k = omega (arith, ints)

-- what the absolute difference says
pub above_by : (z p : ℤ) (n : ℕ) → p ≤ℤ z → n ≡ unsigned_abs (z -ℤ p) → z ≡ p +ℤ pos n
above_by z p n h e = omega (arith, ints)
