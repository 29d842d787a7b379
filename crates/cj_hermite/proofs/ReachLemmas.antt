-- How large the numbers are from which control values and the first level come, and that those of 64 bits are read as they were.
use Rattle.std.proofs.Common.{◌≡◌, ℕ, ◌-◌, ◌*◌, ◌^◌, ◌<◌, ◌≤◌, arith, sym, ap, subst, ◌∙◌, FitsSigned, to_z, of_z, to_z-of_z}
use Rattle.std.proofs.lemmas.Int.{ints, fits_signed_from_abs, to_z_pos}
use Rattle.std.proofs.lemmas.Nat.{mul-le}
use Rattle.std.specs.Prelude.{ℤ, pos, ◌+ℤ◌, ◌-ℤ◌, ◌*ℤ◌, unsigned_abs}
use Rattle.std.specs.Int.{w64}
use Rattle.cj_interval.specs.Sizes.{IsWithin}
use Rattle.cj_interval.proofs.IntegerLemmas.{add-mul_ℤ}
use Rattle.cj_interval.proofs.MachineLemmas.{product_within}
use Rattle.cj_interval.proofs.SizeLemmas.{floor_div_within, ceil_div_within}
use Rattle.cj_track.specs.Limits as limits
use Rattle.cj_hermite.proofs.ReadyLemmas.{moved, moved_within, round_within}

-- ---- both ways to say how large a number is

pub from_sides : (m : ℕ) (z : ℤ) → limits.IsWithin m z → IsWithin m z
from_sides m z h = omega (arith, ints)

pub to_sides : (m : ℕ) (z : ℤ) → IsWithin m z → limits.IsWithin m z
to_sides m z h = omega (arith, ints)

-- ---- places and rates that are read

pub place_read : (z : ℤ) → IsWithin 500000000000000000 z → IsWithin 500000000000000000 (to_z w64 (of_z w64 z))
place_read z h = subst (IsWithin 500000000000000000) (sym (to_z-of_z (fits_signed_from_abs w64 z (omega arith)))) h

pub place_sides : (z : ℤ) → limits.IsWithin 500000000000000000 z → limits.IsWithin 500000000000000000 (to_z w64 (of_z w64 z))
place_sides z h = to_sides _ _ (place_read z (from_sides _ z h))

pub rate_sides : (z : ℤ) → limits.IsWithin 20000000000000 z → limits.IsWithin 20000000000000 (to_z w64 (of_z w64 z))
rate_sides z h =
    let size = from_sides 20000000000000 z h in
    subst (limits.IsWithin 20000000000000) (sym (to_z-of_z (fits_signed_from_abs w64 z (omega arith)))) h

-- ---- what a rate covers, in 128 bits

pub travelled_size : (v : ℤ) (n : ℕ) → limits.IsWithin 20000000000000 v → n ≤ 3600000000 → IsWithin 72000000000000000000000 (v *ℤ pos n)
travelled_size v n h k = product_within v (pos n) 20000000000000 3600000000 (from_sides _ v h) k

pub travelled_within : (v : ℤ) (n : ℕ) → limits.IsWithin 20000000000000 v → n ≤ 3600000000 → limits.IsWithin 72000000000000000000000 (v *ℤ pos n)
travelled_within v n h k = to_sides _ _ (travelled_size v n h k)

pub travelled_fits : (v : ℤ) (n : ℕ) → limits.IsWithin 20000000000000 v → n ≤ 3600000000 → unsigned_abs (v *ℤ pos n) < 2 ^ 127
travelled_fits v n h k = let size = travelled_size v n h k in omega arith

-- ---- rates over a piece, in 128 bits

pub rate_room : (a : ℤ) (n : ℕ) → IsWithin 3144000000000000000000000 a → n ≤ 3600000000 → IsWithin (2 ^ 126) (a *ℤ pos n)
rate_room a n h k = let size = product_within a (pos n) 3144000000000000000000000 3600000000 h k in omega arith

pub square_short : (n : ℕ) → n ≤ 3600000000 → n * n < 2 ^ 64
square_short n h = let size = mul-le n n 3600000000 3600000000 h h in omega arith

pub whole_short : (n : ℕ) → n ≤ 3600000000 → n * 1 < 2 ^ 64
whole_short n h = omega arith

-- ---- the inner control values

pub control_sum : (a b : ℤ) → limits.IsWithin 1500000000000000000000000 a → limits.IsWithin 72000000000000000000000 b → IsWithin 1572000000000000000000000 (a +ℤ b)
control_sum a b h k = omega (arith, ints)

pub control_difference : (a b : ℤ) → limits.IsWithin 1500000000000000000000000 a → limits.IsWithin 72000000000000000000000 b → IsWithin 1572000000000000000000000 (a -ℤ b)
control_difference a b h k = omega (arith, ints)

pub control_end : (a : ℤ) → limits.IsWithin 1500000000000000000000000 a → IsWithin 1572000000000000000000000 a
control_end a h = omega (arith, ints)

pub control_fits : (a : ℤ) → IsWithin 1572000000000000000000000 a → unsigned_abs a < 2 ^ 127
control_fits a h = omega arith

-- ---- what whole nanometres cover, in 64 bits

pub ticks_fit : (n : ℕ) → n ≤ 3600000000 → unsigned_abs (pos n) < 2 ^ 63
ticks_fit n h = omega arith

pub covered_size : (z : ℤ) (n : ℕ) → IsWithin 6666667 z → n ≤ 3600000000 → IsWithin 24000001200000000 (z *ℤ pos n)
covered_size z n h k = product_within z (pos n) 6666667 3600000000 h k

pub covered_fits : (z : ℤ) (n : ℕ) → IsWithin 6666667 z → n ≤ 3600000000 → FitsSigned w64 (z *ℤ pos n)
covered_fits z n h k = let size = covered_size z n h k in fits_signed_from_abs w64 (z *ℤ pos n) (omega arith)

pub covered_read : (z : ℤ) (n : ℕ) → FitsSigned w64 z → n ≤ 3600000000 → to_z w64 (of_z w64 z) *ℤ to_z w64 n ≡ z *ℤ pos n
covered_read z n f k = ap (λ (x : ℤ). x *ℤ to_z w64 n) (to_z-of_z f) ∙ ap (λ (x : ℤ). z *ℤ x) (to_z_pos w64 n (ticks_fit n k))

-- ---- what is smaller than a bound is smaller than a greater one

pub place_far : (z : ℤ) → IsWithin 500000000000000000 z → IsWithin 2000000000000000000 z
place_far z h = omega arith

pub way_far : (z : ℤ) → IsWithin 60000000000000000 z → IsWithin 2000000000000000000 z
way_far z h = omega arith

pub covered_far : (z : ℤ) → IsWithin 24000001200000000 z → IsWithin 2000000000000000000 z
covered_far z h = omega arith

pub covered_near : (z : ℤ) → IsWithin 24000001200000000 z → IsWithin 50000000000000000 z
covered_near z h = omega arith

pub between_far : (z : ℤ) → IsWithin 1152921504606846976 z → IsWithin 2000000000000000000 z
between_far z h = omega arith

pub two_covered : (a b : ℤ) → IsWithin 24000001200000000 a → IsWithin 24000001200000000 b → IsWithin 50000000000000000 (a +ℤ b)
two_covered a b h k = omega (arith, ints)

pub apart_within : (a b : ℤ) → IsWithin 500000000000000000 a → IsWithin 500000000000000000 b → IsWithin 1152921504606846976 (b -ℤ a)
apart_within a b h k = omega (arith, ints)

-- ---- parts of 3,000,000

pub few_parts : (a n : ℕ) → a < 3000000 → n ≤ 3600000000 → a * n ≤ 10799996400000000
few_parts a n h k = let less : a ≤ 2999999 = omega arith in mul-le a n 2999999 3600000000 less k

-- ---- the outer values of the first level

-- a place and a way stay within reach, and so does the next whole number
pub outer_within : (p v q : ℤ) (n r : ℕ) → IsWithin 500000000000000000 p → IsWithin 20000000000000 v → n ≤ 3600000000 → v *ℤ pos n ≡ q *ℤ pos 3000000 +ℤ pos r → r < 3000000
    → IsWithin 524000000000000000 (p +ℤ q) × (0 < r → IsWithin 524000000000000000 (p +ℤ q +ℤ pos 1))
outer_within p v q n r h k short e less =
    let z = pos 3000000 *ℤ p +ℤ v *ℤ pos n in
    let within = moved_within p v n h k short in
    round_within z (p +ℤ q) 3000000 r 524000000000000000 (moved p v q n r e) less
    (floor_div_within z 3000000 524000000000000000 (omega arith) within)
    (ceil_div_within z 3000000 524000000000000000 (omega arith) within)

-- ---- the middle value of the first level

-- a rest that is large enough gives one more
pub carry : (w : ℤ) (r d : ℕ) → d ≤ r → w *ℤ pos d +ℤ pos r ≡ (w +ℤ pos 1) *ℤ pos d +ℤ pos (r - d)
carry w r d h = joined (w *ℤ pos d) _ r d h (add-mul_ℤ w (pos 1) (pos d))
  where
    joined : (a s : ℤ) (r d : ℕ) → d ≤ r → s ≡ a +ℤ pos (1 * d) → a +ℤ pos r ≡ s +ℤ pos (r - d)
    joined a s r d h e = omega (arith, ints)

pub one_more_fits : (z : ℤ) → IsWithin 1800000000000000000 z → unsigned_abs (z +ℤ pos 1) < 2 ^ 63
one_more_fits z h = omega (arith, ints)

pub once_smaller : (r d : ℕ) → d ≤ r → r < 2 * d → r - d < d
once_smaller r d h k = omega arith

-- the whole nanometres of the middle value
pub middle_within : (p h w : ℤ) → IsWithin 500000000000000000 p → IsWithin 1152921504606846976 h → IsWithin 60000000000000000 w → IsWithin 1800000000000000000 ((p +ℤ h) +ℤ w)
middle_within p h w a b c = omega (arith, ints)

pub sum_far : (p h : ℤ) → IsWithin 500000000000000000 p → IsWithin 1152921504606846976 h → IsWithin 2000000000000000000 (p +ℤ h)
sum_far p h a b = omega (arith, ints)
