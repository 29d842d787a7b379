-- Products of two spans whose signs are known: the least and the greatest of the four products of ends.
use Rattle.std.proofs.Common.{◌≡◌, ◌^◌, zero, suc, arith, sym, subst, true, FitsSigned, to_z, of_z, to_z-of_z}
use Rattle.std.proofs.lemmas.Int.{ints, clamps, fits_signed_from_abs}
use Rattle.std.specs.Int.{w128}
use Rattle.std.specs.Prelude.{ℤ, pos, negsuc, ◌*ℤ◌, ◌≤ℤ◌}
use lib.IntN.{*ℤ-zero}
use lib.Signed.{le_z}
use Rattle.cj_interval.specs.Sizes.{IsWithin}
use Rattle.cj_interval.specs.Spans.{least, greatest}
use Rattle.cj_interval.proofs.IntegerLemmas.{mul-le_right, mul-le_turn, mul_comm_ℤ, le_refl_ℤ}

-- a factor keeps the order, or turns it
keeps : (a b x : ℤ) → pos 0 ≤ℤ x → a ≤ℤ b → (a *ℤ x) ≤ℤ (b *ℤ x)
keeps a b (pos n) p h = mul-le_right a b n h
keeps a b (negsuc n) p h = absurd (omega (arith, ints))

turns : (a b x : ℤ) → x ≤ℤ pos 0 → a ≤ℤ b → (b *ℤ x) ≤ℤ (a *ℤ x)
turns a b (pos zero) p h = rw (*ℤ-zero a, *ℤ-zero b) (le_refl_ℤ (pos 0))
turns a b (pos (suc n)) p h = absurd (omega (arith, ints))
turns a b (negsuc n) p h = mul-le_turn a b n h

keeps_left : (x a b : ℤ) → pos 0 ≤ℤ x → a ≤ℤ b → (x *ℤ a) ≤ℤ (x *ℤ b)
keeps_left x a b p h = rw (mul_comm_ℤ x a, mul_comm_ℤ x b) (keeps a b x p h)

turns_left : (x a b : ℤ) → x ≤ℤ pos 0 → a ≤ℤ b → (x *ℤ b) ≤ℤ (x *ℤ a)
turns_left x a b p h = rw (mul_comm_ℤ x a, mul_comm_ℤ x b) (turns a b x p h)

-- which of four numbers is the least, and which the greatest
pub record AreEnds (l g w x y z : ℤ) : Type 0 where
  pub low : l ≡ least w x y z
  pub high : g ≡ greatest w x y z

first_to_last : (w x y z : ℤ) → w ≤ℤ x → w ≤ℤ y → x ≤ℤ z → y ≤ℤ z → AreEnds w z w x y z
unfolding least greatest
first_to_last w x y z p q r s = record { low = omega (arith, ints, clamps); high = omega (arith, ints, clamps) }

last_to_first : (w x y z : ℤ) → x ≤ℤ w → y ≤ℤ w → z ≤ℤ x → z ≤ℤ y → AreEnds z w w x y z
unfolding least greatest
last_to_first w x y z p q r s = record { low = omega (arith, ints, clamps); high = omega (arith, ints, clamps) }

third_to_second : (w x y z : ℤ) → y ≤ℤ w → y ≤ℤ z → w ≤ℤ x → z ≤ℤ x → AreEnds y x w x y z
unfolding least greatest
third_to_second w x y z p q r s = record { low = omega (arith, ints, clamps); high = omega (arith, ints, clamps) }

second_to_third : (w x y z : ℤ) → x ≤ℤ w → x ≤ℤ z → w ≤ℤ y → z ≤ℤ y → AreEnds x y w x y z
unfolding least greatest
second_to_third w x y z p q r s = record { low = omega (arith, ints, clamps); high = omega (arith, ints, clamps) }

pub none_negative : (a b c d : ℤ) → a ≤ℤ b → c ≤ℤ d → pos 0 ≤ℤ a → pos 0 ≤ℤ c → AreEnds (a *ℤ c) (b *ℤ d) (a *ℤ c) (a *ℤ d) (b *ℤ c) (b *ℤ d)
none_negative a b c d h k p q =
    first_to_last _ _ _ _ (keeps_left a c d p k) (keeps a b c q h) (keeps a b d (omega (arith, ints)) h) (keeps_left b c d (omega (arith, ints)) k)

pub second_negative : (a b c d : ℤ) → a ≤ℤ b → c ≤ℤ d → pos 0 ≤ℤ a → d ≤ℤ pos 0 → AreEnds (b *ℤ c) (a *ℤ d) (a *ℤ c) (a *ℤ d) (b *ℤ c) (b *ℤ d)
second_negative a b c d h k p q =
    third_to_second _ _ _ _ (turns a b c (omega (arith, ints)) h) (keeps_left b c d (omega (arith, ints)) k) (keeps_left a c d p k) (turns a b d q h)

pub first_negative : (a b c d : ℤ) → a ≤ℤ b → c ≤ℤ d → b ≤ℤ pos 0 → pos 0 ≤ℤ c → AreEnds (a *ℤ d) (b *ℤ c) (a *ℤ c) (a *ℤ d) (b *ℤ c) (b *ℤ d)
first_negative a b c d h k p q =
    second_to_third _ _ _ _ (turns_left a c d (omega (arith, ints)) k) (keeps a b d (omega (arith, ints)) h) (keeps a b c q h) (turns_left b c d p k)

pub both_negative : (a b c d : ℤ) → a ≤ℤ b → c ≤ℤ d → b ≤ℤ pos 0 → d ≤ℤ pos 0 → AreEnds (b *ℤ d) (a *ℤ c) (a *ℤ c) (a *ℤ d) (b *ℤ c) (b *ℤ d)
both_negative a b c d h k p q =
    last_to_first _ _ _ _ (turns_left a c d (omega (arith, ints)) k) (turns a b c (omega (arith, ints)) h) (turns a b d q h) (turns_left b c d p k)

-- ---- the code's tests, and ends that are read

pub from_zero : (z : ℤ) → FitsSigned w128 z → le_z (pos 0) (to_z w128 (of_z w128 z)) ≡ true → pos 0 ≤ℤ z
from_zero z f h = let k = rw (to_z-of_z f) at h in grind (arith, ints)

pub to_zero : (z : ℤ) → FitsSigned w128 z → le_z (to_z w128 (of_z w128 z)) (pos 0) ≡ true → z ≤ℤ pos 0
to_zero z f h = let k = rw (to_z-of_z f) at h in grind (arith, ints)

pub end_read : (z : ℤ) → IsWithin (2 ^ 62) z → IsWithin (2 ^ 62) (to_z w128 (of_z w128 z))
end_read z h = subst (IsWithin (2 ^ 62)) (sym (to_z-of_z (fits_signed_from_abs w128 z (omega arith)))) h
