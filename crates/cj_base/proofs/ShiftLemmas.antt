-- A number times a power of ten.
use Rattle.std.proofs.Common.{◌≡◌, ℕ, suc, ◌+◌, ◌*◌, ◌^◌, arith, ap, sym, ◌∙◌, refl, ℤ, pos, negsuc, ◌+ℤ◌}
use Rattle.std.proofs.Math.Nat.{mul_assoc}
use Rattle.std.proofs.lemmas.Int.{ints}
use Rattle.std.proofs.lemmas.Nat.{pow-add}
use Rattle.cj_base.specs.Decimals.{IsTenfold}
use Rattle.cj_base.specs.Numbers.{Number, ten_above, ten_below}

-- a power of ten is the product of two
product : (a b c : ℕ) → c ≡ a + b → 10 ^ c ≡ 10 ^ a * 10 ^ b
product a b c e = ap (λ (j : ℕ). 10 ^ j) e ∙ pow-add 10 a b

tens : (x y z : ℤ) → z ≡ x +ℤ y → ten_above z * (ten_below x * ten_below y) ≡ ten_above x * ten_above y * ten_below z
tens (pos a) (pos b) (pos c) e = omega (arith, product a b c (omega (arith, ints)))
tens (pos a) (pos b) (negsuc c) e = absurd (omega (arith, ints))
tens (pos a) (negsuc b) (pos c) e = omega (arith, product c (suc b) a (omega (arith, ints)))
tens (pos a) (negsuc b) (negsuc c) e = omega (arith, product a (suc c) (suc b) (omega (arith, ints)))
tens (negsuc a) (pos b) (pos c) e = omega (arith, product c (suc a) b (omega (arith, ints)))
tens (negsuc a) (pos b) (negsuc c) e = omega (arith, product b (suc c) (suc a) (omega (arith, ints)))
tens (negsuc a) (negsuc b) (pos c) e = absurd (omega (arith, ints))
tens (negsuc a) (negsuc b) (negsuc c) e = omega (arith, product (suc a) (suc b) (suc c) (omega (arith, ints)))

pub tenfold_is : (n : Number) (by z : ℤ) → z ≡ n.power +ℤ by → IsTenfold n by (record n { power = z })
tenfold_is n by z e = record {
  negative = refl;
  size =
      mul_assoc n.digits (ten_above z) (ten_below n.power * ten_below by)
      ∙ ap (λ (t : ℕ). n.digits * t) (tens n.power by z e)
      ∙ sym (mul_assoc n.digits (ten_above n.power * ten_above by) (ten_below z))
      ∙ ap (λ (t : ℕ). t * ten_below z) (sym (mul_assoc n.digits (ten_above n.power) (ten_above by)));
}
