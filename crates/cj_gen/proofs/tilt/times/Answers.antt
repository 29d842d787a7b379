use Rattle.std.proofs.Common.{◌≡◌, ◌^◌, ◌<◌, ap, ◌∙◌, sym, subst, arith, FitsSigned, to_z, of_z, to_z-of_z}
use Rattle.std.proofs.lemmas.Int.{ints}
use Rattle.std.specs.Prelude.{ℤ, ◌*ℤ◌, unsigned_abs}
use Rattle.std.specs.Int.{w8, w64}
use Rattle.cj_interval.specs.Sizes.{IsWithin}
use Rattle.cj_interval.proofs.MachineLemmas.{fits_in, product_within, read_in}
use Rattle.cj_gen.proofs.tilt.times.Goals as goal

within : (leg y : ℤ) → FitsSigned w8 leg → IsWithin 100000000 y → IsWithin 12800000000 (leg *ℤ y)
within leg y fits near = product_within leg y 128 100000000 (omega (arith, ints)) near

small : (z : ℤ) → IsWithin 12800000000 z → unsigned_abs z < 2 ^ 63
small z h = omega arith

-- the leg is read as it is
same_leg : (leg y read : ℤ) → FitsSigned w8 leg → read ≡ to_z w8 (of_z w8 leg) → read *ℤ y ≡ leg *ℤ y
same_leg leg y read fits e = ap (λ (l : ℤ). l *ℤ y) (e ∙ to_z-of_z fits)

pub overflow_mul-result : goal.overflow_mul-result
overflow_mul-result c =
    let leg = c.args.leg in
    let y = c.args.y in
    let size = within leg y c.ranges.leg c.requires in
    fits_in w64 ◌*ℤ◌ c.from.result y (leg *ℤ y) (record { sfits = c.from.type_inv }) c.ranges.y
    (same_leg leg y c.from.result c.ranges.leg c.from.ensures) (small (leg *ℤ y) size)

pub returns-clause-value : goal.returns-clause-value
returns-clause-value c =
    let leg = c.args.leg in
    let y = c.args.y in
    let size = within leg y c.ranges.leg c.requires in
    read_in w64 ◌*ℤ◌ c.from.result y (leg *ℤ y) (record { sfits = c.from.type_inv }) c.ranges.y
    (same_leg leg y c.from.result c.ranges.leg c.from.ensures) (small (leg *ℤ y) size)

pub returns-clause-within : goal.returns-clause-within
returns-clause-within c =
    subst (λ (z : ℤ). IsWithin 12800000000 z) (sym (returns-clause-value c)) (within c.args.leg c.args.y c.ranges.leg c.requires)
