use Rattle.std.proofs.Common.{◌^◌, ◌+◌, ◌<◌, pos, ◌*ℤ◌, arith, refl, FitsSigned, to_z-of_z}
use Rattle.std.specs.Prelude.{ℤ, unsigned_abs}
use Rattle.std.specs.Int.{w128}
use Rattle.cj_interval.specs.Sizes.{IsWithin}
use Rattle.cj_interval.proofs.MachineLemmas.{above_by, fits_in, read_as}
use Rattle.cj_interval.proofs.span.left_over.Goals as goal

small : (z : ℤ) → IsWithin (2 ^ 126 + 2 ^ 64) z → unsigned_abs z < 2 ^ 127
small z h = omega arith

pub overflow_mul-quotient : goal.overflow_mul-quotient
overflow_mul-quotient c =
    fits_in w128 ◌*ℤ◌ c.args.quotient c.from.result (c.args.quotient *ℤ pos c.args.by) c.ranges.quotient (record { sfits = c.from.type_inv }) (rw c.from.ensures refl) (small (c.args.quotient *ℤ pos c.args.by) c.requires.product)

pub returns : goal.returns
returns c =
    let f : FitsSigned w128 c.args.z = c.ranges.z in
    let product = read_as ◌*ℤ◌ c.args.quotient c.from.result (c.args.quotient *ℤ pos c.args.by) c.ranges.quotient (record { sfits = c.from.type_inv }) (rw c.from.ensures refl) (small (c.args.quotient *ℤ pos c.args.by) c.requires.product) in
    above_by c.args.z (c.args.quotient *ℤ pos c.args.by) c.abs_diff.result c.requires.below (rw (to_z-of_z f, product) at c.abs_diff.ensures)
