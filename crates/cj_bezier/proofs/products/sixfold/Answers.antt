use Rattle.std.proofs.Common.{◌*◌, ◌^◌, ap, ◌∙◌, arith}
use Rattle.std.proofs.lemmas.Int.{ints}
use Rattle.std.specs.Prelude.{ℤ, pos, ◌*ℤ◌}
use Rattle.cj_interval.specs.Sizes.{IsWithin}
use Rattle.cj_interval.proofs.IntegerLemmas.{mul_comm_ℤ}
use Rattle.cj_bezier.specs.Gaps.{dot_low, dot_high}
use Rattle.cj_bezier.specs.Sizes.{SQUARE_REACH}
use Rattle.cj_bezier.proofs.products.sixfold.Goals as goal

pub returns-clause-lower : goal.returns-clause-lower
returns-clause-lower c = c.scale.ensures.lower ∙ ap (λ (z : ℤ). z *ℤ pos 6) c.dot.ensures.lower ∙ mul_comm_ℤ (dot_low c.args.a.now c.args.b.now) (pos 6)

pub returns-clause-upper : goal.returns-clause-upper
returns-clause-upper c = c.scale.ensures.upper ∙ ap (λ (z : ℤ). z *ℤ pos 6) c.dot.ensures.upper ∙ mul_comm_ℤ (dot_high c.args.a.now c.args.b.now) (pos 6)

times : (z : ℤ) → IsWithin (3 * SQUARE_REACH) z → IsWithin (18 * SQUARE_REACH) (z *ℤ pos 6)
times z w = omega (arith, ints)

small : (z : ℤ) → IsWithin (18 * SQUARE_REACH) z → IsWithin (2 ^ 126) z
small z w = omega (arith, ints)

pub returns-clause-within : goal.returns-clause-within
returns-clause-within c =
    let w = c.dot.ensures.within in record {
      low = rw c.scale.ensures.lower (times c.dot.result.lo w.low);
      high = rw c.scale.ensures.upper
          (times c.dot.result.hi w.high);
    }

pub dot-requires : goal.dot-requires
dot-requires c = record { first = c.requires.first; second = c.requires.second }

pub scale-requires : goal.scale-requires
scale-requires c =
    let w = c.dot.ensures.within in record {
      low = small (c.dot.result.lo *ℤ pos 6) (times c.dot.result.lo w.low);
      high = small (c.dot.result.hi *ℤ pos 6)
          (times c.dot.result.hi w.high);
    }
