use Rattle.std.proofs.Common.{◌-◌, ◌^◌, arith, refl, subst, sym}
use Rattle.std.proofs.lemmas.Int.{ints, clamps}
use Rattle.std.specs.Prelude.{ℤ}
use Rattle.std.specs.Int.{int_min, int_max}
use Rattle.cj_interval.specs.Sizes.{IsWithin}
use Rattle.cj_bezier.proofs.PartLemmas.{least_step, greatest_step, sized, read_value}
use Rattle.cj_walk.proofs.joined_gaps.both.Goals as goal

weaker : (z : ℤ) → IsWithin (2 ^ 126 - 1) z → IsWithin (2 ^ 126) z
weaker z w = omega (arith, ints)

least_within : (a b : ℤ) → IsWithin (2 ^ 126 - 1) a → IsWithin (2 ^ 126 - 1) b → IsWithin (2 ^ 126 - 1) (int_min a b)
least_within a b v w = omega (arith, ints, clamps)

greatest_within : (a b : ℤ) → IsWithin (2 ^ 126 - 1) a → IsWithin (2 ^ 126 - 1) b → IsWithin (2 ^ 126 - 1) (int_max a b)
greatest_within a b v w = omega (arith, ints, clamps)

pub returns-clause-lower : goal.returns-clause-lower
returns-clause-lower c =
    let a = c.args.a in
    let b = c.args.b in
    let least =
    least_step c.min.result a.lo b.lo a.lo b.lo (sized a.lo a.lo refl (weaker a.lo c.requires.a.low)) (sized b.lo b.lo refl (weaker b.lo c.requires.b.low))
    c.min.ensures.value in
    read_value (λ (z : ℤ). z) c.min.result (int_min a.lo b.lo) _ least refl

pub returns-clause-upper : goal.returns-clause-upper
returns-clause-upper c =
    let a = c.args.a in
    let b = c.args.b in
    let greatest =
    greatest_step c.max.result a.hi b.hi a.hi b.hi (sized a.hi a.hi refl (weaker a.hi c.requires.a.high)) (sized b.hi b.hi refl (weaker b.hi c.requires.b.high))
    c.max.ensures.value in
    read_value (λ (z : ℤ). z) c.max.result (int_max a.hi b.hi) _ greatest refl

pub returns-clause-within : goal.returns-clause-within
returns-clause-within c = record {
  low = subst (IsWithin (2 ^ 126 - 1)) (sym (returns-clause-lower c)) (least_within c.args.a.lo c.args.b.lo c.requires.a.low c.requires.b.low);
  high = subst (IsWithin (2 ^ 126 - 1)) (sym (returns-clause-upper c)) (greatest_within c.args.a.hi c.args.b.hi c.requires.a.high c.requires.b.high);
}
