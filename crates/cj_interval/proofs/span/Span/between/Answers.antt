use Rattle.std.proofs.Common.{◌≡◌, ℕ, ◌*◌, ◌+◌, ◌-◌, ◌≤◌, ◌∙◌, FitsSigned, to_z-of_z, ap, arith}
use Rattle.std.specs.Int.{w128}
use Rattle.cj_interval.specs.Rounding.{floor_div, ceil_div}
use Rattle.cj_interval.proofs.IntegerLemmas.{le_refl_ℤ}
use Rattle.cj_interval.proofs.RoundingLemmas.{floor_div-le, ceil_div-ge}
use Rattle.cj_interval.proofs.SizeLemmas.{mul_pos}
use Rattle.cj_interval.proofs.span.Span.between.Goals as goal

-- the weights come to the whole
whole : (of at : ℕ) → at ≤ of → of - at + at ≡ of
whole of at h = omega arith

pub overflow_sub-of : goal.overflow_sub-of
overflow_sub-of c = c.requires.inside

pub overflow_mul-of : goal.overflow_mul-of
overflow_mul-of c = record { fits = c.requires.product }

pub blend-value-requires-clause-first : goal.blend-value-requires-clause-first
blend-value-requires-clause-first c =
    let f : FitsSigned w128 c.args.first = c.ranges.first in
    rw (to_z-of_z f, whole c.args.of c.args.at c.requires.inside) c.requires.first_within

pub blend-value-requires-clause-second : goal.blend-value-requires-clause-second
blend-value-requires-clause-second c =
    let f : FitsSigned w128 c.args.second = c.ranges.second in
    rw (to_z-of_z f, whole c.args.of c.args.at c.requires.inside) c.requires.second_within

pub outward-requires-clause-some : goal.outward-requires-clause-some
outward-requires-clause-some c = mul_pos c.args.of c.args.by c.requires.some c.requires.divisor

pub outward-requires-clause-ordered : goal.outward-requires-clause-ordered
outward-requires-clause-ordered c = le_refl_ℤ _

pub outward-requires-clause-low_within : goal.outward-requires-clause-low_within
outward-requires-clause-low_within c =
    let h : FitsSigned w128 c.blend-value.result = record { sfits = c.blend-value.type_inv } in
    rw (to_z-of_z h) c.blend-value.ensures.within

pub outward-requires-clause-high_within : goal.outward-requires-clause-high_within
outward-requires-clause-high_within c =
    let h : FitsSigned w128 c.blend-value.result = record { sfits = c.blend-value.type_inv } in
    rw (to_z-of_z h) c.blend-value.ensures.within

pub returns-clause-lower : goal.returns-clause-lower
returns-clause-lower c =
    let f : FitsSigned w128 c.args.first = c.ranges.first in
    let g : FitsSigned w128 c.args.second = c.ranges.second in
    let h : FitsSigned w128 c.blend-value.result = record { sfits = c.blend-value.type_inv } in
    let d = simp to_z-of_z at c.outward.ensures.lower in
    let v = simp to_z-of_z at c.blend-value.ensures.value in
    d ∙ ap (λ z. floor_div z (c.args.of * c.args.by)) v

pub returns-clause-upper : goal.returns-clause-upper
returns-clause-upper c =
    let f : FitsSigned w128 c.args.first = c.ranges.first in
    let g : FitsSigned w128 c.args.second = c.ranges.second in
    let h : FitsSigned w128 c.blend-value.result = record { sfits = c.blend-value.type_inv } in
    let d = simp to_z-of_z at c.outward.ensures.upper in
    let v = simp to_z-of_z at c.blend-value.ensures.value in
    d ∙ ap (λ z. ceil_div z (c.args.of * c.args.by)) v

pub returns-clause-encloses : goal.returns-clause-encloses
returns-clause-encloses c =
    let d = mul_pos c.args.of c.args.by c.requires.some c.requires.divisor in
    record {
      low = rw (returns-clause-lower c) (floor_div-le _ _ d);
      high = rw (returns-clause-upper c) (ceil_div-ge _ _ d);
    }
