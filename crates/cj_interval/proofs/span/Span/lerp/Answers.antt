use Rattle.std.proofs.Common.{◌≡◌, ℕ, ◌*◌, ◌+◌, ◌-◌, ◌≤◌, ◌∙◌, FitsSigned, to_z-of_z, rules, ap, arith}
use Rattle.std.specs.Int.{w128}
use Rattle.cj_interval.specs.Rounding.{floor_div, ceil_div}
use Rattle.cj_interval.proofs.RoundingLemmas.{blend-le, lerp-low, lerp-high}
use Rattle.cj_interval.proofs.SizeLemmas.{mul_pos}
use Rattle.cj_interval.proofs.span.Span.lerp.Goals as goal

-- the weights come to the whole
whole : (of at : ℕ) → at ≤ of → of - at + at ≡ of
whole of at h = omega arith

pub overflow_sub-of : goal.overflow_sub-of
overflow_sub-of c = c.requires.inside

pub overflow_sub-of-2 : goal.overflow_sub-of-2
overflow_sub-of-2 c = c.requires.inside

pub overflow_mul-of : goal.overflow_mul-of
overflow_mul-of c = record { fits = c.requires.product }

pub blend-low-requires-clause-first : goal.blend-low-requires-clause-first
blend-low-requires-clause-first c =
    let f : FitsSigned w128 c.args.self.lo = search rules in
    rw (to_z-of_z f, whole c.args.of c.args.at c.requires.inside) c.requires.self_low

pub blend-low-requires-clause-second : goal.blend-low-requires-clause-second
blend-low-requires-clause-second c =
    let f : FitsSigned w128 c.args.other.lo = search rules in
    rw (to_z-of_z f, whole c.args.of c.args.at c.requires.inside) c.requires.other_low

pub blend-high-requires-clause-first : goal.blend-high-requires-clause-first
blend-high-requires-clause-first c =
    let f : FitsSigned w128 c.args.self.hi = search rules in
    rw (to_z-of_z f, whole c.args.of c.args.at c.requires.inside) c.requires.self_high

pub blend-high-requires-clause-second : goal.blend-high-requires-clause-second
blend-high-requires-clause-second c =
    let f : FitsSigned w128 c.args.other.hi = search rules in
    rw (to_z-of_z f, whole c.args.of c.args.at c.requires.inside) c.requires.other_high

pub outward-requires-clause-some : goal.outward-requires-clause-some
outward-requires-clause-some c = mul_pos c.args.of c.args.by c.requires.some c.requires.divisor

pub outward-requires-clause-low_within : goal.outward-requires-clause-low_within
outward-requires-clause-low_within c =
    let h : FitsSigned w128 c.blend-low.result = record { sfits = c.blend-low.type_inv } in
    rw (to_z-of_z h) c.blend-low.ensures.within

pub outward-requires-clause-high_within : goal.outward-requires-clause-high_within
outward-requires-clause-high_within c =
    let h : FitsSigned w128 c.blend-high.result = record { sfits = c.blend-high.type_inv } in
    rw (to_z-of_z h) c.blend-high.ensures.within

pub outward-requires-clause-ordered : goal.outward-requires-clause-ordered
outward-requires-clause-ordered c =
    let f : FitsSigned w128 c.args.self.lo = search rules in
    let g : FitsSigned w128 c.args.other.lo = search rules in
    let h : FitsSigned w128 c.args.self.hi = search rules in
    let k : FitsSigned w128 c.args.other.hi = search rules in
    let m : FitsSigned w128 c.blend-low.result = record { sfits = c.blend-low.type_inv } in
    let n : FitsSigned w128 c.blend-high.result = record { sfits = c.blend-high.type_inv } in
    let low = simp to_z-of_z at c.blend-low.ensures.value in
    let high = simp to_z-of_z at c.blend-high.ensures.value in
    rw (to_z-of_z m, to_z-of_z n, low, high) (blend-le c.args.self.lo c.args.other.lo c.args.self.hi c.args.other.hi (c.args.of - c.args.at) c.args.at c.args.self.ordered c.args.other.ordered)

pub returns-clause-lower : goal.returns-clause-lower
returns-clause-lower c =
    let f : FitsSigned w128 c.args.self.lo = search rules in
    let g : FitsSigned w128 c.args.other.lo = search rules in
    let h : FitsSigned w128 c.blend-low.result = record { sfits = c.blend-low.type_inv } in
    let d = simp to_z-of_z at c.outward.ensures.lower in
    let v = simp to_z-of_z at c.blend-low.ensures.value in
    d ∙ ap (λ z. floor_div z (c.args.of * c.args.by)) v

pub returns-clause-upper : goal.returns-clause-upper
returns-clause-upper c =
    let f : FitsSigned w128 c.args.self.hi = search rules in
    let g : FitsSigned w128 c.args.other.hi = search rules in
    let h : FitsSigned w128 c.blend-high.result = record { sfits = c.blend-high.type_inv } in
    let d = simp to_z-of_z at c.outward.ensures.upper in
    let v = simp to_z-of_z at c.blend-high.ensures.value in
    d ∙ ap (λ z. ceil_div z (c.args.of * c.args.by)) v

pub returns-clause-encloses : goal.returns-clause-encloses
returns-clause-encloses c x y p q =
    let d = mul_pos c.args.of c.args.by c.requires.some c.requires.divisor in
    record {
      low = rw (returns-clause-lower c) (lerp-low c.args.self.lo c.args.other.lo x y _ _ _ d p.low q.low);
      high = rw (returns-clause-upper c) (lerp-high c.args.self.hi c.args.other.hi x y _ _ _ d p.high q.high);
    }
