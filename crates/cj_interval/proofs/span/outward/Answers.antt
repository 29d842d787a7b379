use Rattle.std.proofs.Common.{◌∙◌, FitsSigned, to_z-of_z}
use Rattle.std.specs.Int.{w128}
use Rattle.cj_interval.proofs.IntegerLemmas.{le_trans_ℤ}
use Rattle.cj_interval.proofs.RoundingLemmas.{floor_div-le_ceil_div}
use Rattle.cj_interval.proofs.span.outward.Goals as goal

pub quotient_down-quotient-requires-clause-within : goal.quotient_down-quotient-requires-clause-within
quotient_down-quotient-requires-clause-within c =
    let f : FitsSigned w128 c.args.low = c.ranges.low in
    rw (to_z-of_z f) c.requires.low_within

pub quotient_up_from-requires-clause-within : goal.quotient_up_from-requires-clause-within
quotient_up_from-requires-clause-within c =
    let f : FitsSigned w128 c.args.high = c.ranges.high in
    rw (to_z-of_z f) c.requires.high_within

pub quotient_up_from-requires-clause-small : goal.quotient_up_from-requires-clause-small
quotient_up_from-requires-clause-small c =
    let h : FitsSigned w128 c.quotient_down-quotient.result = record { sfits = c.quotient_down-quotient.type_inv } in
    rw (to_z-of_z h) c.quotient_down-quotient.ensures.small

pub quotient_up_from-requires-clause-product : goal.quotient_up_from-requires-clause-product
quotient_up_from-requires-clause-product c =
    let h : FitsSigned w128 c.quotient_down-quotient.result = record { sfits = c.quotient_down-quotient.type_inv } in
    rw (to_z-of_z h) c.quotient_down-quotient.ensures.product

pub quotient_up_from-requires-clause-below : goal.quotient_up_from-requires-clause-below
quotient_up_from-requires-clause-below c =
    let f : FitsSigned w128 c.args.low = c.ranges.low in
    let g : FitsSigned w128 c.args.high = c.ranges.high in
    let h : FitsSigned w128 c.quotient_down-quotient.result = record { sfits = c.quotient_down-quotient.type_inv } in
    let below = simp to_z-of_z at c.quotient_down-quotient.ensures.below in
    rw (to_z-of_z g, to_z-of_z h) (le_trans_ℤ _ _ _ below c.requires.ordered)

pub returns-clause-lower : goal.returns-clause-lower
returns-clause-lower c =
    let f : FitsSigned w128 c.args.low = c.ranges.low in
    let h : FitsSigned w128 c.quotient_down-quotient.result = record { sfits = c.quotient_down-quotient.type_inv } in
    to_z-of_z h ∙ (rw (to_z-of_z f) at c.quotient_down-quotient.ensures.value)

pub returns-clause-upper : goal.returns-clause-upper
returns-clause-upper c =
    let f : FitsSigned w128 c.args.high = c.ranges.high in
    let k : FitsSigned w128 c.quotient_up_from.result = record { sfits = c.quotient_up_from.type_inv } in
    to_z-of_z k ∙ (rw (to_z-of_z f) at c.quotient_up_from.ensures)

pub invariant_of-result : goal.invariant_of-result
invariant_of-result c =
    let f : FitsSigned w128 c.args.low = c.ranges.low in
    let g : FitsSigned w128 c.args.high = c.ranges.high in
    let h : FitsSigned w128 c.quotient_down-quotient.result = record { sfits = c.quotient_down-quotient.type_inv } in
    let k : FitsSigned w128 c.quotient_up_from.result = record { sfits = c.quotient_up_from.type_inv } in
    let lower = simp to_z-of_z at c.quotient_down-quotient.ensures.value in
    let upper = simp to_z-of_z at c.quotient_up_from.ensures in
    record { ordered = rw (to_z-of_z h, to_z-of_z k, lower, upper) (floor_div-le_ceil_div c.args.low c.args.high c.args.by c.requires.some c.requires.ordered) }
