use Rattle.std.proofs.Common.{FitsSigned, refl, rules}
use Rattle.std.specs.Int.{int_min, int_max, w128}
use Rattle.cj_interval.proofs.MachineLemmas.{read_known}
use Rattle.cj_bezier.proofs.JoinedBoxLemmas.{joined_order}
use Rattle.cj_checker.proofs.hull_boxes.join_spans.Goals as goal

pub returns-clause-lower : goal.returns-clause-lower
returns-clause-lower c =
    let f : FitsSigned w128 c.args.a.lo = search rules in
    let g : FitsSigned w128 c.args.b.lo = search rules in
    read_known int_min c.args.a.lo c.args.b.lo c.min.result _ f g (record { sfits = c.min.type_inv }) c.min.ensures.value refl

pub returns-clause-upper : goal.returns-clause-upper
returns-clause-upper c =
    let f : FitsSigned w128 c.args.a.hi = search rules in
    let g : FitsSigned w128 c.args.b.hi = search rules in
    read_known int_max c.args.a.hi c.args.b.hi c.max.result _ f g (record { sfits = c.max.type_inv }) c.max.ensures.value refl

pub invariant_of-result : goal.invariant_of-result
invariant_of-result c =
    let a = c.args.a in
    let b = c.args.b in
    let f : FitsSigned w128 a.lo = search rules in
    let g : FitsSigned w128 b.lo = search rules in
    let h : FitsSigned w128 a.hi = search rules in
    let k : FitsSigned w128 b.hi = search rules in
    let lower = read_known int_min a.lo b.lo c.min.result (int_min a.lo b.lo) f g (record { sfits = c.min.type_inv }) c.min.ensures.value refl in
    let upper = read_known int_max a.hi b.hi c.max.result (int_max a.hi b.hi) h k (record { sfits = c.max.type_inv }) c.max.ensures.value refl in
    record { ordered = rw (lower, upper) (joined_order a.lo a.hi b.lo b.hi a.ordered) }
