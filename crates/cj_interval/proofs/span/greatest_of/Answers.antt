use Rattle.std.proofs.Common.{refl, ◌∙◌, FitsSigned, to_z-of_z}
use Rattle.std.specs.Int.{w128}
use Rattle.cj_interval.specs.Spans.{greatest}
use Rattle.cj_interval.proofs.span.greatest_of.Goals as goal

pub returns : goal.returns
unfolding greatest
returns c =
    let fa : FitsSigned w128 c.args.a = c.ranges.a in
    let fb : FitsSigned w128 c.args.b = c.ranges.b in
    let fc : FitsSigned w128 c.args.c = c.ranges.c in
    let fd : FitsSigned w128 c.args.d = c.ranges.d in
    let first : FitsSigned w128 c.max.result = record { sfits = c.max.type_inv } in
    let second : FitsSigned w128 c.max-2.result = record { sfits = c.max-2.type_inv } in
    let both : FitsSigned w128 c.max-3.result = record { sfits = c.max-3.type_inv } in
    let e1 = simp to_z-of_z at c.max.ensures.value in
    let e2 = simp to_z-of_z at c.max-2.ensures.value in
    let e3 = simp to_z-of_z at c.max-3.ensures.value in
    to_z-of_z both ∙ e3 ∙ rw (e1, e2) refl
