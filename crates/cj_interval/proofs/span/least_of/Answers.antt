use Rattle.std.proofs.Common.{refl, ◌∙◌, FitsSigned, to_z-of_z}
use Rattle.std.specs.Int.{w128}
use Rattle.cj_interval.specs.Spans.{least}
use Rattle.cj_interval.proofs.span.least_of.Goals as goal

pub returns : goal.returns
unfolding least
returns c =
    let fa : FitsSigned w128 c.args.a = c.ranges.a in
    let fb : FitsSigned w128 c.args.b = c.ranges.b in
    let fc : FitsSigned w128 c.args.c = c.ranges.c in
    let fd : FitsSigned w128 c.args.d = c.ranges.d in
    let first : FitsSigned w128 c.min.result = record { sfits = c.min.type_inv } in
    let second : FitsSigned w128 c.min-2.result = record { sfits = c.min-2.type_inv } in
    let both : FitsSigned w128 c.min-3.result = record { sfits = c.min-3.type_inv } in
    let e1 = simp to_z-of_z at c.min.ensures.value in
    let e2 = simp to_z-of_z at c.min-2.ensures.value in
    let e3 = simp to_z-of_z at c.min-3.ensures.value in
    to_z-of_z both ∙ e3 ∙ rw (e1, e2) refl
