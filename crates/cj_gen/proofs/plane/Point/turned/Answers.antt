use Rattle.std.proofs.Common.{ap, ◌∙◌, FitsSigned, to_z-of_z, rules}
use Rattle.std.specs.Prelude.{ℤ}
use Rattle.std.specs.Int.{w64}
use Rattle.cj_interval.specs.Rounding.{floor_div}
use Rattle.cj_gen.proofs.PlaneLemmas.{point_same}
use Rattle.cj_gen.proofs.plane.Point.turned.Goals as goal

pub returns : goal.returns
returns c =
    let f : FitsSigned w64 c.args.self.x = search rules in
    let g : FitsSigned w64 c.args.self.y = search rules in
    let h : FitsSigned w64 c.across.result = record { sfits = c.across.type_inv } in
    let k : FitsSigned w64 c.along.result = record { sfits = c.along.type_inv } in
    let across = simp to_z-of_z at c.across.ensures.value in
    let along = simp to_z-of_z at c.along.ensures.value in
    let x = simp to_z-of_z at c.quotient.ensures in
    let y = simp to_z-of_z at c.quotient-2.ensures in
    let whole : FitsSigned w64 c.quotient.result = record { sfits = c.quotient.type_inv } in
    let whole_2 : FitsSigned w64 c.quotient-2.result = record { sfits = c.quotient-2.type_inv } in
    point_same _ _ (to_z-of_z whole ∙ x ∙ ap (λ (z : ℤ). floor_div z 481) across) (to_z-of_z whole_2 ∙ y ∙ ap (λ (z : ℤ). floor_div z 481) along)
