use Rattle.std.proofs.Common.{ap, subst, sym, ◌∙◌, FitsSigned, to_z-of_z, rules}
use Rattle.std.specs.Prelude.{ℤ}
use Rattle.std.specs.Int.{w64}
use Rattle.cj_interval.specs.Rounding.{floor_div}
use Rattle.cj_gen.specs.Orbits.{IsInSquare}
use Rattle.cj_gen.proofs.PlaneLemmas.{point_same, rate_in_square}
use Rattle.cj_gen.proofs.plane.Point.rate.Goals as goal

pub returns-clause-value : goal.returns-clause-value
returns-clause-value c =
    let f : FitsSigned w64 c.args.self.x = search rules in
    let g : FitsSigned w64 c.args.self.y = search rules in
    let h : FitsSigned w64 c.backward.result = record { sfits = c.backward.type_inv } in
    let k : FitsSigned w64 c.forward.result = record { sfits = c.forward.type_inv } in
    let backward = simp to_z-of_z at c.backward.ensures.value in
    let forward = simp to_z-of_z at c.forward.ensures.value in
    let x = simp to_z-of_z at c.quotient.ensures in
    let y = simp to_z-of_z at c.quotient-2.ensures in
    let whole : FitsSigned w64 c.quotient.result = record { sfits = c.quotient.type_inv } in
    let whole_2 : FitsSigned w64 c.quotient-2.result = record { sfits = c.quotient-2.type_inv } in
    point_same _ _ (to_z-of_z whole ∙ x ∙ ap (λ (z : ℤ). floor_div z 10000) backward) (to_z-of_z whole_2 ∙ y ∙ ap (λ (z : ℤ). floor_div z 10000) forward)

pub returns-clause-within : goal.returns-clause-within
returns-clause-within c = subst (IsInSquare 20000000) (sym (returns-clause-value c)) (rate_in_square c.args.self c.requires)
