use Rattle.std.proofs.Common.{◌≡◌, ℕ, ap, ◌∙◌, FitsSigned, to_z-of_z, rules}
use Rattle.std.specs.Prelude.{ℤ, ◌*ℤ◌}
use Rattle.std.specs.Int.{w8, w64}
use Rattle.cj_interval.specs.Rounding.{floor_div}
use Rattle.cj_gen.specs.declared.tilt.Vector.{Vector}
use Rattle.cj_gen.proofs.tilt.Tilt.lifted.Goals as goal

vector_same : (v w : Vector) → v.x ≡ w.x → v.y ≡ w.y → v.z ≡ w.z → v ≡ w
vector_same v w ex ey ez = λ i. record { x = ex i; y = ey i; z = ez i }

pub returns : goal.returns
returns c =
    let f0 : FitsSigned w64 c.args.vector.x = search rules in
    let f : FitsSigned w64 c.args.vector.y = search rules in
    let p : FitsSigned w8 c.args.self.p = search rules in
    let q : FitsSigned w8 c.args.self.q = search rules in
    let h : FitsSigned w64 c.times.result = record { sfits = c.times.type_inv } in
    let k : FitsSigned w64 c.times-2.result = record { sfits = c.times-2.type_inv } in
    let first = simp to_z-of_z at c.times.ensures.value in
    let second = simp to_z-of_z at c.times-2.ensures.value in
    let y = simp to_z-of_z at c.quotient.ensures in
    let z = simp to_z-of_z at c.quotient-2.ensures in
    let whole : FitsSigned w64 c.quotient.result = record { sfits = c.quotient.type_inv } in
    let whole_2 : FitsSigned w64 c.quotient-2.result = record { sfits = c.quotient-2.type_inv } in
    let r = c.from-r.result in
    let at_p = c.args.self.p *ℤ c.args.vector.y in
    let at_q = c.args.self.q *ℤ c.args.vector.y in
    vector_same _ _ (to_z-of_z f0)
    (to_z-of_z whole ∙ y ∙ ap (λ (z : ℤ). floor_div z r) first ∙ ap (λ (n : ℕ). floor_div at_p n) c.from-r.ensures)
    (to_z-of_z whole_2 ∙ z ∙ ap (λ (z : ℤ). floor_div z r) second ∙ ap (λ (n : ℕ). floor_div at_q n) c.from-r.ensures)
