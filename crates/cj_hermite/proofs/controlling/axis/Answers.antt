use Rattle.std.proofs.Common.{◌≡◌, refl, ◌∙◌, FitsSigned, to_z-of_z}
use Rattle.std.specs.Prelude.{◌+ℤ◌, ◌-ℤ◌}
use Rattle.std.specs.Int.{w64, w128}
use Rattle.cj_interval.proofs.MachineLemmas.{fits_in, read_as}
use Rattle.cj_hermite.specs.Interpolant.{Four}
use Rattle.cj_hermite.proofs.ReachLemmas.{control_sum, control_difference, control_end, control_fits}
use Rattle.cj_hermite.proofs.controlling.axis.Goals as goal

four_same : (a b : Four) → a.k0 ≡ b.k0 → a.k1 ≡ b.k1 → a.k2 ≡ b.k2 → a.k3 ≡ b.k3 → a ≡ b
four_same a b e0 e1 e2 e3 = λ i. record { k0 = e0 i; k1 = e1 i; k2 = e2 i; k3 = e3 i }

pub overflow_add-result : goal.overflow_add-result
overflow_add-result c =
    let a = c.scaled-first.result in
    let b = c.travelled.result in
    fits_in w128 ◌+ℤ◌ a b (a +ℤ b) (record { sfits = c.scaled-first.type_inv }) (record { sfits = c.travelled.type_inv }) refl
    (control_fits (a +ℤ b) (control_sum a b c.scaled-first.ensures.within c.travelled.ensures.within))

pub overflow_sub-result : goal.overflow_sub-result
overflow_sub-result c =
    let a = c.scaled-last.result in
    let b = c.travelled-2.result in
    fits_in w128 ◌-ℤ◌ a b (a -ℤ b) (record { sfits = c.scaled-last.type_inv }) (record { sfits = c.travelled-2.type_inv }) refl
    (control_fits (a -ℤ b) (control_difference a b c.scaled-last.ensures.within c.travelled-2.ensures.within))

pub returns-clause-value : goal.returns-clause-value
returns-clause-value c =
    let f : FitsSigned w64 c.args.p0 = c.ranges.p0 in
    let g : FitsSigned w64 c.args.v0 = c.ranges.v0 in
    let h : FitsSigned w64 c.args.p1 = c.ranges.p1 in
    let k : FitsSigned w64 c.args.v1 = c.ranges.v1 in
    let before : FitsSigned w128 c.travelled.result = record { sfits = c.travelled.type_inv } in
    let after : FitsSigned w128 c.travelled-2.result = record { sfits = c.travelled-2.type_inv } in
    let first : FitsSigned w128 c.scaled-first.result = record { sfits = c.scaled-first.type_inv } in
    let last : FitsSigned w128 c.scaled-last.result = record { sfits = c.scaled-last.type_inv } in
    let e0 = simp to_z-of_z at c.scaled-first.ensures.value in
    let e1 = simp to_z-of_z at c.travelled.ensures.value in
    let e2 = simp to_z-of_z at c.travelled-2.ensures.value in
    let e3 = simp to_z-of_z at c.scaled-last.ensures.value in
    four_same _ _
    (to_z-of_z first ∙ e0)
    (read_as ◌+ℤ◌ c.scaled-first.result c.travelled.result (c.scaled-first.result +ℤ c.travelled.result) first before refl
    (control_fits (c.scaled-first.result +ℤ c.travelled.result) (control_sum c.scaled-first.result c.travelled.result c.scaled-first.ensures.within c.travelled.ensures.within))
    ∙ rw (e0, e1) refl)
    (read_as ◌-ℤ◌ c.scaled-last.result c.travelled-2.result (c.scaled-last.result -ℤ c.travelled-2.result) last after refl
    (control_fits (c.scaled-last.result -ℤ c.travelled-2.result) (control_difference c.scaled-last.result c.travelled-2.result c.scaled-last.ensures.within c.travelled-2.ensures.within))
    ∙ rw (e3, e2) refl)
    (to_z-of_z last ∙ e3)

pub returns-clause-bounded : goal.returns-clause-bounded
returns-clause-bounded c =
    let a = c.scaled-first.result in
    let b = c.travelled.result in
    let d = c.scaled-last.result in
    let e = c.travelled-2.result in
    let fa : FitsSigned w128 a = record { sfits = c.scaled-first.type_inv } in
    let fb : FitsSigned w128 b = record { sfits = c.travelled.type_inv } in
    let fd : FitsSigned w128 d = record { sfits = c.scaled-last.type_inv } in
    let fe : FitsSigned w128 e = record { sfits = c.travelled-2.type_inv } in
    let sum = control_sum a b c.scaled-first.ensures.within c.travelled.ensures.within in
    let difference = control_difference d e c.scaled-last.ensures.within c.travelled-2.ensures.within in
    let k1 = read_as ◌+ℤ◌ a b (a +ℤ b) fa fb refl (control_fits (a +ℤ b) sum) in
    let k2 = read_as ◌-ℤ◌ d e (d -ℤ e) fd fe refl (control_fits (d -ℤ e) difference) in
    record {
      k0 = rw (to_z-of_z fa) (control_end a c.scaled-first.ensures.within);
      k1 = rw k1 sum;
      k2 = rw k2 difference;
      k3 = rw (to_z-of_z fd) (control_end d c.scaled-last.ensures.within);
    }
