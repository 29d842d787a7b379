use Rattle.std.proofs.Common.{◌∙◌, ap, FitsSigned, to_z-of_z}
use Rattle.std.specs.Prelude.{ℤ}
use Rattle.std.specs.Int.{w128}
use Rattle.cj_interval.specs.Rounding.{floor_div}
use Rattle.cj_bezier.proofs.PartLemmas.{floor_div-min}
use Rattle.cj_bezier.proofs.squares.lesser_part.Goals as goal

pub returns-clause-value : goal.returns-clause-value
returns-clause-value c =
    let f : FitsSigned w128 c.lesser.result = record { sfits = c.lesser.type_inv } in
    let g : FitsSigned w128 c.part_down.result = record { sfits = c.part_down.type_inv } in
    let part = simp to_z-of_z at c.part_down.ensures.value in
    to_z-of_z g ∙ part ∙ ap (λ (z : ℤ). floor_div z c.args.choose) c.lesser.ensures.value ∙ floor_div-min _ _ c.args.choose c.requires.some
