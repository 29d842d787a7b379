use Rattle.std.proofs.Common.{◌∙◌, ap, FitsSigned, to_z-of_z}
use Rattle.std.specs.Prelude.{ℤ}
use Rattle.std.specs.Int.{w128}
use Rattle.cj_interval.specs.Rounding.{ceil_div}
use Rattle.cj_bezier.proofs.PartLemmas.{ceil_div-max}
use Rattle.cj_bezier.proofs.squares.greater_part.Goals as goal

pub returns-clause-value : goal.returns-clause-value
returns-clause-value c =
    let f : FitsSigned w128 c.greater.result = record { sfits = c.greater.type_inv } in
    let g : FitsSigned w128 c.part_up.result = record { sfits = c.part_up.type_inv } in
    let part = simp to_z-of_z at c.part_up.ensures.value in
    to_z-of_z g ∙ part ∙ ap (λ (z : ℤ). ceil_div z c.args.choose) c.greater.ensures.value ∙ ceil_div-max _ _ c.args.choose c.requires.some
