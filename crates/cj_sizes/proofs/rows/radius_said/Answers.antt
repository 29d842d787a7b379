use Rattle.std.proofs.Common.{◌≡◌, ap, rules, to_z, of_z, ◌∙◌}
use Rattle.std.proofs.lemmas.Int.{to_z-of_z}
use mir.Syntax.{w128}
use Rattle.cj_sizes.specs.Rows.{radius_or, radius_within}
use Rattle.cj_sizes.proofs.rows.radius_said.Goals as goal

pub returns-in-Ok-clause-value : goal.returns-in-Ok-clause-value
returns-in-Ok-clause-value c =
    let read : to_z w128 (of_z w128 c.in-Ok.radius) ≡ c.in-Ok.radius = to_z-of_z w128 c.in-Ok.radius (search rules) in
    c.radius_within.ensures.value ∙ ap radius_within read ∙ ap radius_or c.in-Ok.ensures

pub returns-in-Err-TooLarge-clause-value : goal.returns-in-Err-TooLarge-clause-value
returns-in-Err-TooLarge-clause-value c = ap radius_or (rw c.in-Err-TooLarge.field-0-is at c.in-Err-TooLarge.ensures)

pub returns-in-Err-NotNumber-clause-value : goal.returns-in-Err-NotNumber-clause-value
returns-in-Err-NotNumber-clause-value c = ap radius_or (rw c.in-Err-NotNumber.field-0-is at c.in-Err-NotNumber.ensures)
