use Rattle.std.proofs.Common.{List, Option, ap, ◌∙◌, ℕ}
use Rattle.std.specs.Prelude.{option_and_then}
use Rattle.cj_cdm.specs.Values.{decimal_said}
use Rattle.cj_cdm.proofs.reading.figures.element.Goals as goal

pub returns-in_err-before_unit : goal.returns-in_err-before_unit
returns-in_err-before_unit c = rw c.from_residual.ensures (ap (λ (text : Option (List ℕ)). option_and_then decimal_said text) c.in_err-before_unit.ensures)

pub returns : goal.returns
returns c = c.decimal.ensures ∙ ap (λ (text : Option (List ℕ)). option_and_then decimal_said text) c.in_ok-before_unit.ensures
