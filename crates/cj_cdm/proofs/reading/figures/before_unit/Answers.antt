use Rattle.std.proofs.Common.{◌∙◌, List, Option, ap, sym, ℕ}
use Rattle.std.specs.Prelude.{codes, option_and_then}
use Rattle.cj_cdm.specs.Values.{before_ending}
use Rattle.cj_cdm.proofs.ValueLemmas.{unit_told}
use Rattle.cj_cdm.proofs.reading.figures.before_unit.Goals as goal

abbrev before_mark : Option (List ℕ) → Option (List ℕ)
before_mark o = option_and_then (before_ending (codes " [")) o

abbrev before : List ℕ → Option (List ℕ) → Option (List ℕ)
before unit o = before_mark (option_and_then (before_ending unit) o)

pub returns-in_err-before_ending : goal.returns-in_err-before_ending
returns-in_err-before_ending c =
    rw c.from_residual.ensures (sym (unit_told c.args.unit.now c.args.value.now ∙ ap (before c.args.unit.now) (sym c.in_err-before_ending.ensures)))

pub returns-in_err-text : goal.returns-in_err-text
returns-in_err-text c =
    rw c.from_residual-in_err-text.ensures
    (sym (unit_told c.args.unit.now c.args.value.now ∙ ap (before c.args.unit.now) (sym c.in_ok-before_ending.ensures) ∙ ap before_mark (sym c.in_err-text.ensures)))

pub returns : goal.returns
returns c =
    c.before_ending-3.ensures
    ∙ sym (unit_told c.args.unit.now c.args.value.now ∙ ap (before c.args.unit.now) (sym c.in_ok-before_ending.ensures) ∙ ap before_mark (sym c.in_ok-text.ensures))
