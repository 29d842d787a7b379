use Rattle.std.proofs.Common.{◌∙◌, List, Option, ap, sym, ℕ}
use Rattle.std.specs.Prelude.{codes, option_and_then}
use Rattle.cj_cdm.specs.Values.{behind_front, number_said}
use Rattle.cj_cdm.proofs.LineLemmas.{front_more}
use Rattle.cj_cdm.proofs.reading.figures.id.Goals as goal

abbrev number_behind : Option (List ℕ) → Option ℕ
number_behind o = option_and_then number_said o

abbrev behind_mark : Option (List ℕ) → Option (List ℕ)
behind_mark o = option_and_then (behind_front (codes "_")) o

pub returns-in_err-behind_front : goal.returns-in_err-behind_front
returns-in_err-behind_front c =
    rw c.from_residual.ensures
    (sym (ap number_behind (front_more c.args.originator.now (codes "_") c.args.value.now ∙ ap behind_mark (sym c.in_err-behind_front.ensures))))

pub returns-in_err-behind_front-2 : goal.returns-in_err-behind_front-2
returns-in_err-behind_front-2 c =
    rw c.from_residual-in_err-behind_front-2.ensures
    (sym (ap number_behind (front_more c.args.originator.now (codes "_") c.args.value.now ∙ ap behind_mark (sym c.in_ok-behind_front.ensures) ∙ sym c.in_err-behind_front-2.ensures)))

pub returns : goal.returns
returns c =
    c.number.ensures
    ∙ sym (ap number_behind (front_more c.args.originator.now (codes "_") c.args.value.now ∙ ap behind_mark (sym c.in_ok-behind_front.ensures) ∙ sym c.in_ok-behind_front-2.ensures))
