use Rattle.std.proofs.Common.{arith, ◌+◌, ◌-◌, ◌∙◌, drop, length, sym}
use Rattle.std.proofs.lemmas.List.{length-drop, take_all}
use Rattle.cj_cdm.specs.Values.{is_mark}
use Rattle.cj_cdm.proofs.LineLemmas.{before_none, before_place, behind_none, behind_place}
use Rattle.cj_cdm.proofs.reading.figures.at_mark.Goals as goal

pub returns-in-Some-clause-before : goal.returns-in-Some-clause-before
returns-in-Some-clause-before c = before_place is_mark c.args.text.now c.in-Some.at (sym c.in-Some.ensures)

pub returns-in-Some-clause-behind : goal.returns-in-Some-clause-behind
returns-in-Some-clause-behind c =
    let text = c.args.text.now in
    let n = c.in-Some.at in
    take_all (length text - (n + 1)) (drop (n + 1) text) (omega (arith, length-drop (n + 1) text)) ∙ behind_place is_mark text n (sym c.in-Some.ensures)

pub returns-in-None-clause-before : goal.returns-in-None-clause-before
returns-in-None-clause-before c = before_none is_mark c.args.text.now (sym c.in-None.ensures)

pub returns-in-None-clause-behind : goal.returns-in-None-clause-behind
returns-in-None-clause-behind c = behind_none is_mark c.args.text.now (sym c.in-None.ensures)
