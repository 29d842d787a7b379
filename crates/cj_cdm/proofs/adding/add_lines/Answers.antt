use Rattle.std.proofs.Common.{◌-◌, ◌++◌, ◌∙◌, List, ap, arith, drop, length, take, ℕ, Some}
use Rattle.std.proofs.lemmas.List.{length-drop, take_all}
use Rattle.cj_cdm.specs.Reading.{reading_with}
use Rattle.cj_cdm.specs.Relative.{added}
use Rattle.cj_cdm.proofs.AddedLemmas.{added_is, added_joined}
use Rattle.cj_cdm.proofs.RelativeLemmas.{with_again}
use Rattle.cj_cdm.proofs.adding.add_lines.Goals as goal

pub returns-clause-value : goal.returns-clause-value
returns-clause-value c =
    let message = c.args.message.now in
    let end = c.end_of_lines-end.result in
    let rest = take_all (length message - end) (drop end message) (omega (arith, length-drop end message)) in
    added_joined c.args.rtn.now message (take end message) (drop end message) _ _ _
    (c.in_ok-extend_from_slice.ensures.items ∙ ap (λ (t : List ℕ). t ++ take end message) c.in_ok-text.ensures.items)
    c.in_ok-push_relative.ensures.text
    (c.in_ok-extend_from_slice-2.ensures.items ∙ ap (λ (t : List ℕ). c.push_relative.new.text.items ++ t) rest)
    c.end_of_lines-end.ensures.front c.end_of_lines-end.ensures.behind

pub returns-clause-again : goal.returns-clause-again
returns-clause-again c = λ m fit same.
    let x = c.args.rtn.now in
    ap reading_with (returns-clause-value c ∙ ap (λ (t : List ℕ). added x t) same ∙ added_is x m fit) ∙ with_again m (Some x) fit c.in_ok-push_relative.ensures.fits
