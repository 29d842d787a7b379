use Rattle.std.proofs.Common.{arith, ◌+◌, ◌-◌, ◌∙◌, Some, ap, drop, length, sym}
use Rattle.std.proofs.lemmas.List.{length-drop, take_all}
use Rattle.cj_cdm.proofs.LineLemmas.{feed_found, feed_nowhere}
use Rattle.cj_cdm.proofs.reading.taking.behind_line.Goals as goal

pub returns-in_err-at-clause-value : goal.returns-in_err-at-clause-value
returns-in_err-at-clause-value c = rw c.from_residual.ensures (sym (feed_nowhere c.args.text.now (sym c.in_err-at.ensures)))

pub returns-clause-value : goal.returns-clause-value
returns-clause-value c =
    let text = c.args.text.now in
    let n = c.in_ok-at.at in
    ap (λ t. Some t) (take_all (length text - (n + 1)) (drop (n + 1) text) (omega (arith, length-drop (n + 1) text)))
    ∙ sym (feed_found text n (sym c.in_ok-at.ensures))
