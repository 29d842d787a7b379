use Rattle.std.proofs.Common.{[], ◌∷◌, ◌++◌, ap, ◌∙◌}
use Rattle.cj_cert_text.specs.Texts.{spaced_numbers}
use Rattle.cj_cert_text.proofs.RowLemmas.{row_ended_written}
use Rattle.cj_cert_text.proofs.rows.push_row_ended.Goals as goal

pub returns : goal.returns
returns c =
    row_ended_written c.args.text.now.items c.push_numbers.new.text.items _ c.args.word.now c.args.last.now c.args.numbers.now
    (c.in_ok-push_numbers.ensures ∙ ap (λ t. t ++ spaced_numbers c.args.numbers.now) c.in_ok-extend_from_slice.ensures.items)
    (c.in_ok-push-2.ensures.items ∙ ap (λ t. t ++ 10 ∷ []) (c.in_ok-extend_from_slice-2.ensures.items ∙ ap (λ t. t ++ c.args.last.now) c.in_ok-push.ensures.items))
