use Rattle.std.proofs.Common.{[], ◌∷◌, ◌++◌, ◌+◌, ap, append-nil, sym, ◌∙◌, arith, take, take_all}
use Rattle.std.specs.Prelude.{flat_map}
use Rattle.std.proofs.lemmas.List.{take_more}
use Rattle.std.proofs.lemmas.Result.{err_from_is_err_and}
use Rattle.cj_kvn.proofs.TextLemmas.{joined, line-spaced, text_more}
use Rattle.cj_report.proofs.lines.push_line.Goals as goal

pub returns : goal.returns
returns c =
    let text = c.args.text.now.items in
    let word = c.args.word.now in
    let more = c.args.more.now in
    let all = c.loop-next.invariant ∙ ap (λ ws. (text ++ word) ++ flat_map (λ w. 32 ∷ w.now) ws) (take_all c.loop-next.next-index more (omega arith)) in
    c.in_ok-push-2.ensures.items ∙ (ap (λ t. t ++ 10 ∷ []) all ∙ line-spaced (λ w. w.now) text word more)

pub returns-in_err-extend_from_slice : goal.returns-in_err-extend_from_slice
returns-in_err-extend_from_slice c = rw (err_from_is_err_and c.from_residual.result c.from_residual.ensures.1).1 tt

pub returns-in_err-push : goal.returns-in_err-push
returns-in_err-push c = rw (err_from_is_err_and c.from_residual-in_err-push.result c.from_residual-in_err-push.ensures.1).1 tt

pub returns-in_err-extend_from_slice-2 : goal.returns-in_err-extend_from_slice-2
returns-in_err-extend_from_slice-2 c =
    rw (err_from_is_err_and c.from_residual-in_err-extend_from_slice-2.result c.from_residual-in_err-extend_from_slice-2.ensures.1).1 tt

pub returns-in_err-push-2 : goal.returns-in_err-push-2
returns-in_err-push-2 c = rw (err_from_is_err_and c.from_residual-in_err-push-2.result c.from_residual-in_err-push-2.ensures.1).1 tt

pub loop-next-init : goal.loop-next-init
loop-next-init c = c.in_ok-extend_from_slice.ensures.items ∙ sym (append-nil (c.args.text.now.items ++ c.args.word.now))

pub loop-next-preserved : goal.loop-next-preserved
loop-next-preserved c =
    let more = c.args.more.now in
    let k = c.loop-next.next-index in
    text_more (λ w. 32 ∷ w.now) (take k more) _ (take (k + 1) more) (c.args.text.now.items ++ c.args.word.now) c.loop-next.text.items _
    (take_more more k _ (omega arith)) c.loop-next.invariant (joined c.loop-next.text.items _ _ _ _ c.in_ok-push.ensures.items c.in_ok-extend_from_slice-2.ensures.items)
