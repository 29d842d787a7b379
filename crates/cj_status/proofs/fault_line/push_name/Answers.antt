use Rattle.std.proofs.Common.{arith, ◌∙◌, ap, sym, ℕ, List, [], ◌∷◌, ◌++◌, map}
use Rattle.std.proofs.lemmas.List.{append-nil, map_more, take_all}
use Rattle.std.proofs.lemmas.Result.{IfOk-from_err}
use Rattle.cj_kvn.proofs.TextLemmas.{joined}
use Rattle.cj_status.specs.Faults.{shown_byte}
use Rattle.cj_status.proofs.fault_line.push_name.Goals as goal

pub loop-byte-preserved : goal.loop-byte-preserved
loop-byte-preserved c =
    let before = c.loop-byte.text.items in
    let pushed = c.in_ok-push.ensures.items ∙ ap (λ (b : ℕ). before ++ b ∷ []) c.shown.ensures in
    joined c.args.text.now.items before _ _ _ c.loop-byte.invariant pushed
    ∙ ap (λ (t : List ℕ). c.args.text.now.items ++ t) (sym (map_more shown_byte c.args.name.now c.loop-byte.byte-index 0 c.loop-byte-test.true))

pub loop-byte-init : goal.loop-byte-init
loop-byte-init c = sym (append-nil c.args.text.now.items)

pub returns : goal.returns
returns c =
    let name = c.args.name.now in
    c.loop-byte.invariant ∙ ap (λ (t : List ℕ). c.args.text.now.items ++ map shown_byte t) (take_all c.loop-byte.byte-index name (omega arith))

pub returns-in_err-push : goal.returns-in_err-push
returns-in_err-push c = IfOk-from_err c.from_residual.result _ c.from_residual.ensures.0
