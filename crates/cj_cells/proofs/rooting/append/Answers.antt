use Rattle.std.proofs.Common.{◌≡◌, [], length, take, drop, vec_len, refl, sym, ap, ◌∙◌, arith}
use Rattle.std.proofs.lemmas.Result.{IfOk-from_err, err_from_is_err_and}
use Rattle.std.proofs.lemmas.List.{take_all, take_at, drop_all, drop_at}
use Rattle.std.proofs.lemmas.List.Elements.{All-nil, All-cons, All-same}
use Rattle.cj_case.specs.Cells.{plain_cells}
use Rattle.cj_cells.specs.Cells.{added_roots}
use Rattle.cj_cells.proofs.WalkLemmas.{no_refusal, not_too_many}
use Rattle.cj_cells.proofs.rooting.append.Goals as goal

-- ---- at the limit

pub returns-then-len-limit-clause-too_many : goal.returns-then-len-limit-clause-too_many
returns-then-len-limit-clause-too_many c is = omega arith

pub returns-then-len-limit-clause-kept : goal.returns-then-len-limit-clause-kept
returns-then-len-limit-clause-kept c = take_all _ c.args.roots.now.items (omega (arith, c.args.roots.now.ok.0))

pub returns-then-len-limit-clause-root : goal.returns-then-len-limit-clause-root
returns-then-len-limit-clause-root c =
    let none = drop_all (vec_len c.args.roots.now) c.args.roots.now.items (omega (arith, c.args.roots.now.ok.0)) in
    All-same (λ cell. cell.root ≡ 0) _ [] none (All-nil (λ cell. cell.root ≡ 0))

-- ---- without memory

pub returns-in_err-push-clause-ok : goal.returns-in_err-push-clause-ok
returns-in_err-push-clause-ok c = IfOk-from_err c.from_residual.result _ c.from_residual.ensures.0

pub returns-in_err-push-clause-within : goal.returns-in_err-push-clause-within
returns-in_err-push-clause-within c = IfOk-from_err c.from_residual.result _ c.from_residual.ensures.0

pub returns-in_err-push-clause-too_many : goal.returns-in_err-push-clause-too_many
returns-in_err-push-clause-too_many c is =
    let p = err_from_is_err_and c.from_residual.result c.from_residual.ensures.1 in
    absurd (not_too_many _ _ p.1 p.2 is)

pub returns-in_err-push-clause-err : goal.returns-in_err-push-clause-err
returns-in_err-push-clause-err c =
    let p = err_from_is_err_and c.from_residual.result c.from_residual.ensures.1 in
    rw p.1 c.in_err-push.ensures.items

pub returns-in_err-push-clause-kept : goal.returns-in_err-push-clause-kept
returns-in_err-push-clause-kept c =
    ap (take (vec_len c.args.roots.now)) c.in_err-push.ensures.items ∙ take_all _ c.args.roots.now.items (omega (arith, c.args.roots.now.ok.0))

pub returns-in_err-push-clause-root : goal.returns-in_err-push-clause-root
returns-in_err-push-clause-root c =
    let none = drop_all (vec_len c.args.roots.now) c.args.roots.now.items (omega (arith, c.args.roots.now.ok.0)) in
    All-same (λ cell. cell.root ≡ 0) _ [] (ap (drop (vec_len c.args.roots.now)) c.in_err-push.ensures.items ∙ none) (All-nil (λ cell. cell.root ≡ 0))

-- ---- one root more

pub returns-clause-ok : goal.returns-clause-ok
returns-clause-ok c =
    let old = c.args.roots.now.items in
    ap (added_roots old) c.in_ok-push.ensures.items ∙ ap plain_cells (drop_at old _ (length old) refl)

pub returns-clause-within : goal.returns-clause-within
returns-clause-within c = omega (arith, c.in_ok-push.ensures.len)

pub returns-clause-too_many : goal.returns-clause-too_many
returns-clause-too_many c is = absurd (no_refusal _ _ is)

pub returns-clause-kept : goal.returns-clause-kept
returns-clause-kept c = ap (take (vec_len c.args.roots.now)) c.in_ok-push.ensures.items ∙ take_at c.args.roots.now.items _ _ (sym c.args.roots.now.ok.0)

pub returns-clause-root : goal.returns-clause-root
returns-clause-root c =
    All-same (λ cell. cell.root ≡ 0) _ _ (ap (drop (vec_len c.args.roots.now)) c.in_ok-push.ensures.items ∙ drop_at c.args.roots.now.items _ _ (sym c.args.roots.now.ok.0))
    (All-cons (λ cell. cell.root ≡ 0) _ [] refl (All-nil (λ cell. cell.root ≡ 0)))
