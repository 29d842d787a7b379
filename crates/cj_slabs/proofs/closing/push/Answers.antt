use Rattle.std.proofs.Common.{length, refl, ap, ◌∙◌, arith}
use Rattle.std.proofs.lemmas.Result.{IfOk-from_err, err_from_is_err_and}
use Rattle.std.proofs.lemmas.List.{drop_at}
use Rattle.cj_case.specs.Leaves.{plain_leaves}
use Rattle.cj_cells.specs.Cells.{added_leaves}
use Rattle.cj_cells.proofs.WalkLemmas.{no_refusal, not_too_many}
use Rattle.cj_slabs.proofs.closing.push.Goals as goal

pub returns-then-len-limit-clause-too_many : goal.returns-then-len-limit-clause-too_many
returns-then-len-limit-clause-too_many c is = omega arith

pub returns-in_err-push-clause-ok : goal.returns-in_err-push-clause-ok
returns-in_err-push-clause-ok c = IfOk-from_err c.from_residual.result _ c.from_residual.ensures.0

pub returns-in_err-push-clause-within : goal.returns-in_err-push-clause-within
returns-in_err-push-clause-within c = IfOk-from_err c.from_residual.result _ c.from_residual.ensures.0

pub returns-in_err-push-clause-too_many : goal.returns-in_err-push-clause-too_many
returns-in_err-push-clause-too_many c is =
    let p = err_from_is_err_and c.from_residual.result c.from_residual.ensures.1 in
    absurd (not_too_many _ _ p.1 p.2 is)

pub returns-clause-ok : goal.returns-clause-ok
returns-clause-ok c =
    let old = c.args.leaves.now.items in
    ap (added_leaves old) c.in_ok-push.ensures.items ∙ ap plain_leaves (drop_at old _ (length old) refl)

pub returns-clause-within : goal.returns-clause-within
returns-clause-within c = omega (arith, c.in_ok-push.ensures.len)

pub returns-clause-too_many : goal.returns-clause-too_many
returns-clause-too_many c is = absurd (no_refusal _ _ is)
