use Rattle.std.proofs.Common.{◌++◌, ◌∷◌, [], arith}
use Rattle.cj_outputs.specs.Changes.{changed_in, changed_summary_in}
use Rattle.cj_outputs.proofs.EndLemmas.{first_leaves, first_stand, put_failed, second_leaves}
use Rattle.cj_outputs.proofs.changes.put_changes.Goals as goal

pub returns-clause-leaves : goal.returns-clause-leaves
returns-clause-leaves g c = λ old stood.
    let changes = c.args.changes.now in
    let report = changed_in changes ∷ [] in
    let summary = changed_summary_in changes ∷ [] in
    let one = first_stand report old (g.S.Shelf.outputs c.put_report.new.shelf) (c.in_ok-put_report.ensures.leaves old stood) in
    second_leaves c.put_summary.result report summary old (g.S.Shelf.outputs c.put_summary.new.shelf) c.put_summary.ensures.comes (c.put_summary.ensures.leaves (old ++ report) one)

pub returns-in_err-put_report : goal.returns-in_err-put_report
returns-in_err-put_report g c =
    let changes = c.args.changes.now in
    let s = c.in_err-put_report.field-0.0 in
    let failed = c.in_err-put_report.ensures in
    put_failed _ _ _ _ _ _ s _ c.from_residual.ensures.1 (omega arith) failed.comes failed.write failed.later
    (λ old stood.
    first_leaves s (changed_in changes ∷ []) (changed_summary_in changes ∷ []) old (g.S.Shelf.outputs c.put_report.new.shelf) failed.comes (failed.leaves old stood))

pub returns-clause-comes : goal.returns-clause-comes
returns-clause-comes g c = c.put_summary.ensures.comes
