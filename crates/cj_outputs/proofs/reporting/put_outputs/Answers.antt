use Rattle.std.proofs.Common.{Err, ◌++◌, ◌∷◌, [], arith}
use Rattle.cj_outputs.specs.Findings.{cert_in, messages_in, report_in, summary_in}
use Rattle.cj_outputs.specs.Origins.{plain_origin}
use Rattle.cj_outputs.proofs.EndLemmas.{first_leaves, first_stand, put_failed, second_leaves}
use Rattle.cj_outputs.proofs.reporting.put_outputs.Goals as goal

pub returns-clause-leaves : goal.returns-clause-leaves
returns-clause-leaves g c = λ old stood.
    let found = c.args.found.now in
    let report = report_in found ∷ [] in
    let certificate = cert_in found ∷ [] in
    let messages = messages_in (plain_origin c.args.origin) found in
    let summary = summary_in found ∷ [] in
    let now = g.S.Shelf.outputs c.put_summary.new.shelf in
    let one = first_stand report old (g.S.Shelf.outputs c.put_report.new.shelf) (c.in_ok-put_report.ensures.leaves old stood) in
    let two = first_stand certificate (old ++ report) (g.S.Shelf.outputs c.put_certificate.new.shelf) (c.in_ok-put_certificate.ensures.leaves (old ++ report) one) in
    let three = first_stand messages ((old ++ report) ++ certificate) (g.S.Shelf.outputs c.put_messages.new.shelf) (c.in_ok-put_messages.ensures.leaves ((old ++ report) ++ certificate) two) in
    let comes = c.put_summary.ensures.comes in
    let last = c.put_summary.ensures.leaves (((old ++ report) ++ certificate) ++ messages) three in
    second_leaves c.put_summary.result report (certificate ++ (messages ++ summary)) old now comes
    (second_leaves c.put_summary.result certificate (messages ++ summary) (old ++ report) now comes
    (second_leaves c.put_summary.result messages summary ((old ++ report) ++ certificate) now comes last))

pub returns-in_err-put_report : goal.returns-in_err-put_report
returns-in_err-put_report g c =
    let found = c.args.found.now in
    let more = cert_in found ∷ (messages_in (plain_origin c.args.origin) found ++ summary_in found ∷ []) in
    let s = c.in_err-put_report.field-0.0 in
    let failed = c.in_err-put_report.ensures in
    put_failed _ _ _ _ _ _ s _ c.from_residual.ensures.1 (omega arith) failed.comes failed.write failed.later
    (λ old stood.
    first_leaves s (report_in found ∷ []) more old (g.S.Shelf.outputs c.put_report.new.shelf) failed.comes (failed.leaves old stood))

pub returns-in_err-put_certificate : goal.returns-in_err-put_certificate
returns-in_err-put_certificate g c =
    let found = c.args.found.now in
    let report = report_in found ∷ [] in
    let certificate = cert_in found ∷ [] in
    let more = messages_in (plain_origin c.args.origin) found ++ summary_in found ∷ [] in
    let now = g.S.Shelf.outputs c.put_certificate.new.shelf in
    let s = c.in_err-put_certificate.field-0.0 in
    let failed = c.in_err-put_certificate.ensures in
    put_failed _ _ _ _ _ _ s _ c.from_residual-in_err-put_certificate.ensures.1 c.in_ok-put_report.ensures.later failed.comes failed.write failed.later
    (λ old stood.
    let one = first_stand report old (g.S.Shelf.outputs c.put_report.new.shelf) (c.in_ok-put_report.ensures.leaves old stood) in
    second_leaves (Err s) report (certificate ++ more) old now failed.comes
    (first_leaves s certificate more (old ++ report) now failed.comes (failed.leaves (old ++ report) one)))

pub returns-in_err-put_messages : goal.returns-in_err-put_messages
returns-in_err-put_messages g c =
    let found = c.args.found.now in
    let report = report_in found ∷ [] in
    let certificate = cert_in found ∷ [] in
    let messages = messages_in (plain_origin c.args.origin) found in
    let summary = summary_in found ∷ [] in
    let now = g.S.Shelf.outputs c.put_messages.new.shelf in
    let s = c.in_err-put_messages.field-0.0 in
    let failed = c.in_err-put_messages.ensures in
    put_failed _ _ _ _ _ _ s _ c.from_residual-in_err-put_messages.ensures.1
    (omega (arith, c.in_ok-put_report.ensures.later, c.in_ok-put_certificate.ensures.later)) failed.comes failed.write failed.later
    (λ old stood.
    let one = first_stand report old (g.S.Shelf.outputs c.put_report.new.shelf) (c.in_ok-put_report.ensures.leaves old stood) in
    let two = first_stand certificate (old ++ report) (g.S.Shelf.outputs c.put_certificate.new.shelf) (c.in_ok-put_certificate.ensures.leaves (old ++ report) one) in
    second_leaves (Err s) report (certificate ++ (messages ++ summary)) old now failed.comes
    (second_leaves (Err s) certificate (messages ++ summary) (old ++ report) now failed.comes
    (first_leaves s messages summary ((old ++ report) ++ certificate) now failed.comes (failed.leaves ((old ++ report) ++ certificate) two))))

pub returns-clause-comes : goal.returns-clause-comes
returns-clause-comes g c = c.put_summary.ensures.comes
