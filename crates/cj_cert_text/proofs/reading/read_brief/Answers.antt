use Rattle.std.proofs.Common.{Ok}
use Rattle.std.proofs.lemmas.Result.{err_from_is_err_and}
use Rattle.cj_cert_text.proofs.ReaderLemmas.{brief_fault, brief_gives_again, brief_gives_few, brief_gives_only, brief_made}
use Rattle.cj_cert_text.proofs.reading.read_brief.Goals as goal

pub returns-in_err-draft-clause-value : goal.returns-in_err-draft-clause-value
returns-in_err-draft-clause-value c =
    let p = err_from_is_err_and c.from_residual.result c.from_residual.ensures.1 in
    rw (p.1, p.2) (brief_fault c.args.bytes.now c.in_err-draft.field-0.0 c.in_err-draft.ensures)

pub returns-in_err-draft-clause-again : goal.returns-in_err-draft-clause-again
returns-in_err-draft-clause-again c = brief_gives_again c.args.bytes.now c.from_residual.result (returns-in_err-draft-clause-value c)

pub returns-clause-value : goal.returns-clause-value
returns-clause-value c = brief_made c.args.bytes.now c.in_ok-draft.draft c.into_brief.result c.in_ok-draft.ensures c.into_brief.ensures

pub returns-clause-only : goal.returns-clause-only
returns-clause-only c = brief_gives_only c.args.bytes.now (Ok c.into_brief.result) (returns-clause-value c)

pub returns-clause-again : goal.returns-clause-again
returns-clause-again c = brief_gives_again c.args.bytes.now (Ok c.into_brief.result) (returns-clause-value c)

pub returns-clause-few : goal.returns-clause-few
returns-clause-few c = brief_gives_few c.args.bytes.now (Ok c.into_brief.result) (returns-clause-value c)
