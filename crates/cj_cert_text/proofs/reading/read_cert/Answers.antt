use Rattle.std.proofs.Common.{Ok, refl}
use Rattle.std.proofs.lemmas.Result.{err_from_is_err_and}
use Rattle.cj_cert_text.specs.Readers.{plain_draft}
use Rattle.cj_cert_text.proofs.ReaderLemmas.{full_fault, full_made, gives_again, gives_few, gives_only, read_allows}
use Rattle.cj_cert_text.proofs.reading.read_cert.Goals as goal

pub into_certificate-requires : goal.into_certificate-requires
into_certificate-requires c =
    let draft = c.in_ok-draft.draft in
    read_allows c.version_of-version.result c.args.bytes.now (plain_draft draft) draft.sizes.items draft.boxes.items c.in_ok-draft.ensures refl refl

pub returns-in_err-draft-clause-value : goal.returns-in_err-draft-clause-value
returns-in_err-draft-clause-value c =
    let p = err_from_is_err_and c.from_residual.result c.from_residual.ensures.1 in
    rw (p.1, p.2) (full_fault c.args.bytes.now c.version_of-version.result c.in_err-draft.field-0.0 c.version_of-version.ensures c.in_err-draft.ensures)

pub returns-in_err-draft-clause-again : goal.returns-in_err-draft-clause-again
returns-in_err-draft-clause-again c = gives_again c.args.bytes.now c.from_residual.result (returns-in_err-draft-clause-value c)

pub returns-clause-value : goal.returns-clause-value
returns-clause-value c =
    full_made c.args.bytes.now c.version_of-version.result c.in_ok-draft.draft c.into_certificate.result c.version_of-version.ensures c.in_ok-draft.ensures c.into_certificate.ensures

pub returns-clause-only : goal.returns-clause-only
returns-clause-only c = gives_only c.args.bytes.now (Ok c.into_certificate.result) (returns-clause-value c)

pub returns-clause-again : goal.returns-clause-again
returns-clause-again c = gives_again c.args.bytes.now (Ok c.into_certificate.result) (returns-clause-value c)

pub returns-clause-few : goal.returns-clause-few
returns-clause-few c = gives_few c.args.bytes.now (Ok c.into_certificate.result) (returns-clause-value c)
