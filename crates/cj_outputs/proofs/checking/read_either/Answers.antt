use Rattle.std.proofs.Common.{◌≡◌, ◌∙◌, Result, Ok, ap, sym}
use Rattle.std.proofs.lemmas.Result.{err_from_is_err_and}
use Rattle.cj_brief.specs.Certificates.{PlainBrief, plain_brief}
use Rattle.cj_cert.specs.Certificates.{PlainCertificate, plain_certificate}
use Rattle.cj_cert_text.specs.Reading.{Fault, and_then, reading, reading_in_brief}
use Rattle.cj_outputs.specs.Either.{InBrief, InFull, any_reading}
use Rattle.cj_outputs.specs.EitherKept.{plain_any}
use Rattle.cj_outputs.proofs.EitherLemmas.{read_in_brief, read_in_full, read_unasked, same_fault}
use Rattle.cj_outputs.proofs.checking.read_either.Goals as goal
use Rattle.cj_outputs.proofs.checking.read_either.Goals.{else-brief-via-then-brief+else-begins_in_brief, else-brief-via-else-brief}

pub returns-in_ok-read_brief-clause-value : goal.returns-in_ok-read_brief-clause-value
returns-in_ok-read_brief-clause-value c =
    read_in_brief c.args.brief c.args.bytes.now c.if-brief.true (sym c.begins_in_brief.ensures ∙ c.if-begins_in_brief.true)
    ∙ ap (λ (r : Result PlainBrief Fault). and_then r (λ d. Ok (InBrief d))) c.in_ok-read_brief.ensures.value

pub returns-in_err-read_brief-clause-value : goal.returns-in_err-read_brief-clause-value
returns-in_err-read_brief-clause-value c =
    let p = err_from_is_err_and c.from_residual.result c.from_residual.ensures.1 in
    let said = read_in_brief c.args.brief c.args.bytes.now c.if-brief.true (sym c.begins_in_brief.ensures ∙ c.if-begins_in_brief.true) in
    rw (p.1, p.2, said) (same_fault plain_brief plain_any InBrief c.in_err-read_brief.field-0.0 (reading_in_brief c.args.bytes.now) c.in_err-read_brief.ensures.value)

pub returns-in_ok-read_cert-clause-value : goal.returns-in_ok-read_cert-clause-value
returns-in_ok-read_cert-clause-value c =
    let full : any_reading c.args.brief c.args.bytes.now ≡ and_then (reading c.args.bytes.now) (λ d. Ok (InFull d)) = elim c.else-brief.branch [
      | else-brief-via-then-brief+else-begins_in_brief w ↦ read_in_full c.args.brief c.args.bytes.now (sym w.begins_in_brief.ensures ∙ w.if-begins_in_brief.false)
      | else-brief-via-else-brief w ↦ read_unasked c.args.brief c.args.bytes.now w.if-brief.false
    ] in
    full ∙ ap (λ (r : Result PlainCertificate Fault). and_then r (λ d. Ok (InFull d))) c.in_ok-read_cert.ensures.value

pub returns-in_err-read_cert-clause-value : goal.returns-in_err-read_cert-clause-value
returns-in_err-read_cert-clause-value c =
    let p = err_from_is_err_and c.from_residual-in_err-read_cert.result c.from_residual-in_err-read_cert.ensures.1 in
    let full : any_reading c.args.brief c.args.bytes.now ≡ and_then (reading c.args.bytes.now) (λ d. Ok (InFull d)) = elim c.else-brief.branch [
      | else-brief-via-then-brief+else-begins_in_brief w ↦ read_in_full c.args.brief c.args.bytes.now (sym w.begins_in_brief.ensures ∙ w.if-begins_in_brief.false)
      | else-brief-via-else-brief w ↦ read_unasked c.args.brief c.args.bytes.now w.if-brief.false
    ] in
    rw (p.1, p.2, full) (same_fault plain_certificate plain_any InFull c.in_err-read_cert.field-0.0 (reading c.args.bytes.now) c.in_err-read_cert.ensures.value)
