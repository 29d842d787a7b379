use Rattle.std.proofs.Common.{◌≤◌, ap, arith}
use Rattle.cj_formats.specs.declared.cert_version.CertVersion.TheVariants.{One}
use Rattle.cj_io.specs.Parts.{joined}
use Rattle.cj_cert_text.proofs.PartLemmas.{batch_printed}
use Rattle.cj_cert_text.proofs.certificate_text.next_texts.Goals as goal

pub returns-clause-parts : goal.returns-clause-parts
returns-clause-parts g c =
    let first = c.args.made.now in
    let end = c.batch_end-end.result in
    let further : first ≤ end = omega (arith, c.batch_end-end.ensures.some) in
    batch_printed (g.L.PrintedLine.text_by One) c.args.lines.now first end (joined c.new-parts.result.items) (joined c.push_parted.new.parts.items)
    further (ap joined c.new-parts.ensures.items) c.in_ok-push_parted.ensures.value
