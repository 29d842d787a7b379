use Rattle.std.proofs.Common.{◌≡◌, ◌++◌, List, ℕ, ap, length-append, refl, ◌∙◌, arith}
use Rattle.std.specs.Prelude.{flat_map}
use Rattle.std.proofs.lemmas.Grind.{flat_map-append}
use Rattle.cj_io.specs.Parts.{joined}
use Rattle.cj_threads.proofs.DealingLemmas.{parts_together}
use Rattle.cj_cert_text.proofs.PartLemmas.{part_printed}
use Rattle.cj_cert_text.proofs.printed_parts.push_parted.Goals as goal

pub returns-clause-value : goal.returns-clause-value
returns-clause-value g c =
    let text_of = g.L.PrintedLine.text_by c.args.version in
    let parts = c.args.parts.now.items in
    let texts = c.in_ok-texts.texts.items in
    let printed = parts_together _ _ (λ lines made. joined made ≡ flat_map text_of lines) refl
    (λ part rest text more call so_far. part_printed text_of part.now rest text more call.met so_far) c.args.lines.now texts c.in_ok-texts.ensures.each in
    ap joined c.in_ok-append.ensures.items ∙ flat_map-append (λ part. part.items) parts texts ∙ ap (λ (t : List ℕ). joined parts ++ t) printed

pub returns-clause-some : goal.returns-clause-some
returns-clause-some g c = rw c.in_ok-append.ensures.items (omega (arith, length-append c.args.parts.now.items c.in_ok-texts.texts.items, c.in_ok-texts.ensures.some))
