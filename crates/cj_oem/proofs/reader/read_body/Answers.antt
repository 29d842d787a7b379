use Rattle.std.proofs.Common.{List, ℕ, Option, Ok, subst}
use Rattle.cj_kvn.specs.Cursors.{Follows}
use Rattle.cj_kvn.specs.Lines.{form_at}
use Rattle.cj_kvn.specs.declared.lines.Line.{Line}
use Rattle.cj_oem.specs.MetadataDrafts.{HasLabel}
use Rattle.cj_oem.proofs.LabelLemmas.{first_labelled}
use Rattle.cj_oem.proofs.reader.read_body.Goals as goal

-- each line that has a form
pub follow-requires-clause-label : goal.follow-requires-clause-label
follow-requires-clause-label c =
    let line = c.in-Some.line in
    let first = subst (λ (some : Option Line). Follows c.loop-stage.lines (Ok some) c.next_line.new.self) c.in-Some.is c.in_ok-line.ensures in
    subst (λ (bytes : List ℕ). HasLabel (form_at bytes line.kind)) c.loop-stage.invariant.same
    (first_labelled line.number first.text (form_at c.loop-stage.lines.bytes line.kind) first.form)
