use Rattle.std.proofs.Common.{◌∙◌, ap, sym, subst}
use Rattle.cj_kvn.specs.Faults.{Tells}
use Rattle.cj_kvn.specs.Lines.{form_at, form_of, is_comment}
use Rattle.cj_kvn.specs.Ranges.{text_at}
use Rattle.cj_kvn.proofs.LineLemmas.{comment_is, inner_is, fault_is}
use Rattle.cj_kvn.proofs.RawLemmas.{equals_trimmed}
use Rattle.cj_kvn.proofs.reading.kind_of.Goals as goal

pub returns-then-is_comment-clause-exact : goal.returns-then-is_comment-clause-exact
returns-then-is_comment-clause-exact c =
    comment_is c.args.number (text_at c.args.bytes.now c.args.line.text) (ap is_comment (sym c.text.ensures.text) ∙ sym c.is_comment.ensures ∙ c.if-is_comment.true)

pub kind_of_inner-requires-clause-equals : goal.kind_of_inner-requires-clause-equals
kind_of_inner-requires-clause-equals c =
    c.requires.equals c.if-line.true ∙ equals_trimmed c.args.bytes.now c.args.line.text c.trimmed.result c.trimmed.ensures.text c.trimmed.ensures.first

pub returns-then-line-clause-exact : goal.returns-then-line-clause-exact
returns-then-line-clause-exact c =
    let line = text_at c.args.bytes.now c.args.line.text in
    let said = inner_is c.args.number line (ap is_comment (sym c.text.ensures.text) ∙ sym c.is_comment.ensures ∙ c.if-is_comment.false) (sym c.requires.printable ∙ c.if-line.true) in
    let same = said ∙ ap (form_of c.args.number) (sym c.trimmed.ensures.text) in
    subst (Tells (form_at c.args.bytes.now) c.kind_of_inner.result) (sym same) c.kind_of_inner.ensures.exact

pub returns-else-line-clause-exact : goal.returns-else-line-clause-exact
returns-else-line-clause-exact c =
    fault_is c.args.number (text_at c.args.bytes.now c.args.line.text) (ap is_comment (sym c.text.ensures.text) ∙ sym c.is_comment.ensures ∙ c.if-is_comment.false)
    (sym c.requires.printable ∙ c.if-line.false)
