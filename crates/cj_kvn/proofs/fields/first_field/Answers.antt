use Rattle.std.proofs.Common.{arith, ap, ◌∙◌, length}
use Rattle.std.specs.List.{position_or_len}
use Rattle.cj_kvn.specs.Ranges.{text_at}
use Rattle.cj_kvn.specs.Lines.{is_blank}
use Rattle.cj_kvn.proofs.FieldLemmas.{fields_none, field_cut}
use Rattle.cj_kvn.proofs.RangeLemmas.{slice_length}
use Rattle.cj_kvn.proofs.fields.first_field.Goals as goal

pub returns-then-inner-clause-fields : goal.returns-then-inner-clause-fields
returns-then-inner-clause-fields c =
    let inner = c.without_leading-inner.result in
    let within = c.without_leading-inner.ensures.within in
    let long = slice_length c.args.bytes.now inner.first inner.past within.ordered within.inside in
    fields_none (text_at c.args.bytes.now c.args.text) (omega (arith, ap length c.without_leading-inner.ensures.text))

pub returns-clause-fields : goal.returns-clause-fields
returns-clause-fields c =
    let inner = c.without_leading-inner.result in
    let within = c.without_leading-inner.ensures.within in
    field_cut c.args.bytes.now (text_at c.args.bytes.now c.args.text) inner.first inner.past c.field_len.result within.ordered within.inside c.if-inner.false
    c.without_leading-inner.ensures.text (c.field_len.ensures.value ∙ ap (position_or_len is_blank) c.text.ensures.text)
