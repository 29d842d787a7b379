use Rattle.std.proofs.Common.{◌≡◌, ◌∙◌, arith, length, inl, inr, refl}
use Rattle.std.proofs.lemmas.List.{length-take, take_all}
use Rattle.cj_kvn.specs.Fields.{fields}
use Rattle.cj_kvn.specs.Ranges.{text_at}
use Rattle.cj_oem.proofs.node_row.node_fields.Goals as goal

pub returns-in-7-clause-value : goal.returns-in-7-clause-value
returns-in-7-clause-value c =
    let parts = fields (text_at c.args.bytes.now c.args.text) in
    elim c.in-7.is [
      | inl e ↦ let long : length parts ≡ 7 = omega (arith, c.row_fields-row.ensures.count, length-take 11 parts) in rw long refl
      | inr e ↦ let long : length parts ≡ 10 = omega (arith, c.row_fields-row.ensures.count, length-take 11 parts) in rw long refl
    ]

pub returns-in-7-clause-texts : goal.returns-in-7-clause-texts
returns-in-7-clause-texts c =
    let parts = fields (text_at c.args.bytes.now c.args.text) in
    c.row_fields-row.ensures.texts ∙ take_all 10 parts (omega (arith, c.in-7.is, c.row_fields-row.ensures.count, length-take 11 parts))
