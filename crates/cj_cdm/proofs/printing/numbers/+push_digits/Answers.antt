use Rattle.std.proofs.Common.{ap, ◌∙◌}
use Rattle.cj_cdm.proofs.NumberLemmas.{digits_more, digits_one}
use Rattle.cj_cdm.proofs.printing.numbers.+push_digits.Goals as goal
use Rattle.cj_cdm.proofs.printing.numbers.+push_digits.Goals.{then-count-gt1, else-count-gt1}

pub returns-clause-appended : goal.returns-clause-appended
returns-clause-appended t c = elim c.if-count-gt1.branch [
  | then-count-gt1 w ↦
      digits_more c.args.text.now.items c.if-count-gt1.text.items c.push.new.self.items c.args.count c.args.number w.if-count-gt1.true
      (ap (λ v. v.items) w.text-is ∙ w.push_digits.ensures.appended) c.push.ensures.items
  | else-count-gt1 w ↦
      digits_one c.args.text.now.items c.if-count-gt1.text.items c.push.new.self.items c.args.count c.args.number w.if-count-gt1.false c.requires.some
      (ap (λ v. v.items) w.text-is) c.push.ensures.items
]
