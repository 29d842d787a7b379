use Rattle.std.proofs.Common.{ap, ◌∙◌}
use Rattle.cj_kvn.proofs.PrintLemmas.{digits_pushed}
use Rattle.cj_oem.proofs.FigureLemmas.{number_one}
use Rattle.cj_oem.proofs.printing.figures.+push_number.Goals as goal
use Rattle.cj_oem.proofs.printing.figures.+push_number.Goals.{then-number-ge10+in_ok-push_number, else-number-ge10}

pub returns : goal.returns
returns t c = elim c.if-number-ge10.branch [
  | then-number-ge10+in_ok-push_number w ↦
      digits_pushed c.args.text.now.items c.if-number-ge10.text.items c.push.new.self.items c.args.number w.if-number-ge10.true c.ranges.number.fits
      (ap (λ v. v.items) w.text-is ∙ w.in_ok-push_number.ensures) c.in_ok-push.ensures.items
  | else-number-ge10 w ↦
      number_one c.args.text.now.items c.if-number-ge10.text.items c.push.new.self.items c.args.number w.if-number-ge10.false (ap (λ v. v.items) w.text-is) c.in_ok-push.ensures.items
]
