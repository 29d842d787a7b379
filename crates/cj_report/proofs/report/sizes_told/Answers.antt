use Rattle.std.proofs.Common.{ap, sym, ◌∙◌}
use Rattle.cj_report.specs.Report.{told}
use Rattle.cj_report.proofs.report.sizes_told.Goals as goal

pub returns-then-with_sizes : goal.returns-then-with_sizes
returns-then-with_sizes c = c.as_slice.ensures.value ∙ sym (ap (λ b. told b c.args.problem.now.sizes) c.if-with_sizes.true)

pub returns-else-with_sizes : goal.returns-else-with_sizes
returns-else-with_sizes c = sym (ap (λ b. told b c.args.problem.now.sizes) c.if-with_sizes.false)
