use Rattle.cj_brief_checker.proofs.VerdictLemmas.{shown_by_verdict}
use Rattle.cj_brief_checker.proofs.cell_steps.is_told.Goals as goal

pub returns-then-has_all : goal.returns-then-has_all
returns-then-has_all c is =
    shown_by_verdict c.args.root.now c.args.cell.now c.args.verdict c.requires (c.says.ensures is) (c.has_all.ensures.first c.if-has_all.true) (c.has_all.ensures.last c.if-has_all.true)
