use Rattle.std.proofs.Common.{sym, ◌∙◌}
use Rattle.cj_bezier.specs.Gaps.{terms_of}
use Rattle.cj_bezier.proofs.VerdictLemmas.{far_verdict, near_verdict, undecided_verdict, split_verdict}
use Rattle.cj_bezier.proofs.SplitLemmas.{never_split}
use Rattle.cj_bezier.proofs.verdict_of_gap.verdict.Goals as goal

pub returns-then-supports-clause-value : goal.returns-then-supports-clause-value
returns-then-supports-clause-value c = far_verdict (terms_of c.args.gap.now.terms) c.args.thr (sym c.supports.ensures.value ∙ c.if-supports.true)

pub returns-then-supports-2-clause-value : goal.returns-then-supports-2-clause-value
returns-then-supports-2-clause-value c = near_verdict (terms_of c.args.gap.now.terms) c.args.thr (sym c.supports.ensures.value ∙ c.if-supports.false) (sym c.supports-else-supports.ensures.value ∙ c.if-supports-2.true)

pub returns-then-supports-3-clause-value : goal.returns-then-supports-3-clause-value
returns-then-supports-3-clause-value c =
    undecided_verdict (terms_of c.args.gap.now.terms) c.args.thr (sym c.supports.ensures.value ∙ c.if-supports.false) (sym c.supports-else-supports.ensures.value ∙ c.if-supports-2.false) (sym c.supports-else-supports-2.ensures.value ∙ c.if-supports-3.true)

pub returns-else-supports-3-clause-value : goal.returns-else-supports-3-clause-value
returns-else-supports-3-clause-value c =
    split_verdict (terms_of c.args.gap.now.terms) c.args.thr (sym c.supports.ensures.value ∙ c.if-supports.false) (sym c.supports-else-supports.ensures.value ∙ c.if-supports-2.false) (sym c.supports-else-supports-2.ensures.value ∙ c.if-supports-3.false)

pub returns-else-supports-3-clause-one_tick : goal.returns-else-supports-3-clause-one_tick
returns-else-supports-3-clause-one_tick c a b m of_hulls =
    λ _. never_split (terms_of c.args.gap.now.terms) a b c.args.thr m c.requires.least of_hulls.a_over of_hulls.b_over of_hulls.terms (sym c.supports.ensures.value ∙ c.if-supports.false) (sym c.supports-else-supports.ensures.value ∙ c.if-supports-2.false) (sym c.supports-else-supports-2.ensures.value ∙ c.if-supports-3.false)
