use Rattle.std.proofs.Common.{ap, ◌∙◌}
use Rattle.cj_bezier.specs.Gaps.{PlainGap, apart_axes, gap_terms}
use Rattle.cj_bezier.specs.Verdicts.{cell_verdict, verdict_of}
use Rattle.cj_brief_checker.proofs.cuts.verdict_by.Goals as goal

pub returns : goal.returns
unfolding cell_verdict
returns c = λ x y first last a_hull b_hull.
    c.verdict.ensures.value ∙ ap (λ (g : PlainGap). verdict_of g c.args.thr) (c.gap.ensures ∙ (λ i. gap_terms (apart_axes (a_hull i) (b_hull i))))
