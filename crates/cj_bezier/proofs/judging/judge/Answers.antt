use Rattle.std.proofs.Common.{ap, ◌∙◌}
use Rattle.cj_bezier.specs.Gaps.{PlainGap, apart_axes, gap_terms}
use Rattle.cj_bezier.specs.Verdicts.{cell_verdict, verdict_of}
use Rattle.cj_bezier.proofs.judging.judge.Goals as goal

pub returns : goal.returns
unfolding cell_verdict
returns c =
    c.verdict.ensures.value
    ∙ ap (λ (g : PlainGap). verdict_of g c.args.thr) (c.gap.ensures ∙ (λ i. gap_terms (apart_axes (c.hull_ready.ensures.value i) (c.hull_ready-2.ensures.value i))))
