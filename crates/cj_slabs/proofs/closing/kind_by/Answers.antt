use Rattle.std.proofs.Common.{ap, ◌∙◌}
use Rattle.cj_bezier.specs.Gaps.{PlainGap, apart_axes, gap_terms}
use Rattle.cj_bezier.specs.RootLeaves.{kind_between}
use Rattle.cj_bezier.specs.Verdicts.{cell_verdict, kind_of, verdict_of}
use Rattle.cj_slabs.proofs.closing.kind_by.Goals as goal

pub returns-in-Far : goal.returns-in-Far
unfolding kind_between cell_verdict
returns-in-Far c = λ x y first last a_hull b_hull.
    ap kind_of (c.in-Far.ensures.value ∙ ap (λ (g : PlainGap). verdict_of g c.args.thr) (c.gap.ensures ∙ (λ i. gap_terms (apart_axes (a_hull i) (b_hull i)))))

pub returns-in-Near : goal.returns-in-Near
unfolding kind_between cell_verdict
returns-in-Near c = λ x y first last a_hull b_hull.
    ap kind_of (c.in-Near.ensures.value ∙ ap (λ (g : PlainGap). verdict_of g c.args.thr) (c.gap.ensures ∙ (λ i. gap_terms (apart_axes (a_hull i) (b_hull i)))))

pub returns-in-Undecided : goal.returns-in-Undecided
unfolding kind_between cell_verdict
returns-in-Undecided c = λ x y first last a_hull b_hull.
    ap kind_of (c.in-Undecided.ensures.value ∙ ap (λ (g : PlainGap). verdict_of g c.args.thr) (c.gap.ensures ∙ (λ i. gap_terms (apart_axes (a_hull i) (b_hull i)))))

pub returns-in-Split : goal.returns-in-Split
unfolding kind_between cell_verdict
returns-in-Split c = λ x y first last a_hull b_hull.
    ap kind_of (c.in-Split.ensures.value ∙ ap (λ (g : PlainGap). verdict_of g c.args.thr) (c.gap.ensures ∙ (λ i. gap_terms (apart_axes (a_hull i) (b_hull i)))))
