use Rattle.std.proofs.Common.{ap, ◌∙◌}
use Rattle.cj_bezier.specs.Gaps.{PlainGap, apart_axes, gap_terms}
use Rattle.cj_bezier.specs.Verdicts.{supported}
use Rattle.cj_checker.proofs.root.Root.supports.Goals as goal

pub returns : goal.returns
returns c =
    c.supports.ensures.value
    ∙ ap (λ (g : PlainGap). supported g c.args.self.now.thr c.args.cell.now.kind)
    (c.gap.ensures ∙ (λ j. gap_terms (apart_axes (c.hull_ready-a.ensures.value j) (c.hull_ready-b.ensures.value j))))
