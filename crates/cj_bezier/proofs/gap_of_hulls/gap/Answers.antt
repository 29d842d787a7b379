use Rattle.std.proofs.Common.{◌≡◌, rules, ap, ◌∙◌, length}
use Rattle.cj_bezier.specs.Gaps.{gap_terms}
use Rattle.cj_bezier.proofs.BoxLemmas.{axes_apart}
use Rattle.cj_bezier.proofs.gap_of_hulls.gap.Goals as goal

pub returns : goal.returns
returns c =
    let n : length c.args.a.now.points ≡ 4 = search rules in
    let m : length c.args.b.now.points ≡ 4 = search rules in
    c.square.ensures ∙ ap gap_terms (axes_apart c.args.a.now.points c.args.b.now.points _ _ _ _ _ _ _ _ _ _ _ _ n m c.less-d0.ensures.value c.less-d1.ensures.value c.less-d2.ensures.value c.less-d3.ensures.value)

pub square-requires : goal.square-requires
square-requires c = record { b0 = c.less-d0.ensures.within; b1 = c.less-d1.ensures.within; b2 = c.less-d2.ensures.within; b3 = c.less-d3.ensures.within }
