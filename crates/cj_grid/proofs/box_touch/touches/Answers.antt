use Rattle.std.proofs.Common.{sym, ◌∙◌}
use Rattle.cj_case.specs.Boxes.{plain_box}
use Rattle.cj_bezier.proofs.TouchLemmas.{far_apart}
use Rattle.cj_grid.proofs.box_touch.touches.Goals as goal

pub returns-clause-law : goal.returns-clause-law
returns-clause-law g c d e m some some' in_a in_b none = far_apart (plain_box c.args.a.now) (plain_box c.args.b.now) c.args.thr (sym c.box_touches.ensures ∙ none) d e m some some' in_a in_b

pub returns-clause-value : goal.returns-clause-value
returns-clause-value g c = c.box_touches.ensures

pub returns-clause-steps : goal.returns-clause-steps
returns-clause-steps g c = c.tick.ensures
