use Rattle.std.proofs.Common.{◌%◌, arith, ap, sym, subst, ◌∙◌}
use Rattle.cj_gen.specs.Orbits.{IsNear, after_turns}
use Rattle.cj_gen.proofs.PlaneLemmas.{near_drawn}
use Rattle.cj_gen.proofs.orbit.Orbit.drawn.Goals as goal

pub returns-clause-kept : goal.returns-clause-kept
returns-clause-kept c =
    let a = c.draw.result % 41 in
    let b = c.draw-turns.result % 97 in
    let first = c.turned_often.ensures ∙ ap (after_turns b) c.on_axis.ensures in
    (subst (IsNear 7000000) (sym first) (near_drawn a b (omega arith) (omega arith)), c.of-tilt.ensures.some)
