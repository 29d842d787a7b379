use Rattle.std.proofs.Common.{arith, ap, sym, subst, refl, ◌∙◌}
use Rattle.cj_gen.specs.Orbits.{turned, after_turns, IsInSquare}
use Rattle.cj_gen.proofs.PlaneLemmas.{few_in_square, turn_more}
use Rattle.cj_gen.proofs.plane.Point.turned_often.Goals as goal

pub loop-turn-init : goal.loop-turn-init
unfolding after_turns
loop-turn-init c = refl

pub turned-point-requires : goal.turned-point-requires
turned-point-requires c = subst (IsInSquare 10000000) (sym c.loop-turn.invariant) (few_in_square c.loop-turn._turn c.args.self (omega arith) c.requires.near)

pub loop-turn-preserved : goal.loop-turn-preserved
loop-turn-preserved c = c.turned-point.ensures ∙ ap turned c.loop-turn.invariant ∙ turn_more c.loop-turn._turn c.args.self
