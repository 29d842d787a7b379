use Rattle.std.proofs.Common.{◌≡◌}
use Rattle.cj_gen.specs.Orbits.{after_turns}
use Rattle.cj_gen.proofs.plane.Point.turned_often.Given as goal

abbrev pub invariant-loop-turn : goal.invariant-loop-turn
invariant-loop-turn l = l.point ≡ after_turns l._turn l.fn.self
