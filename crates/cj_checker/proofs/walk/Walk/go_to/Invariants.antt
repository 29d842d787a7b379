use Rattle.std.proofs.Common.{◌-◌}
use Rattle.cj_checker.specs.Walks.{IsWalk}
use Rattle.cj_checker.proofs.walk.Walk.go_to.Given as goal

abbrev pub invariant-loop-self : goal.invariant-loop-self
invariant-loop-self l = IsWalk l.course l.self

abbrev pub decreases-loop-self : goal.decreases-loop-self
decreases-loop-self l = l.course.problem.now.window.last.micros - l.self.part.last.micros
