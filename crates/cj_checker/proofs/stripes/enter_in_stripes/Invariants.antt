use Rattle.std.proofs.Common.{ℕ, ◌<◌, ◌≤◌, length}
use Rattle.std.specs.List.{Contains}
use Rattle.cj_case.specs.declared.problem.Problem.{Problem}
use Rattle.cj_checker.specs.declared.reach.Reach.{Reach}
use Rattle.cj_checker.specs.Sweeps.{Exist, moved}
use Rattle.cj_checker.proofs.stripes.enter_in_stripes.Given as goal

abbrev pub invariant-loop-stripe : goal.invariant-loop-stripe
invariant-loop-stripe l = record {
  exist : (problem : Problem) → l.own.object < length problem.tracks → Exist problem l.initial.reaches.items → Exist problem l.reaches.items;
  kept : (reach : Reach) → Contains l.initial.reaches.items reach → Contains l.reaches.items reach;
  entered : (k : ℕ) → k < l.stripe → l.first ≤ k → Contains l.reaches.items (moved k l.own);
}
