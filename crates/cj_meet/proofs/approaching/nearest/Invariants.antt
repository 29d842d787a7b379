use Rattle.std.proofs.Common.{◌≡◌, All, Any, take}
use Rattle.cj_case.specs.Problems.{plain_problem}
use Rattle.cj_case.specs.Leaves.{plain_leaves}
use Rattle.cj_meet.specs.Closest.{ends_in}
use Rattle.cj_meet.specs.Searches.{plain_approach, NoWorse, HasInterpolants}
use Rattle.cj_meet.proofs.approaching.nearest.Given as goal

abbrev pub invariant-loop-leaf : goal.invariant-loop-leaf
invariant-loop-leaf l = record {
  end : Any (λ p. p ≡ plain_approach l.best) (ends_in (plain_problem l.problem) (plain_leaves l.leaves));
  nearest : All (NoWorse (plain_approach l.best)) (ends_in (plain_problem l.problem) (plain_leaves (take l.leaf-index l.leaves)));
  interpolants : All (HasInterpolants (plain_problem l.problem)) (plain_leaves (take l.leaf-index l.leaves));
}
