use Rattle.std.proofs.Common.{◌≤◌}
use Rattle.cj_interval.proofs.root.root_within.Given as goal

abbrev pub invariant-loop-root : goal.invariant-loop-root
invariant-loop-root l = l.root ≤ l.fn.guess

abbrev pub decreases-loop-root : goal.decreases-loop-root
decreases-loop-root l = l.root
