use Rattle.std.proofs.Common.{◌*◌, ◌-◌, ◌^◌, ◌≤◌}
use Rattle.cj_interval.proofs.root.isqrt_down.Given as goal

abbrev pub invariant-loop-root : goal.invariant-loop-root
invariant-loop-root l = record { below : l.root * l.root ≤ l.n; small : l.root ≤ 2 ^ 63 }

abbrev pub decreases-loop-root : goal.decreases-loop-root
decreases-loop-root l = 2 ^ 63 - l.root
