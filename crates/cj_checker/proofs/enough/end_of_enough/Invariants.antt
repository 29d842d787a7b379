use Rattle.std.proofs.Common.{◌-◌, ◌<◌, ◌≤◌}
use Rattle.cj_checker.proofs.enough.end_of_enough.Given as goal

abbrev pub invariant-loop-few : goal.invariant-loop-few
invariant-loop-few l = record {
  from : l.first ≤ l.few;
  some : l.few < l.end;
  within : l.end ≤ l.initial.end;
}

abbrev pub decreases-loop-few : goal.decreases-loop-few
decreases-loop-few l = l.end - l.few
