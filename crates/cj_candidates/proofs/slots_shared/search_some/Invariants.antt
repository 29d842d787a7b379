use Rattle.std.proofs.Common.{◌≡◌, ◌+◌, ◌≤◌, false, min, take, vec_len}
use Rattle.cj_case.specs.Problems.{plain_problem}
use Rattle.cj_case.specs.Cells.{plain_cells}
use Rattle.cj_candidates.specs.SlotRuns.{candidates_at, roots_at, sought_in}
use Rattle.cj_candidates.proofs.slots_shared.search_some.Given as goal

-- what is found in the slots so far
abbrev pub invariant-loop-slot : goal.invariant-loop-slot
invariant-loop-slot g l = record {
  room : vec_len l.run.roots ≤ l.limit + 1;
  found : plain_cells l.run.roots.items ≡ roots_at (plain_problem l.ground.problem.now) (sought_in l.ground) (take l.slot-index l.slots);
  counted : l.run.touching ≡ min (candidates_at (plain_problem l.ground.problem.now) (sought_in l.ground) (take l.slot-index l.slots)) 18_446_744_073_709_551_615;
  stopped : l.run.whole ≡ false;
}
