use Rattle.std.proofs.Common.{◌≡◌, ◌-◌, ◌*◌, ◌≤◌, vec_len}
use Rattle.cj_case.specs.Problems.{plain_problem}
use Rattle.cj_case.specs.Cells.{plain_cells}
use Rattle.cj_candidates.specs.SlotRuns.{roots_over, candidates_over, sought_in}
use Rattle.cj_candidates.proofs.slots_searched.search_in_turn.Given as goal

abbrev pub invariant-loop-slot : goal.invariant-loop-slot
invariant-loop-slot g l = record {
  room : vec_len l.roots ≤ l.limit;
  found : plain_cells l.roots.items ≡ roots_over (plain_problem l.ground.problem.now) (sought_in l.ground) l.from (l.slot - l.from);
  counted : l.touching ≡ candidates_over (plain_problem l.ground.problem.now) (sought_in l.ground) l.from (l.slot - l.from);
  small : l.touching ≤ (l.slot - l.from) * 4_294_836_225;
}
