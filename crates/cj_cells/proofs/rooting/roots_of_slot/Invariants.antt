use Rattle.std.proofs.Common.{◌≡◌, ◌≤◌, length, take, drop, map, vec_len, All}
use Rattle.cj_case.specs.Problems.{plain_problem}
use Rattle.cj_case.specs.Pairs.{objects_of}
use Rattle.cj_hermite.specs.Roots.{roots_in_slot}
use Rattle.cj_cells.specs.Cells.{added_roots}
use Rattle.cj_cells.proofs.rooting.roots_of_slot.Given as goal

abbrev pub invariant-loop-pair : goal.invariant-loop-pair
invariant-loop-pair l = record {
  room : vec_len l.roots ≤ l.limit;
  added : added_roots l.initial.roots.items l.roots.items ≡ roots_in_slot (plain_problem l.problem) l.slot (map objects_of (take l.pair-index l.pairs));
  kept : take (length l.initial.roots.items) l.roots.items ≡ l.initial.roots.items;
  root : All (λ cell. cell.root ≡ 0) (drop (length l.initial.roots.items) l.roots.items);
}
