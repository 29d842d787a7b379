use Rattle.std.proofs.Common.{◌≡◌, ◌+◌, ◌<◌, ◌≤◌, ◌++◌, length, take, vec_len}
use Rattle.std.specs.Prelude.{All}
use Rattle.cj_case.specs.Problems.{plain_problem}
use Rattle.cj_cells.specs.Cells.{added_roots}
use Rattle.cj_candidates.proofs.SlotRunLemmas.{roots_with}
use Rattle.cj_candidates.proofs.slots_shared.append_until_stopped.Given as goal

-- what was added, and then the roots of the pairs that are left, are those of all
abbrev pub invariant-loop-rest : goal.invariant-loop-rest
invariant-loop-rest l = record {
  exist : All (λ pair. pair.b < length l.problem.tracks) l.rest;
  room : vec_len l.roots ≤ l.limit + 1;
  kept : take (length l.initial.roots.items) l.roots.items ≡ l.initial.roots.items;
  added : added_roots l.initial.roots.items l.roots.items ++ roots_with (plain_problem l.problem) l.slot l.rest
      ≡ roots_with (plain_problem l.problem) l.slot l.pairs;
}

abbrev pub decreases-loop-rest : goal.decreases-loop-rest
decreases-loop-rest l = length l.rest
