use Rattle.std.proofs.Common.{◌≡◌, ◌≤◌, ◌++◌, vec_len}
use Rattle.cj_case.specs.Leaves.{plain_leaves}
use Rattle.cj_case.specs.Problems.{plain_problem}
use Rattle.cj_bezier.specs.Candidates.{is_candidate}
use Rattle.cj_again.specs.PairLeaves.{leaves_to}
use Rattle.cj_again.proofs.carrying.append_row.Given as goal

abbrev pub invariant-loop-b : goal.invariant-loop-b
invariant-loop-b l =
    let new = plain_problem l.sources.matching.now.new.now in
    record {
      value : plain_leaves l.leaves.items ≡ plain_leaves l.initial.leaves.items ++ leaves_to (is_candidate new) new l.a l.b;
      room : vec_len l.leaves ≤ l.limit;
    }
