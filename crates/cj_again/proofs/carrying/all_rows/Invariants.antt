use Rattle.std.proofs.Common.{◌≡◌, ◌≤◌, vec_len}
use Rattle.cj_case.specs.Leaves.{plain_leaves}
use Rattle.cj_case.specs.Problems.{plain_problem}
use Rattle.cj_bezier.specs.Candidates.{is_candidate}
use Rattle.cj_again.proofs.PairLeafLemmas.{rows_to}
use Rattle.cj_again.proofs.carrying.all_rows.Given as goal

abbrev pub invariant-loop-a : goal.invariant-loop-a
invariant-loop-a l =
    let new = plain_problem l.sources.matching.now.new.now in
    record {
      value : plain_leaves l.leaves.items ≡ rows_to (is_candidate new) new l.a;
      room : vec_len l.leaves ≤ l.limit;
    }
