use Rattle.std.proofs.Common.{◌≡◌, ◌≤◌, filter, length}
use Rattle.cj_case.proofs.PairLemmas.{row_to}
use Rattle.cj_case.specs.Problems.{plain_problem}
use Rattle.cj_bezier.specs.Candidates.{is_kept_unchanged}
use Rattle.cj_again.proofs.counting.count_row.Given as goal

abbrev pub invariant-loop-b : goal.invariant-loop-b
invariant-loop-b l = record {
  counted : l.count ≡ length (filter (is_kept_unchanged (plain_problem l.matching.old.now) (plain_problem l.matching.new.now)) (row_to l.a l.b));
  few : l.count ≤ l.b;
}
