use Rattle.std.proofs.Common.{◌≡◌, ◌*◌, ◌≤◌, filter, length}
use Rattle.std.specs.List.{flat_map, range_with_len}
use Rattle.cj_case.proofs.PairLemmas.{pairs_from}
use Rattle.cj_case.specs.Problems.{plain_problem}
use Rattle.cj_bezier.specs.Candidates.{is_kept_unchanged}
use Rattle.cj_again.proofs.counting.kept_unchanged.Given as goal

abbrev pub invariant-loop-a : goal.invariant-loop-a
invariant-loop-a l = record {
  counted : l.count ≡ length (filter (is_kept_unchanged (plain_problem l.matching.old.now) (plain_problem l.matching.new.now))
      (flat_map (pairs_from (length (plain_problem l.matching.new.now).tracks)) (range_with_len 0 l.a)));
  few : l.count ≤ l.a * 65_535;
}
