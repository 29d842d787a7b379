use Rattle.std.proofs.Common.{◌≡◌, ◌≤◌, filter, length, map, take}
use Rattle.cj_case.specs.Pairs.{objects_of}
use Rattle.cj_case.specs.Problems.{plain_problem}
use Rattle.cj_case.specs.Unchanged.{is_unchanged}
use Rattle.cj_again.proofs.counting.count_unchanged.Given as goal

abbrev pub invariant-loop-pair : goal.invariant-loop-pair
invariant-loop-pair l = record {
  counted : l.count ≡ length (filter (is_unchanged (plain_problem l.matching.old.now) (plain_problem l.matching.new.now)) (map objects_of (take l.pair-index l.pairs)));
  few : l.count ≤ l.pair-index;
}
