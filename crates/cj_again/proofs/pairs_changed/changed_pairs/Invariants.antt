use Rattle.std.proofs.Common.{◌≡◌, map, filter, length}
use Rattle.std.specs.Prelude.{not}
use Rattle.std.specs.List.{flat_map, range_with_len}
use Rattle.cj_case.specs.Pairs.{objects_of}
use Rattle.cj_case.specs.Problems.{plain_problem}
use Rattle.cj_case.specs.Unchanged.{is_unchanged}
use Rattle.cj_case.proofs.PairLemmas.{pairs_from}
use Rattle.cj_again.proofs.pairs_changed.changed_pairs.Given as goal

abbrev pub invariant-loop-a : goal.invariant-loop-a
invariant-loop-a l = map objects_of l.pairs.items
    ≡ filter (λ pair. not (is_unchanged (plain_problem l.matching.old.now) (plain_problem l.matching.new.now) pair))
    (flat_map (pairs_from (length l.matching.new.now.tracks)) (range_with_len 0 l.a))
