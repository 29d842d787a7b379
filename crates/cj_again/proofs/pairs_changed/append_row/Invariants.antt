use Rattle.std.proofs.Common.{◌≡◌, ◌++◌, map, filter}
use Rattle.std.specs.Prelude.{not}
use Rattle.cj_case.specs.Pairs.{objects_of}
use Rattle.cj_case.specs.Problems.{plain_problem}
use Rattle.cj_case.specs.Unchanged.{is_unchanged}
use Rattle.cj_case.proofs.PairLemmas.{row_to}
use Rattle.cj_again.proofs.pairs_changed.append_row.Given as goal

abbrev pub invariant-loop-b : goal.invariant-loop-b
invariant-loop-b l = map objects_of l.pairs.items
    ≡ map objects_of l.initial.pairs.items ++ filter (λ pair. not (is_unchanged (plain_problem l.matching.old.now) (plain_problem l.matching.new.now) pair)) (row_to l.a l.b)
