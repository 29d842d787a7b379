use Rattle.std.proofs.Common.{◌≡◌, filter, take}
use Rattle.std.specs.Prelude.{not}
use Rattle.cj_case.specs.Cells.{plain_cells}
use Rattle.cj_case.specs.Problems.{plain_problem}
use Rattle.cj_case.specs.Unchanged.{is_unchanged}
use Rattle.cj_again.proofs.changed.select.Given as goal

abbrev pub invariant-loop-root : goal.invariant-loop-root
invariant-loop-root l =
    plain_cells l.some.items
    ≡ filter (λ root. not (is_unchanged (plain_problem l.matching.old.now) (plain_problem l.matching.new.now) (root.a, root.b))) (plain_cells (take l.root-index l.roots))
