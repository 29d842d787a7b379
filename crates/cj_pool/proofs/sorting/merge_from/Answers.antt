use Rattle.std.proofs.Common.{List, subst, arith}
use Rattle.std.specs.Prelude.{AllPairs}
use Rattle.std.proofs.lemmas.List.{take_all}
use Rattle.cj_case.specs.Cells.{IsRootUpTo}
use Rattle.cj_case.specs.declared.leaf.Leaf.{Leaf}
use Rattle.cj_case.specs.Cells.{plain_cells}
use Rattle.cj_pool.specs.Hands.{cells_of}
use Rattle.cj_pool.proofs.sorting.merge_from.Goals as goal

pub returns-clause-ordered : goal.returns-clause-ordered
returns-clause-ordered c =
    subst (λ (xs : List Leaf). AllPairs IsRootUpTo (plain_cells (cells_of xs)))
    (take_all c.args.sorted c.args.leaves.now.items (omega (arith, c.len.ensures, c.args.leaves.now.ok.0))) c.requires
