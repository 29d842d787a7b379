use Rattle.std.proofs.Common.{◌∙◌, arith}
use Rattle.std.proofs.lemmas.Grind.{common_steps}
use Rattle.std.proofs.lemmas.List.Sorted.{IsPermutation-refl}
use Rattle.cj_case.specs.Cells.{plain_cells}
use Rattle.cj_cells.proofs.OrderLemmas.{sorted_roots}
use Rattle.cj_cells.proofs.ordering.number_roots.Goals as goal

pub returns-clause-all : goal.returns-clause-all
returns-clause-all c candidate case e =
    let cells = plain_cells c.args.roots.now.items in
    (grind (arith, common_steps)) ∙ sorted_roots candidate case cells cells e (IsPermutation-refl cells) c.requires.ordered
