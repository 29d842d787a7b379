use Rattle.std.proofs.lemmas.List.Sorted.{IsPermutation-trans}
use Rattle.cj_cells.proofs.ordering.order_roots.Goals as goal

pub returns-clause-all : goal.returns-clause-all
returns-clause-all c candidate case e = c.number_roots.ensures.all candidate case (IsPermutation-trans _ _ _ e c.sort.ensures.permutation)
