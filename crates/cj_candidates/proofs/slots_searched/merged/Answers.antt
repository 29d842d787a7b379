use Rattle.std.proofs.Common.{List, ◌∙◌, ap, subst}
use Rattle.std.specs.List.Sorted.{IsPermutation}
use Rattle.cj_case.specs.declared.cell.Cell.{Cell}
use Rattle.cj_cells.proofs.OrderLemmas.{roots_in_order}
use Rattle.cj_candidates.specs.SlotRuns.{candidates_counted}
use Rattle.cj_candidates.proofs.slots_searched.merged.Goals as goal

pub returns-clause-roots : goal.returns-clause-roots
returns-clause-roots g c = subst (λ (cells : List Cell). IsPermutation cells c.in_ok-roots.roots.items) c.in_ok-lists.ensures c.in_ok-roots.ensures.elements

pub returns-clause-ordered : goal.returns-clause-ordered
returns-clause-ordered g c = roots_in_order c.in_ok-roots.roots.items c.in_ok-roots.ensures.ordered

pub returns-clause-touching : goal.returns-clause-touching
returns-clause-touching g c = c.touching_in-touching.ensures ∙ ap candidates_counted c.deref.ensures.value
