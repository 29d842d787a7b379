use Rattle.std.proofs.Common.{List, subst}
use Rattle.std.specs.List.Sorted.{IsPermutation}
use Rattle.cj_grid.specs.declared.entries.Entry.{Entry}
use Rattle.cj_grid.proofs.FoundLemmas.{in_order}
use Rattle.cj_grid.proofs.touching_pairs.sorted_entries.Goals as goal

pub returns-clause-same : goal.returns-clause-same
returns-clause-same c = subst (λ (es : List Entry). IsPermutation es c.sort.new.self.items) c.in_ok-entries.ensures c.sort.ensures.permutation

pub returns-clause-order : goal.returns-clause-order
returns-clause-order c = in_order c.sort.new.self.items c.in_ok-sort.ensures.sorted
