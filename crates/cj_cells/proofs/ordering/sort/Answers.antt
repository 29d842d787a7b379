use Rattle.std.proofs.Common.{rules}
use Rattle.std.proofs.lemmas.Fn.{always_returns_same}
use Rattle.std.proofs.lemmas.List.Sorted.{IsPermutation-map, IsPermutation-trans}
use Rattle.cj_case.specs.Cells.{plain_cell}
use Rattle.cj_cells.proofs.OrderLemmas.{sorted_up_to}
use Rattle.cj_cells.proofs.ordering.sort.Goals as goal

pub returns-in-Ok-clause-permutation : goal.returns-in-Ok-clause-permutation
returns-in-Ok-clause-permutation c = IsPermutation-map plain_cell c.args.roots.now.items c.sort_by_key.new.self.items c.in-Ok.ensures.permutation

pub returns-in-Ok-clause-ordered : goal.returns-in-Ok-clause-ordered
returns-in-Ok-clause-ordered c =
    sorted_up_to c.sort_by_key.new.self.items
    (c.in-Ok.ensures.sorted (λ cell. (cell.pair, cell.first)) (always_returns_same _ _ _ (λ a r q k. search rules)))

pub returns-in-Err-clause-permutation : goal.returns-in-Err-clause-permutation
returns-in-Err-clause-permutation c =
    IsPermutation-map plain_cell c.args.roots.now.items c.sort_unstable_by_key.new.self.items
    (IsPermutation-trans _ _ _ c.in-Err.ensures.permutation c.sort_unstable_by_key.ensures.permutation)

pub returns-in-Err-clause-ordered : goal.returns-in-Err-clause-ordered
returns-in-Err-clause-ordered c =
    sorted_up_to c.sort_unstable_by_key.new.self.items
    (c.sort_unstable_by_key.ensures.sorted (λ cell. (cell.pair, cell.first)) (always_returns_same _ _ _ (λ a r q k. search rules)))
