use Rattle.std.proofs.Common.{rules}
use Rattle.std.proofs.lemmas.Fn.{always_returns_same}
use Rattle.std.proofs.lemmas.List.Sorted.{IsPermutation-trans}
use Rattle.cj_pool.proofs.SortLemmas.{sorted_cells}
use Rattle.cj_pool.proofs.sorting.sort.Goals as goal

pub returns-in-Err-clause-permutation : goal.returns-in-Err-clause-permutation
returns-in-Err-clause-permutation c = IsPermutation-trans _ _ _ c.in-Err.ensures.permutation c.sort_unstable_by_key.ensures.permutation

pub returns-in-Err-clause-ordered : goal.returns-in-Err-clause-ordered
returns-in-Err-clause-ordered c =
    sorted_cells c.sort_unstable_by_key.new.self.items
    (c.sort_unstable_by_key.ensures.sorted (λ leaf. (leaf.cell.pair, leaf.cell.first)) (always_returns_same _ _ _ (λ a r q k. search rules)))
