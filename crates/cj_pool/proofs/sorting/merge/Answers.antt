use Rattle.std.proofs.Common.{rules}
use Rattle.std.proofs.lemmas.Fn.{always_returns_same}
use Rattle.std.proofs.lemmas.Result.{on_ok_weaker}
use Rattle.cj_pool.proofs.SortLemmas.{sorted_cells}
use Rattle.cj_pool.proofs.sorting.merge.Goals as goal

pub returns-clause-ordered : goal.returns-clause-ordered
returns-clause-ordered c =
    on_ok_weaker c.sort_by_key.result
    (λ sorted. sorted_cells c.sort_by_key.new.self.items
    (sorted (λ leaf. (leaf.cell.pair, leaf.cell.first)) (always_returns_same _ _ _ (λ a r q k. search rules))))
    c.sort_by_key.ensures.sorted
