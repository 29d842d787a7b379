-- Leaves that are sorted by pair and first tick.
use Rattle.std.proofs.Common.{◌≡◌, ℕ, ◌+◌, ◌<◌, ◌≤◌, false, List, length, get_or}
use Rattle.std.specs.Prelude.{AllPairs}
use Rattle.cj_interval.proofs.ListLemmas.{Ordered-map, AllPairs-from_ordered, ordered_from_AllPairs}
use Rattle.cj_case.specs.Cells.{IsRootUpTo}
use Rattle.cj_case.specs.declared.leaf.Leaf.{Leaf}
use Rattle.cj_case.specs.Cells.{plain_cells}
use Rattle.cj_case.specs.PairOrder.{IsUpTo, AreInOrderBy}
use Rattle.cj_case.proofs.PairOrderLemmas.{before, sorted}
use Rattle.cj_cells.proofs.OrderLemmas.{roots_in_order}
use Rattle.cj_pool.specs.Hands.{cells_of}

pub leaves_in_order : (leaves : List Leaf) → AreInOrderBy (λ leaf. (leaf.cell.pair, leaf.cell.first)) leaves → AllPairs IsRootUpTo (plain_cells (cells_of leaves))
leaves_in_order leaves ordered =
    roots_in_order (cells_of leaves)
    (AllPairs-from_ordered (λ c d. IsUpTo (c.pair, c.first) (d.pair, d.first)) (cells_of leaves)
    (Ordered-map (λ c d. IsUpTo (c.pair, c.first) (d.pair, d.first)) (λ leaf. leaf.cell) leaves
    (ordered_from_AllPairs (λ l m. IsUpTo (l.cell.pair, l.cell.first) (m.cell.pair, m.cell.first)) leaves ordered)))

pub sorted_cells : (leaves : List Leaf) →
    ((k : ℕ) (d : Leaf) → 0 ≤ k → k + 1 < length leaves → before ((get_or leaves (k + 1) d).cell.pair, (get_or leaves (k + 1) d).cell.first) ((get_or leaves k d).cell.pair, (get_or leaves k d).cell.first) ≡ false) →
    AllPairs IsRootUpTo (plain_cells (cells_of leaves))
sorted_cells leaves h = leaves_in_order leaves (sorted (λ leaf. (leaf.cell.pair, leaf.cell.first)) leaves h)
