-- Roots that are sorted by pair and first tick.
use Rattle.std.proofs.Common.{◌≡◌, ℕ, zero, suc, ◌+◌, ◌<◌, ◌≤◌, Bool, false, List, [], ◌∷◌, ◌++◌, length, get_or, set, take, refl, sym, ap, ◌∙◌, arith}
use Rattle.std.specs.List.{AllPairs, range_with_len}
use Rattle.std.specs.List.Sorted.{IsPermutation}
use Rattle.std.proofs.lemmas.List.{take_more_set, map_push}
use Rattle.cj_case.specs.declared.cell.Cell.{Cell}
use Rattle.cj_case.specs.PlainProblems.{PlainProblem}
use Rattle.cj_case.specs.Cells.{plain_cell, plain_cells}
use Rattle.cj_case.specs.PairOrder.{AreInOrderBy}
use Rattle.cj_case.proofs.PairOrderLemmas.{before, sorted}
use Rattle.cj_cells.specs.Cells.{root_numbers}
use Rattle.cj_case.specs.Cells.{PlainCell, IsRootUpTo}
use Rattle.cj_hermite.specs.Roots.{roots_of, roots_by_slot}
use Rattle.cj_interval.proofs.ListLemmas.{Each-weaker, Ordered-map, AllPairs-from_ordered, ordered_from_AllPairs}
use Rattle.cj_interval.proofs.RangeLemmas.{range_more}
use Rattle.cj_hermite.proofs.RootLemmas.{Each-roots, Ordered-roots, IsRootOf}
use Rattle.cj_interval.proofs.SumLemmas.{same_totals}
use Rattle.cj_hermite.proofs.RootSumLemmas.{same_roots, same_root_list}

-- cells in order of pair and first tick, as roots
pub roots_in_order : (cells : List Cell) → AreInOrderBy (λ c. (c.pair, c.first)) cells → AllPairs IsRootUpTo (plain_cells cells)
roots_in_order cells ordered =
    AllPairs-from_ordered IsRootUpTo (plain_cells cells)
    (Ordered-map IsRootUpTo plain_cell cells
    (ordered_from_AllPairs (λ c d. IsRootUpTo (plain_cell c) (plain_cell d)) cells
    (λ i j e lt le. let u = ordered i j e lt le in record { first_object = u.first_object; second_object = u.second_object; ticks = u.tick })))

pub sorted_up_to : (cells : List Cell) →
    ((k : ℕ) (e : Cell) → 0 ≤ k → k + 1 < length cells → before ((get_or cells (k + 1) e).pair, (get_or cells (k + 1) e).first) ((get_or cells k e).pair, (get_or cells k e).first) ≡ false) →
    AllPairs IsRootUpTo (plain_cells cells)
sorted_up_to cells h = roots_in_order cells (sorted (λ c. (c.pair, c.first)) cells h)

-- the roots that were found slot by slot, in whatever order they came, once they are sorted
pub sorted_roots : (candidate : ℕ → ℕ → ℕ → Bool) (case : PlainProblem) (found sorted : List PlainCell) → IsPermutation (roots_by_slot candidate case) found → IsPermutation found sorted → AllPairs IsRootUpTo sorted → sorted ≡ roots_of candidate case
sorted_roots candidate case found sorted found_all moved ordered =
    sym (same_root_list (roots_of candidate case) sorted
    (Each-weaker (IsRootOf case) (λ r. r.first ≤ r.last) (λ r is. let root = is.root in omega (arith, root.some)) (roots_of candidate case) (Each-roots candidate case))
    (Ordered-roots candidate case)
    (ordered_from_AllPairs IsRootUpTo sorted ordered)
    (λ f. sym (same_roots candidate case f) ∙ sym (same_totals f (roots_by_slot candidate case) found found_all) ∙ sym (same_totals f found sorted moved)))

-- ---- numbering

pub same_place : (cells : List Cell) (i : ℕ) (x y : Cell) → i < length cells → plain_cell y ≡ plain_cell (get_or cells i x) → plain_cells (set cells i y) ≡ plain_cells cells
same_place [] i x y lt e = refl
same_place (c ∷ cells) zero x y lt e = rw e
same_place (c ∷ cells) (suc i) x y lt e = ap (λ rs. plain_cell c ∷ rs) (same_place cells i x y (omega arith) e)

pub numbered_more : (cells : List Cell) (i : ℕ) (y : Cell) → i < length cells → y.root ≡ i → root_numbers (take i cells) ≡ range_with_len 0 i →
    root_numbers (take (i + 1) (set cells i y)) ≡ range_with_len 0 (i + 1)
numbered_more cells i y lt e numbered =
    ap root_numbers (take_more_set cells i y lt)
    ∙ map_push (λ (c : Cell). c.root) (take i cells) y
    ∙ ap (λ ks. ks ++ y.root ∷ []) numbered
    ∙ ap (λ (k : ℕ). range_with_len 0 i ++ k ∷ []) (e ∙ omega arith)
    ∙ sym (range_more 0 i)
