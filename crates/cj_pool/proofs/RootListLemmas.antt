-- The roots of a case, as they are found slot by slot and put in order, are the roots of a run.
use Rattle.std.proofs.Common.{◌≡◌, ℕ, ◌+◌, ◌<◌, Bool, cond, List, [], length, sym, subst, arith}
use Rattle.std.specs.List.{AllPairs, range_with_len}
use Rattle.cj_interval.proofs.ListLemmas.{Each, Each-weaker, Each-always, Each-flat_map, Each-taken, each_from_map, All-from_each, AllPairs-from_ordered}
use Rattle.cj_case.specs.PlainProblems.{PlainProblem}
use Rattle.cj_case.specs.Pairs.{pairs_of}
use Rattle.cj_case.specs.Slots.{slot_first, slot_last}
use Rattle.cj_case.specs.Cells.{PlainCell, IsRootBefore}
use Rattle.cj_hermite.specs.Roots.{KeepPieces, roots_in, slots_of, roots_of}
use Rattle.cj_hermite.proofs.RootLemmas.{IsRoot, IsRootOf, roots_of_pair, Each-between, Each-roots, Ordered-roots}
use Rattle.cj_hermite.proofs.CurveLemmas.{root_pieces}
use Rattle.cj_case.specs.declared.cell.Cell.{Cell}
use Rattle.cj_case.specs.Cells.{plain_cell, plain_cells}
use Rattle.cj_cells.specs.Cells.{root_numbers}
use Rattle.cj_pool.specs.RootLists.{IsKept, IsShortCell, AreRoots}

abbrev IsShort : PlainCell → Type 0
IsShort r = r.last < r.first + 60_000_000

-- a root of a slot is as short as a slot
in_slot : (case : PlainProblem) (a b slot : ℕ) → Each IsShort (roots_in case slot a b)
in_slot case a b slot =
    let lo = slot_first case.first slot in
    let hi = slot_last case.first case.last slot in
    Each-weaker (IsRoot case a b lo hi) IsShort (λ r is. omega (arith, is.from, is.to)) (roots_in case slot a b) (Each-between case a b lo hi)

pub Each-short : (candidate : ℕ → ℕ → ℕ → Bool) (case : PlainProblem) → Each IsShort (roots_of candidate case)
unfolding roots_of
Each-short candidate case =
    Each-flat_map IsShort (roots_of_pair candidate case) (pairs_of (length case.tracks))
    (Each-always (λ pair. Each IsShort (roots_of_pair candidate case pair))
    (λ pair. Each-flat_map IsShort (λ slot. cond (candidate pair.0 pair.1 slot) (roots_in case slot pair.0 pair.1) []) (slots_of case)
    (Each-always (λ slot. Each IsShort (cond (candidate pair.0 pair.1 slot) (roots_in case slot pair.0 pair.1) []))
    (λ slot. Each-taken IsShort (candidate pair.0 pair.1 slot) (roots_in case slot pair.0 pair.1) (in_slot case pair.0 pair.1 slot))
    (slots_of case)))
    (pairs_of (length case.tracks)))

-- the cells of all roots in order, numbered from 0
pub are_roots : (candidate : ℕ → ℕ → ℕ → Bool) (case : PlainProblem) (roots : List Cell) → plain_cells roots ≡ roots_of candidate case → root_numbers roots ≡ range_with_len 0 (length roots) → AreRoots case roots
are_roots candidate case roots is numbered = record {
  keep = All-from_each (IsKept case) roots
      (each_from_map (λ (r : PlainCell). KeepPieces case r.a r.b r.first r.last) plain_cell roots
      (subst (Each (λ (r : PlainCell). KeepPieces case r.a r.b r.first r.last)) (sym is)
      (Each-weaker (IsRootOf case) (λ (r : PlainCell). KeepPieces case r.a r.b r.first r.last) (root_pieces case) (roots_of candidate case) (Each-roots candidate case))));
  short = All-from_each IsShortCell roots (each_from_map IsShort plain_cell roots (subst (Each IsShort) (sym is) (Each-short candidate case)));
  ordered = subst (AllPairs IsRootBefore) (sym is) (AllPairs-from_ordered IsRootBefore (roots_of candidate case) (Ordered-roots candidate case));
  numbered = numbered;
}
