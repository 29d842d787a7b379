-- Cells of the halving trees lie in their roots.
use Rattle.std.proofs.Common.{◌≡◌, ℕ, ◌+◌, ◌^◌, ◌<◌, ◌≤◌, List, ap, ◌∙◌, arith}
use Rattle.std.specs.Prelude.{None, Option, slice_get}
use Rattle.cj_case.specs.PlainProblems.{PlainProblem}
use Rattle.cj_hermite.specs.Roots.{KeepPieces}
use Rattle.cj_hermite.proofs.CurveLemmas.{keep_part}
use Rattle.cj_case.specs.declared.cell.Cell.{Cell}
use Rattle.cj_case.specs.declared.kind.Kind.{Kind}
use Rattle.cj_bezier.specs.Halving.{InHalving, whole, left, right}
use Rattle.cj_interval.proofs.ListLemmas.{each_from_All, each_at}
use Rattle.cj_pool.specs.RootLists.{IsKept, IsShortCell, AreRoots}
use Rattle.cj_pool.specs.Tree.{ticks_kind, InTree, Halved}

-- a part of the tree lies in its ticks
pub record Within (first last lo hi : ℕ) : Type 0 where
  pub from : first ≤ lo
  pub to : hi ≤ last

pub tree_within : (judge : ℕ → ℕ → Option Kind) (first last lo hi : ℕ) → InHalving judge first last lo hi → Within first last lo hi
tree_within judge first last lo hi whole = record { from = omega arith; to = omega arith }
tree_within judge first last lo hi (left from to tree lt none) = let r = tree_within judge first last from to tree in record { from = r.from; to = omega (arith, r.to) }
tree_within judge first last lo hi (right from to tree lt none) = let r = tree_within judge first last from to tree in record { from = omega (arith, r.from); to = r.to }

-- the objects of a cell of a tree stay in their pieces, as they do over its root
pub tree_keeps : (case : PlainProblem) (roots : List Cell) (c : Cell) → AreRoots case roots → InTree case roots c → IsKept case c
tree_keeps case roots c are tree =
    let root = tree.root in
    let keep : IsKept case root = each_at (IsKept case) roots c.root root (each_from_All (IsKept case) roots are.keep) tree.at in
    let part = tree_within (ticks_kind case c.pair.a c.pair.b) root.first.micros root.last.micros c.first.micros c.last.micros tree.tree in
    let here : KeepPieces case c.pair.a c.pair.b root.first.micros root.last.micros = rw (tree.pair) keep in
    keep_part case c.pair.a c.pair.b root.first.micros root.last.micros c.first.micros c.last.micros here part.from c.some part.to

-- it is as short as a root
pub tree_short : (case : PlainProblem) (roots : List Cell) (c : Cell) → AreRoots case roots → InTree case roots c → c.last.micros < c.first.micros + 2 ^ 26
tree_short case roots c are tree =
    let root = tree.root in
    let short : IsShortCell root = each_at IsShortCell roots c.root root (each_from_All IsShortCell roots are.short) tree.at in
    let part = tree_within (ticks_kind case c.pair.a c.pair.b) root.first.micros root.last.micros c.first.micros c.last.micros tree.tree in
    omega (arith, short, part.from, part.to)

-- the halves of a cell of a tree that is halved are in it
pub tree_halves : (case : PlainProblem) (roots : List Cell) (c l r : Cell) → InTree case roots c → Halved case c l r → InTree case roots l × InTree case roots r
tree_halves case roots c l r tree halved =
    let halves = halved.halves in
    let more : c.first.micros < c.last.micros = omega (arith, l.some, r.some, halves.left_last, halves.right_first, ap (λ t. t.micros) halves.left_first, ap (λ t. t.micros) halves.right_last) in
    let none : ticks_kind case c.pair.a c.pair.b c.first.micros c.last.micros ≡ None = halved.open_cell in (
      record {
        root = tree.root;
        at = ap (λ (n : ℕ). slice_get roots n) halves.left_root ∙ tree.at;
        pair = halves.left_pair ∙ tree.pair;
        tree = rw (halves.left_pair, halves.left_first, halves.left_last) (left c.first.micros c.last.micros tree.tree more none);
      },
      record {
        root = tree.root;
        at = ap (λ (n : ℕ). slice_get roots n) halves.right_root ∙ tree.at;
        pair = halves.right_pair ∙ tree.pair;
        tree = rw (halves.right_pair, halves.right_first, halves.right_last) (right c.first.micros c.last.micros tree.tree more none);
      },
    )
