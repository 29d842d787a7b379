-- The halving trees of the roots, over cells.
use Rattle.std.specs.Prelude.{◌≡◌, ℕ, ◌+◌, List, Option, Some, None, slice_get}
use Rattle.cj_case.specs.PlainProblems.{PlainProblem}
use Rattle.cj_case.specs.declared.cell.Cell.{Cell}
use Rattle.cj_case.specs.declared.leaf.Leaf.{Leaf}
use Rattle.cj_case.specs.declared.kind.Kind.{Kind}
use Rattle.cj_case.specs.Cells.{plain_cell}
use Rattle.cj_bezier.specs.Halves.{AreHalves}
use Rattle.cj_bezier.specs.Halving.{InHalving}
use Rattle.cj_bezier.specs.RootLeaves.{kind_of_cell}
use Rattle.cj_pool.specs.RootLists.{IsKept}

-- what these ticks of the objects a and b are closed as, none where they are halved
abbrev pub ticks_kind : PlainProblem → ℕ → ℕ → ℕ → ℕ → Option Kind
ticks_kind case a b lo hi = kind_of_cell case record { a = a; b = b; first = lo; last = hi }

-- the cell is in the halving tree of the root at its number
pub record InTree (case : PlainProblem) (roots : List Cell) (c : Cell) : Type 0 where
  pub root : Cell
  pub at : slice_get roots c.root ≡ Some root
  pub pair : c.pair ≡ root.pair
  pub tree : InHalving (ticks_kind case c.pair.a c.pair.b) root.first.micros root.last.micros c.first.micros c.last.micros

-- a cell of the tree that is closed, as what it is
pub record IsLeafOf (case : PlainProblem) (roots : List Cell) (l : Leaf) : Type 0 where
  pub tree : InTree case roots l.cell
  pub kind : kind_of_cell case (plain_cell l.cell) ≡ Some l.kind

-- a cell that is halved, and its halves
pub record Halved (case : PlainProblem) (c left right : Cell) : Type 0 where
  pub halves : AreHalves c left right
  pub open_cell : kind_of_cell case (plain_cell c) ≡ None

-- a weight that a cell has as its two halves together
abbrev pub IsShared : PlainProblem → (Cell → ℕ) → Type 0
IsShared case w = (c left right : Cell) → IsKept case c → Halved case c left right → w c ≡ w left + w right
