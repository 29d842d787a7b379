-- Lists of cells and of leaves as they grow.
use Rattle.std.specs.Prelude.{ℕ, List, map, length, drop}
use Rattle.cj_case.specs.declared.cell.Cell.{Cell}
use Rattle.cj_case.specs.declared.leaf.Leaf.{Leaf}
use Rattle.cj_case.specs.Leaves.{PlainLeaf, plain_leaves}
use Rattle.cj_case.specs.Cells.{plain_cells}
use Rattle.cj_case.specs.Cells.{PlainCell}

-- the number of each cell's root
abbrev pub root_numbers : List Cell → List ℕ
root_numbers cells = map (λ cell. cell.root) cells

-- what was added to a list of cells, as roots
abbrev pub added_roots : List Cell → List Cell → List PlainCell
added_roots old new = plain_cells (drop (length old) new)

-- what was added to a list of leaves, as leaves
abbrev pub added_leaves : List Leaf → List Leaf → List PlainLeaf
added_leaves old new = plain_leaves (drop (length old) new)
