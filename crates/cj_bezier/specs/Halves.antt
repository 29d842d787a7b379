-- The halves of a cell.
use Rattle.std.specs.Prelude.{◌≡◌, ◌+◌}
use Rattle.cj_case.specs.declared.cell.Cell.{Cell}
use Rattle.cj_bezier.specs.Halving.{middle}

-- the halves of a cell: up to its middle tick, and from the next one on
pub record AreHalves (cell left right : Cell) : Type 0 where
  pub left_pair : left.pair ≡ cell.pair
  pub left_root : left.root ≡ cell.root
  pub left_first : left.first ≡ cell.first
  pub left_last : left.last.micros ≡ middle cell.first.micros cell.last.micros
  pub right_pair : right.pair ≡ cell.pair
  pub right_root : right.root ≡ cell.root
  pub right_first : right.first.micros ≡ middle cell.first.micros cell.last.micros + 1
  pub right_last : right.last ≡ cell.last
