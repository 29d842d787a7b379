-- Cells as plain facts, and the order of roots.
use Rattle.std.specs.Prelude.{ℕ, ◌≡◌, ◌<◌, ◌≤◌, List, map}
use Rattle.cj_case.specs.declared.cell.Cell.{Cell}

-- the ticks from first to last of the objects a and b, numbered from 0
pub record PlainCell : Type 0 where
  pub a : ℕ
  pub b : ℕ
  pub first : ℕ
  pub last : ℕ

-- r lies before s: in an earlier pair, or in the same pair at earlier ticks
pub record IsRootBefore (r s : PlainCell) : Type 0 where
  pub first_object : r.a ≤ s.a
  pub second_object : r.a ≡ s.a → r.b ≤ s.b
  pub ticks : r.a ≡ s.a → r.b ≡ s.b → r.last < s.first

-- r begins no later than s, in the order of pair and tick
pub record IsRootUpTo (r s : PlainCell) : Type 0 where
  pub first_object : r.a ≤ s.a
  pub second_object : r.a ≡ s.a → r.b ≤ s.b
  pub ticks : r.a ≡ s.a → r.b ≡ s.b → r.first ≤ s.first

-- the ticks of a cell
abbrev pub plain_cell : Cell → PlainCell
plain_cell cell = record { a = cell.pair.a; b = cell.pair.b; first = cell.first.micros; last = cell.last.micros }

abbrev pub plain_cells : List Cell → List PlainCell
plain_cells cells = map plain_cell cells
