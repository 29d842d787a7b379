-- The roots of a run.
use Rattle.std.specs.Prelude.{◌≡◌, ◌+◌, ◌<◌, List, All, AllPairs, length}
use Rattle.std.specs.List.{range_with_len}
use Rattle.cj_case.specs.PlainProblems.{PlainProblem}
use Rattle.cj_hermite.specs.Roots.{KeepPieces}
use Rattle.cj_case.specs.Cells.{IsRootBefore}
use Rattle.cj_case.specs.declared.cell.Cell.{Cell}
use Rattle.cj_case.specs.Cells.{plain_cells}
use Rattle.cj_cells.specs.Cells.{root_numbers}

-- each of its objects is in one piece over the ticks of the cell
abbrev pub IsKept : PlainProblem → Cell → Type 0
IsKept case c = KeepPieces case c.pair.a c.pair.b c.first.micros c.last.micros

-- at most a minute of ticks
abbrev pub IsShortCell : Cell → Type 0
IsShortCell c = c.last.micros < c.first.micros + 60_000_000

-- roots in order of pair and tick, none over another, each with its place as its number
pub record AreRoots (case : PlainProblem) (roots : List Cell) : Type 0 where
  pub keep : All (IsKept case) roots
  pub short : All IsShortCell roots
  pub ordered : AllPairs IsRootBefore (plain_cells roots)
  pub numbered : root_numbers roots ≡ range_with_len 0 (length roots)
