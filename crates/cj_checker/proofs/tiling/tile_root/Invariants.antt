use Rattle.std.proofs.Common.{◌≡◌, ℕ, ◌+◌, ◌-◌, ◌≤◌, List, ◌∷◌, drop, length, map}
use Rattle.cj_case.specs.PlainProblems.{PlainProblem}
use Rattle.cj_case.specs.Cells.{PlainCell}
use Rattle.cj_cert.specs.Certificates.{plain_cell_line}
use Rattle.cj_checker.specs.First.{cells_from}
use Rattle.cj_checker.specs.Tiling.{IsOf, root_from}
use Rattle.cj_checker.proofs.tiling.tile_root.Given as goal

-- what is left fails as the whole
abbrev pub invariant-loop-at : goal.invariant-loop-at
invariant-loop-at l = record {
  low : l.root.ticks.first.micros ≤ l.from.micros;
  high : l.from.micros ≤ l.root.ticks.last.micros;
  place : l.at ≤ length l.cells;
  rest : (case : PlainProblem) → IsOf case l.root → (line : ℕ) (left : List PlainCell)
      → cells_from case (line + l.initial.at) (root_from l.root l.root.ticks.first.micros ∷ left) (drop l.initial.at (map plain_cell_line l.cells))
      ≡ cells_from case (line + l.at) (root_from l.root l.from.micros ∷ left) (drop l.at (map plain_cell_line l.cells));
}

abbrev pub decreases-loop-at : goal.decreases-loop-at
decreases-loop-at l = length l.cells - l.at
