use Rattle.std.proofs.Common.{◌≡◌, ℕ, ◌+◌, ◌-◌, ◌≤◌, false, List, ◌∷◌, drop, length, map}
use Rattle.cj_case.specs.PlainProblems.{PlainProblem}
use Rattle.cj_case.specs.Cells.{PlainCell}
use Rattle.cj_cert.specs.Certificates.{plain_cell_line}
use Rattle.cj_checker.specs.Tiling.{IsOf, root_from}
use Rattle.cj_brief_checker.specs.First.{told_from}
use Rattle.cj_brief_checker.proofs.tiling.tile_root.Given as goal

-- what is left fails as the whole
abbrev pub invariant-loop-at : goal.invariant-loop-at
invariant-loop-at l = record {
  low : l.root.ticks.first.micros ≤ l.from.micros;
  high : l.from.micros ≤ l.root.ticks.last.micros;
  place : l.at ≤ length l.cells;
  whole : l.begun ≡ false → l.from.micros ≡ l.root.ticks.first.micros;
  rest : (case : PlainProblem) → IsOf case l.root → case.first ≡ l.first.micros → (line : ℕ) (left : List PlainCell)
      → told_from case (drop l.initial.at (map plain_cell_line l.cells)) (line + l.initial.at) false (root_from l.root l.root.ticks.first.micros ∷ left)
      ≡ told_from case (drop l.at (map plain_cell_line l.cells)) (line + l.at) l.begun (root_from l.root l.from.micros ∷ left);
}

abbrev pub decreases-loop-at : goal.decreases-loop-at
decreases-loop-at l = length l.cells - l.at
