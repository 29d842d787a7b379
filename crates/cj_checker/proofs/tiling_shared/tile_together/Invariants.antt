use Rattle.std.proofs.Common.{◌≡◌, ℕ, ◌+◌, ◌*◌, ◌≤◌, List, ◌++◌, drop, length, map}
use Rattle.cj_case.specs.Problems.{plain_problem}
use Rattle.cj_case.specs.Cells.{PlainCell}
use Rattle.cj_cert.specs.Certificates.{plain_cell_line}
use Rattle.cj_checker.specs.First.{cells_from}
use Rattle.cj_checker.specs.Keys.{plain_key, roots_of_keys}
use Rattle.cj_checker.proofs.tiling_shared.tile_together.Given as goal

-- what is left fails as the whole
abbrev pub invariant-loop-number : goal.invariant-loop-number
invariant-loop-number g l =
    let case = plain_problem l.problem in
    record {
      place : l.at ≤ length l.cells;
      rest : (line : ℕ) (left : List PlainCell)
          → cells_from case (line + l.initial.at) (roots_of_keys case (map plain_key l.keys) ++ left) (drop l.initial.at (map plain_cell_line l.cells))
          ≡ cells_from case (line + l.at) (roots_of_keys case (map plain_key (drop (l.number * 4_096) l.keys)) ++ left) (drop l.at (map plain_cell_line l.cells));
    }
