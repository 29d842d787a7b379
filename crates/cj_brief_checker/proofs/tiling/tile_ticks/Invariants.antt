use Rattle.std.proofs.Common.{◌≡◌, ℕ, ◌+◌, ◌-◌, ◌≤◌, false, List, ◌++◌, drop, length, map}
use Rattle.cj_case.specs.Problems.{plain_problem}
use Rattle.cj_case.specs.Cells.{PlainCell}
use Rattle.cj_hermite.specs.Roots.{roots_between}
use Rattle.cj_cert.specs.Certificates.{plain_cell_line}
use Rattle.cj_brief_checker.specs.First.{told_from}
use Rattle.cj_brief_checker.proofs.tiling.tile_ticks.Given as goal

-- what is left fails as the whole
abbrev pub invariant-loop-run : goal.invariant-loop-run
invariant-loop-run l =
    let case = plain_problem l.problem in
    let a = l.pair.a in
    let b = l.pair.b in
    record {
      within : l.from.micros ≤ l.ticks.last.micros;
      place : l.at ≤ length l.cells;
      rest : (line : ℕ) (left : List PlainCell)
          → told_from case (drop l.initial.at (map plain_cell_line l.cells)) (line + l.initial.at) false (roots_between case a b l.ticks.first.micros l.ticks.last.micros ++ left)
          ≡ told_from case (drop l.at (map plain_cell_line l.cells)) (line + l.at) false (roots_between case a b l.from.micros l.ticks.last.micros ++ left);
    }

abbrev pub decreases-loop-run : goal.decreases-loop-run
decreases-loop-run l = l.ticks.last.micros - l.from.micros
