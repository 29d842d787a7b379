use Rattle.std.proofs.Common.{◌≡◌, ℕ, ◌+◌, ◌≤◌, false, List, ◌++◌, drop, length, map}
use Rattle.cj_case.specs.Pairs.{objects_of}
use Rattle.cj_case.specs.Problems.{plain_problem}
use Rattle.cj_case.specs.Cells.{PlainCell}
use Rattle.cj_hermite.specs.Roots.{roots_in_slot}
use Rattle.cj_cert.specs.Certificates.{plain_cell_line}
use Rattle.cj_brief_checker.specs.First.{told_from}
use Rattle.cj_brief_checker.proofs.tiling.tile_slot.Given as goal

-- what is left fails as the whole
abbrev pub invariant-loop-pair : goal.invariant-loop-pair
invariant-loop-pair l =
    let case = plain_problem l.problem in
    record {
      cuts : l.scratch.cuts ≡ l.problem;
      place : l.at ≤ length l.cells;
      rest : (line : ℕ) (left : List PlainCell)
          → told_from case (drop l.initial.at (map plain_cell_line l.cells)) (line + l.initial.at) false (roots_in_slot case l.slot (map objects_of l.pairs) ++ left)
          ≡ told_from case (drop l.at (map plain_cell_line l.cells)) (line + l.at) false (roots_in_slot case l.slot (map objects_of (drop l.pair-index l.pairs)) ++ left);
    }
