use Rattle.std.proofs.Common.{◌≡◌, ◌+◌, ◌-◌, ◌≤◌, drop, length, map}
use Rattle.cj_case.specs.Problems.{plain_problem}
use Rattle.cj_cert.specs.Certificates.{plain_cell_line, plain_certificate}
use Rattle.cj_cert.specs.Listed.{is_candidate_listed}
use Rattle.cj_checker.specs.First.{cell_failure, cells_from, first_cell_line}
use Rattle.cj_checker.specs.Keys.{roots_in_rows}
use Rattle.cj_checker.proofs.cells.first_fault.Given as goal

-- what is left fails as the whole
abbrev pub invariant-loop-first : goal.invariant-loop-first
invariant-loop-first g l =
    let case = plain_problem l.problem in
    let c = plain_certificate l.cert in
    record {
      within : l.first ≤ length l.problem.tracks;
      place : l.at ≤ length l.cert.cells.items;
      rest : cell_failure case c ≡ cells_from case (first_cell_line c + l.at) (roots_in_rows (is_candidate_listed case c) case l.first (length case.tracks)) (drop l.at (map plain_cell_line l.cert.cells.items));
    }

abbrev pub decreases-loop-first : goal.decreases-loop-first
decreases-loop-first g l = length l.problem.tracks - l.first
