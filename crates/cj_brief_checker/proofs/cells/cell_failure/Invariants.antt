use Rattle.std.proofs.Common.{◌≡◌, ◌+◌, ◌≤◌, false, drop, length, map}
use Rattle.cj_case.specs.Problems.{plain_problem}
use Rattle.cj_brief.specs.Certificates.{plain_brief}
use Rattle.cj_cert.specs.Certificates.{plain_cell_line}
use Rattle.cj_brief_checker.specs.First.{first_cell_line, told_failure, told_from}
use Rattle.cj_brief_checker.proofs.SlotLemmas.{roots_from}
use Rattle.cj_brief_checker.proofs.cells.cell_failure.Given as goal

-- what is left fails as the whole
abbrev pub invariant-loop-slot : goal.invariant-loop-slot
invariant-loop-slot g l =
    let case = plain_problem l.problem in
    let c = plain_brief l.cert in
    record {
      place : l.at ≤ length l.cert.cells.items;
      rest : told_failure case c ≡ told_from case (drop l.at (map plain_cell_line l.cert.cells.items)) (first_cell_line c + l.at) false (roots_from case c l.slot);
    }
