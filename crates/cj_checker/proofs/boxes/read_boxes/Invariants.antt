use Rattle.std.proofs.Common.{◌≡◌, ◌≤◌, ◌-◌, ℕ, length, map}
use Rattle.cj_case.specs.Problems.{plain_problem}
use Rattle.cj_cert.specs.Certificates.{plain_box_line}
use Rattle.cj_checker.specs.Walks.{IsWalk}
use Rattle.cj_checker.proofs.ReadLemmas.{from_slot}
use Rattle.cj_checker.proofs.boxes.read_boxes.Given as goal

-- what is left fails as the lines from the first one on
abbrev pub invariant-loop-passed : goal.invariant-loop-passed
invariant-loop-passed l =
    let case = plain_problem l.course.problem.now in
    let boxes = map plain_box_line l.lines in
    record {
      place : l.passed ≤ length l.lines;
      walks : IsWalk l.course l.walk;
      rest : (line : ℕ) → from_slot case line boxes l.at l.object 0 ≡ from_slot case line boxes l.passed l.object l.slot;
    }

abbrev pub decreases-loop-passed : goal.decreases-loop-passed
decreases-loop-passed l = length l.lines - l.passed
