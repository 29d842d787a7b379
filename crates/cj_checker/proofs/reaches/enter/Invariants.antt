use Rattle.std.proofs.Common.{ℕ, ◌<◌, ◌≤◌, length, map}
use Rattle.std.specs.Prelude.{All}
use Rattle.cj_case.specs.Problems.{plain_problem}
use Rattle.cj_case.specs.Boxes.{plain_boxes}
use Rattle.cj_cert.specs.declared.cert_lines.ShellLine.{ShellLine}
use Rattle.cj_checker.specs.Sweeps.{HasReach}
use Rattle.cj_checker.proofs.reaches.enter.Given as goal

abbrev pub invariant-loop-object : goal.invariant-loop-object
invariant-loop-object l = record {
  exist : All (λ reach. reach.object < length l.problem.tracks) l.reaches.items;
  entered : (k : ℕ) → k < l.object → l.first ≤ k → HasReach (plain_problem l.problem) (map (λ (line : ShellLine). line.shell) l.shells) (plain_boxes l.boxes) l.layout l.reaches.items k;
}
