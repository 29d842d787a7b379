use Rattle.std.proofs.Common.{◌≡◌, ℕ, ◌<◌, true, map, get_or}
use Rattle.cj_case.specs.Problems.{plain_problem}
use Rattle.cj_case.specs.Boxes.{plain_boxes}
use Rattle.cj_cert.specs.declared.cert_lines.ShellLine.{ShellLine}
use Rattle.cj_checker.specs.declared.reach.Reach.{Reach}
use Rattle.cj_case.specs.Pairs.{AreBoth, ArePairsKept, HasPair}
use Rattle.cj_checker.specs.Keys.{candidate_with}
use Rattle.cj_checker.specs.Sweeps.{AreCandidates}
use Rattle.cj_checker.proofs.sweep.append_row.Given as goal

abbrev pub invariant-loop-other : goal.invariant-loop-other
invariant-loop-other l =
    let case = plain_problem l.problem in
    let shells = map (λ (line : ShellLine). line.shell) l.shells in
    let areas = plain_boxes l.boxes in
    record {
      candidate : AreCandidates case shells areas l.initial.pairs.items → AreCandidates case shells areas l.pairs.items;
      kept : ArePairsKept l.initial.pairs.items l.pairs.items;
      found : (k : ℕ) → k < l.other-index → (reach : Reach) → get_or l.others k reach ≡ reach → (a b : ℕ) → a < b → AreBoth l.one reach.object a b
          → candidate_with case shells areas (a, b) ≡ true → HasPair l.pairs.items a b;
    }
