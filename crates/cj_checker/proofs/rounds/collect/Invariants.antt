use Rattle.std.proofs.Common.{ℕ, ◌<◌, ◌≤◌, length}
use Rattle.cj_case.specs.Problems.{plain_problem}
use Rattle.cj_case.specs.Slots.{slot_count}
use Rattle.cj_cert.specs.Certificates.{plain_certificate}
use Rattle.cj_cert.specs.Listed.{is_candidate_listed}
use Rattle.cj_checker.specs.Keys.{AreKeysIn, HasKey, IsKeyIn}
use Rattle.cj_checker.proofs.rounds.collect.Given as goal

abbrev pub invariant-loop-slot : goal.invariant-loop-slot
invariant-loop-slot l =
    let case = plain_problem l.problem in
    let candidate = is_candidate_listed case (plain_certificate l.cert) in
    let slots = slot_count case.first case.last in
    record {
      some : l.first < l.end;
      within : l.end ≤ length l.problem.tracks;
      keys : AreKeysIn candidate l.first l.end (length l.problem.tracks) slots l.keys.items;
      found : (k : ℕ) → k < l.slot → (a b : ℕ) → IsKeyIn candidate l.first l.end (length l.problem.tracks) slots (record { a = a; b = b; slot = k }) → HasKey l.keys.items a b k;
    }
