use Rattle.std.proofs.Common.{◌≡◌, ◌∙◌, ◌-◌, ◌≤◌, ◌/◌, ℕ, true, ap, arith, subst}
use Rattle.cj_track.specs.Tracks.{plain_track}
use Rattle.cj_case.specs.Problems.{plain_problem}
use Rattle.cj_hermite.specs.Walks.{HasNone, IsNextRun}
use Rattle.cj_cert.specs.Accepted.{has_state_in}
use Rattle.cj_checker.specs.Places.{slots_from}
use Rattle.cj_checker.proofs.PlaceLemmas.{no_slot, run_is_first, skipped, slot_here, first_has_state}
use Rattle.cj_checker.proofs.places.next_slot.Goals as goal

pub returns-in_err-run-clause-none : goal.returns-in_err-run-clause-none
returns-in_err-run-clause-none c =
    let case = plain_problem c.args.problem.now in
    let e = plain_track c.args.track.now in
    let none = subst (λ (k : ℕ). HasNone e k case.last) c.in_ok-ticks.ensures.first c.in_err-run.ensures.run in
    rw c.from_residual-in_err-run.ensures (no_slot case e c.args.slot none)

pub returns-clause-same : goal.returns-clause-same
returns-clause-same c =
    let case = plain_problem c.args.problem.now in
    let e = plain_track c.args.track.now in
    let run = c.in_ok-run.run'.ticks in
    let first = run_is_first case e c.args.slot run (subst (λ (k : ℕ). IsNextRun e k case.last run) c.in_ok-ticks.ensures.first c.in_ok-run.ensures.run)
    (subst (λ (k : ℕ). k ≤ run.first.micros) c.in_ok-ticks.ensures.first c.in_ok-run.ensures.after) in
    let since : run.first.micros - case.first ≡ c.since.result = omega (arith, c.since.ensures) in
    skipped case e c.args.slot run.first.micros first ∙ ap (λ (n : ℕ). slots_from case e (n / 60_000_000)) since

pub returns-clause-first : goal.returns-clause-first
returns-clause-first c =
    let case = plain_problem c.args.problem.now in
    let e = plain_track c.args.track.now in
    let run = c.in_ok-run.run'.ticks in
    let first = run_is_first case e c.args.slot run (subst (λ (k : ℕ). IsNextRun e k case.last run) c.in_ok-ticks.ensures.first c.in_ok-run.ensures.run)
    (subst (λ (k : ℕ). k ≤ run.first.micros) c.in_ok-ticks.ensures.first c.in_ok-run.ensures.after) in
    let since : run.first.micros - case.first ≡ c.since.result = omega (arith, c.since.ensures) in
    slot_here case e (c.since.result / 60_000_000) (subst (λ (n : ℕ). has_state_in case e (n / 60_000_000) ≡ true) since (first_has_state case e c.args.slot run.first.micros first))
