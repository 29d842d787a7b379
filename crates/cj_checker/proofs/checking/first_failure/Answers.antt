use Rattle.std.proofs.Common.{◌≡◌, true, false, Option, Result, Ok, Err, sym, ◌∙◌, rules}
use Rattle.std.specs.Prelude.{is_some, IfOk}
use Rattle.std.specs.declared.alloc.AllocError.{AllocError}
use Rattle.std.proofs.lemmas.List.{length-map}
use Rattle.cj_track.specs.Tracks.{plain_track}
use Rattle.cj_case.specs.Problems.{plain_problem}
use Rattle.cj_cert.specs.Certificates.{plain_certificate}
use Rattle.cj_checker.specs.First.{cell_failure, first_failure, Failure}
use Rattle.cj_checker.proofs.CheckLemmas.{fails_before, fails_in_cells, same_count, same_shells}
use Rattle.cj_checker.proofs.checking.first_failure.Goals as goal

pub returns-then-is_some : goal.returns-then-is_some
returns-then-is_some g c =
    let some : is_some c.in_ok-found.found ≡ true = search rules in
    fails_before (plain_problem c.args.problem.now) (plain_certificate c.args.cert.now) c.in_ok-found.found c.in_ok-found.ensures some

pub cell_failure-requires-clause-objects : goal.cell_failure-requires-clause-objects
cell_failure-requires-clause-objects g c = λ lifetimes outlive.
    let none : is_some c.in_ok-found.found ≡ false = search rules in
    same_count (plain_problem c.args.problem.now) (plain_certificate c.args.cert.now) c.in_ok-found.found c.in_ok-found.ensures none ∙ length-map c.args.problem.now.tracks plain_track

pub cell_failure-requires-clause-shells : goal.cell_failure-requires-clause-shells
cell_failure-requires-clause-shells g c = λ lifetimes outlive.
    let none : is_some c.in_ok-found.found ≡ false = search rules in
    same_shells (plain_problem c.args.problem.now) (plain_certificate c.args.cert.now) c.in_ok-found.found c.in_ok-found.ensures none ∙ length-map c.args.problem.now.tracks plain_track

pub returns : goal.returns
returns g c =
    let case = plain_problem c.args.problem.now in
    let cert = plain_certificate c.args.cert.now in
    let none : is_some c.in_ok-found.found ≡ false = search rules in
    go (fails_in_cells case cert c.in_ok-found.found c.in_ok-found.ensures none) c.cell_failure.result c.cell_failure.ensures
  where
    go : first_failure (plain_problem c.args.problem.now) (plain_certificate c.args.cert.now) ≡ cell_failure (plain_problem c.args.problem.now) (plain_certificate c.args.cert.now)
        → (r : Result (Option Failure) AllocError) → IfOk r (λ found. found ≡ cell_failure (plain_problem c.args.problem.now) (plain_certificate c.args.cert.now))
        → IfOk r (λ found. found ≡ first_failure (plain_problem c.args.problem.now) (plain_certificate c.args.cert.now))
    go same (Ok found) is = is ∙ sym same
    go same (Err e) is = tt
