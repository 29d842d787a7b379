use Rattle.std.proofs.Common.{◌≡◌, ◌≤◌, ◌+◌, length, map}
use Rattle.std.specs.List.{enumerate_from}
use Rattle.cj_case.specs.Problems.{plain_problem}
use Rattle.cj_cert.specs.Certificates.{plain_box_line, plain_certificate}
use Rattle.cj_formats.specs.declared.check_cause.CheckCause.TheVariants.{ShellOf}
use Rattle.cj_checker.specs.BoxesRead.{fails_behind}
use Rattle.cj_checker.specs.First.{box_failure, first_box_line, first_line, first_unfit}
use Rattle.cj_checker.specs.Places.{places_from}
use Rattle.cj_checker.specs.Tests.{is_shell_line}
use Rattle.cj_checker.proofs.UnfitLemmas.{unfit_from}
use Rattle.cj_checker.proofs.shells.hull_failure.Given as goal

-- what is left of both fails as the whole
abbrev pub invariant-loop-line : goal.invariant-loop-line
invariant-loop-line g l =
    let case = plain_problem l.problem in
    let cert = plain_certificate l.cert in
    let fits = is_shell_line case.first case.last in
    let line = first_line + length l.cert.sizes.items in
    let objects = enumerate_from 0 case.tracks in
    let boxes = map plain_box_line l.cert.boxes.items in
    record {
      place : l.object ≡ l.line-index;
      passed : l.read.passed ≤ length l.cert.boxes.items;
      shells : first_unfit fits ShellOf line objects l.cert.shells.items ≡ unfit_from fits ShellOf line objects l.cert.shells.items l.object;
      boxes : box_failure case cert ≡ fails_behind case (first_box_line cert) (places_from case l.object 0) boxes l.read;
    }
