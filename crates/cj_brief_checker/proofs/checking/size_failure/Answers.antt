use Rattle.std.proofs.Common.{◌≡◌, true, false, ◌∙◌, rules}
use Rattle.std.specs.Prelude.{is_some}
use Rattle.std.specs.List.{enumerate_from}
use Rattle.cj_case.specs.Problems.{plain_problem}
use Rattle.cj_brief.specs.Certificates.{plain_brief}
use Rattle.cj_checker.specs.First.{header_failure, size_failure, first_line, first_unfit}
use Rattle.cj_checker.specs.Tests.{is_size_line}
use Rattle.cj_formats.specs.declared.check_cause.CheckCause.TheVariants.{SizeOf}
use Rattle.cj_brief_checker.specs.First.{in_full}
use Rattle.cj_brief_checker.proofs.CheckLemmas.{first_fails, next_fails}
use Rattle.cj_brief_checker.proofs.checking.size_failure.Goals as goal

pub returns-then-is_some : goal.returns-then-is_some
returns-then-is_some c =
    let case = plain_problem c.args.problem.now in
    let full = in_full (plain_brief c.args.cert.now) in
    let some : is_some c.header_failure-header.result ≡ true = search rules in
    first_fails c.header_failure-header.result (header_failure case full) (size_failure case full) c.header_failure-header.ensures some

pub returns : goal.returns
returns c =
    let case = plain_problem c.args.problem.now in
    let full = in_full (plain_brief c.args.cert.now) in
    let none : is_some c.header_failure-header.result ≡ false = search rules in
    let size : c.unfit_size.result ≡ size_failure case full =
    c.unfit_size.ensures
    ∙ (λ i. first_unfit is_size_line SizeOf first_line (enumerate_from 0 (c.as_slice.ensures.value i)) (c.deref.ensures.value i)) in
    next_fails c.header_failure-header.result (header_failure case full) (size_failure case full) c.unfit_size.result c.header_failure-header.ensures none size
