use Rattle.std.proofs.Common.{◌≡◌, ◌+◌, true, false, length, ◌∙◌, arith, rules}
use Rattle.std.specs.Prelude.{◌==◌, is_some}
use Rattle.cj_case.specs.Problems.{plain_problem}
use Rattle.cj_brief.specs.Certificates.{plain_brief}
use Rattle.cj_checker.specs.First.{first_line, first_unfit, header_failure, size_failure}
use Rattle.cj_formats.specs.declared.check_cause.CheckCause.TheVariants.{PrimaryOf}
use Rattle.cj_brief_checker.specs.First.{in_full, primary_failure}
use Rattle.cj_brief_checker.proofs.CheckLemmas.{fails_before, fails_next}
use Rattle.cj_brief_checker.proofs.checking.head_failure.Goals as goal

pub returns-then-is_some : goal.returns-then-is_some
returns-then-is_some c =
    let case = plain_problem c.args.problem.now in
    let cert = plain_brief c.args.cert.now in
    let full = in_full cert in
    let some : is_some c.size_failure-found.result ≡ true = search rules in
    fails_before c.size_failure-found.result (header_failure case full) (size_failure case full) (primary_failure case cert) c.size_failure-found.ensures some

pub returns : goal.returns
returns c =
    let case = plain_problem c.args.problem.now in
    let cert = plain_brief c.args.cert.now in
    let full = in_full cert in
    let none : is_some c.size_failure-found.result ≡ false = search rules in
    let at : 5 + c.len.result ≡ first_line + length c.args.cert.now.sizes.items = omega (arith, c.len.ensures) in
    let primary : c.unfit_primary.result ≡ primary_failure case cert =
    c.unfit_primary.ensures
    ∙ (λ i. first_unfit (λ object line. object == line) PrimaryOf (at i) ((c.deref.ensures.value ∙ c.in_ok-named.ensures) i) (c.deref-2.ensures.value i)) in
    fails_next c.size_failure-found.result (header_failure case full) (size_failure case full) (primary_failure case cert) c.unfit_primary.result c.size_failure-found.ensures none primary
