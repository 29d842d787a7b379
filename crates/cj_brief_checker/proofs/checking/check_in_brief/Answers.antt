use Rattle.std.proofs.Common.{sym, ap, ◌∙◌}
use Rattle.cj_case.specs.Problems.{plain_problem}
use Rattle.cj_brief.specs.Certificates.{plain_brief}
use Rattle.cj_checker.specs.Answers.{failure_of}
use Rattle.cj_checker.proofs.CheckLemmas.{none_accepted}
use Rattle.cj_brief_checker.proofs.FirstLemmas.{first_law}
use Rattle.cj_brief_checker.proofs.checking.check_in_brief.Goals as goal

pub returns-clause-exact : goal.returns-clause-exact
returns-clause-exact g c =
    let law = first_law (plain_problem c.args.problem.now) (plain_brief c.args.cert.now) in
    let same = c.answer_of.ensures ∙ c.in_ok-found.ensures in (
      λ is. law.0 (sym same ∙ ap failure_of is),
      λ accepted. none_accepted c.answer_of.result (same ∙ law.1 accepted),
    )
