use Rattle.std.proofs.Common.{ap, Err}
use Rattle.std.proofs.lemmas.Result.{err_from_is_err_and}
use Rattle.cj_case.specs.Problems.{plain_problem}
use Rattle.cj_words.specs.Settings.{plain_settings}
use Rattle.cj_inputs.specs.Coverings.{covering}
use Rattle.cj_inputs.proofs.CoveringLemmas.{covered, unasked, uncovered}
use Rattle.cj_inputs.proofs.EndLemmas.{same_cause}
use Rattle.cj_inputs.proofs.StepLemmas.{stops_unread}
use Rattle.cj_inputs.proofs.covering.prepare_screening.Goals as goal

pub returns-in_err-problem : goal.returns-in_err-problem
returns-in_err-problem g c =
    let s = c.in_err-problem.field-0.0 in
    let p = err_from_is_err_and c.from_residual.result c.from_residual.ensures.1 in
    rw (p.1, p.2)
    (record {
      between = c.in_err-problem.ensures.between;
      read = λ is. c.in_err-problem.ensures.read (ap Err (same_cause is));
      told = λ files told. unasked _ files (plain_settings c.args.settings.now) s (c.in_err-problem.ensures.told files told);
      trim_same = λ files told. tt;
      files = c.prepare.ensures.files;
      later = c.prepare.ensures.later;
    })

pub returns-in_err-judge_cover : goal.returns-in_err-judge_cover
returns-in_err-judge_cover g c =
    let asked = plain_settings c.args.settings.now in
    let case = plain_problem c.in_ok-problem.problem in
    let s = c.in_err-judge_cover.field-0.0 in
    let p = err_from_is_err_and c.from_residual-in_err-judge_cover.result c.from_residual-in_err-judge_cover.ensures.1 in
    rw (p.1, p.2)
    (record {
      between = c.in_err-judge_cover.ensures.between;
      read = λ is. absurd (stops_unread s (covering asked.must_cover case) c.in_err-judge_cover.ensures.told is);
      told = λ files told. uncovered _ files asked case s (c.in_ok-problem.ensures.told files told) c.in_err-judge_cover.ensures.told;
      trim_same = λ files told. tt;
      files = c.prepare.ensures.files;
      later = c.prepare.ensures.later;
    })

pub returns-clause-told : goal.returns-clause-told
returns-clause-told g c files told =
    covered files (plain_settings c.args.settings.now) (plain_problem c.in_ok-problem.problem) _ (c.in_ok-problem.ensures.told files told) c.in_ok-judge_cover.ensures.told
