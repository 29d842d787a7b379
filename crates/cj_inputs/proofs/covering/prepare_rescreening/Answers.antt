use Rattle.std.proofs.Common.{ap, Err}
use Rattle.std.proofs.lemmas.Result.{err_from_is_err_and}
use Rattle.cj_words.specs.Commands.{plain_rescreening}
use Rattle.cj_inputs.specs.Coverings.{covering}
use Rattle.cj_inputs.specs.Updates.{plain_updating}
use Rattle.cj_inputs.proofs.CoveringLemmas.{both_covered, cases_unasked, cases_uncovered}
use Rattle.cj_inputs.proofs.EndLemmas.{same_cause}
use Rattle.cj_inputs.proofs.StepLemmas.{stops_unread}
use Rattle.cj_inputs.proofs.covering.prepare_rescreening.Goals as goal

pub returns-in_err-updating : goal.returns-in_err-updating
returns-in_err-updating g c =
    let s = c.in_err-updating.field-0.0 in
    let p = err_from_is_err_and c.from_residual.result c.from_residual.ensures.1 in
    rw (p.1, p.2)
    (record {
      between = c.in_err-updating.ensures.between;
      read = λ is. c.in_err-updating.ensures.read (ap Err (same_cause is));
      told = λ files told. cases_unasked _ files (plain_rescreening c.args.rescreening.now) s (c.in_err-updating.ensures.told files told);
      files = c.prepare_update.ensures.files;
      later = c.prepare_update.ensures.later;
    })

pub returns-in_err-judge_cover : goal.returns-in_err-judge_cover
returns-in_err-judge_cover g c =
    let asked = plain_rescreening c.args.rescreening.now in
    let cases = plain_updating c.in_ok-updating.updating in
    let s = c.in_err-judge_cover.field-0.0 in
    let p = err_from_is_err_and c.from_residual-in_err-judge_cover.result c.from_residual-in_err-judge_cover.ensures.1 in
    rw (p.1, p.2)
    (record {
      between = c.in_err-judge_cover.ensures.between;
      read = λ is. absurd (stops_unread s (covering asked.screening.settings.must_cover cases.new) c.in_err-judge_cover.ensures.told is);
      told = λ files told. cases_uncovered _ files asked cases s (c.in_ok-updating.ensures.told files told) c.in_err-judge_cover.ensures.told;
      files = c.prepare_update.ensures.files;
      later = c.prepare_update.ensures.later;
    })

pub returns-clause-told : goal.returns-clause-told
returns-clause-told g c files told =
    both_covered files (plain_rescreening c.args.rescreening.now) (plain_updating c.in_ok-updating.updating) _ (c.in_ok-updating.ensures.told files told) c.in_ok-judge_cover.ensures.told
