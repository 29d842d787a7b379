use Rattle.std.proofs.Common.{refl}
use Rattle.std.proofs.lemmas.Result.{err_from_is_err_and}
use Rattle.cj_words.specs.Commands.{plain_rescreening, plain_screening, plain_thinning}
use Rattle.cj_case.specs.Problems.{plain_problem}
use Rattle.cj_inputs.specs.Alone.{plain_tracks}
use Rattle.cj_inputs.specs.Updates.{plain_updating}
use Rattle.cj_io.specs.Faults.{Rose}
use Rattle.cj_outputs.proofs.AcceptingLemmas.{same_error}
use Rattle.cj_screen.proofs.ResultLemmas.{count_stays, no_error}
use Rattle.cj_screen.proofs.TaskLemmas.{no_case, no_cases, no_tracks, rescreened_cases, screened_case, the_first, thinned_tracks}
use Rattle.cj_screen.proofs.reading.read_asked.Goals as goal

pub returns-in_ok-problem-in-Screen : goal.returns-in_ok-problem-in-Screen
returns-in_ok-problem-in-Screen g c =
    let prepared = c.in_ok-problem-in-Screen.ensures in
    let screening = plain_screening c.in-Screen.screening in
    let case = plain_problem c.in_ok-problem-in-Screen.problem in
    rw c.in-Screen.is (record {
      between = tt;
      read = no_error;
      told = λ files now either. screened_case files now screening case (prepared.told files (the_first either (λ none. none)));
      readies = λ files told. (prepared.told files told, refl);
      unread = tt;
      files = prepared.files;
      later = prepared.later;
    })

pub returns-in_err-problem-in-Screen : goal.returns-in_err-problem-in-Screen
returns-in_err-problem-in-Screen g c =
    let prepared = c.in_err-problem-in-Screen.ensures in
    let screening = plain_screening c.in-Screen.screening in
    let rose = Rose (g.F.Folder.faults c.args.folder.now) (g.F.Folder.faults c.prepare_screening.new.folder) in
    let p = err_from_is_err_and c.from_residual.result c.from_residual.ensures.1 in
    rw (p.1, p.2, c.in-Screen.is) (record {
      between = prepared.between;
      read = λ is. prepared.read (same_error is);
      told = λ files now either. no_case rose files now screening c.in_err-problem-in-Screen.field-0.0 (prepared.told files (the_first either (λ none. none)));
      readies = λ files told. tt;
      unread = tt;
      files = prepared.files;
      later = prepared.later;
    })

pub returns-in_ok-check_certificate-in-Check : goal.returns-in_ok-check_certificate-in-Check
returns-in_ok-check_certificate-in-Check g c =
    let checked = c.in_ok-check_certificate-in-Check.ensures in
    rw c.in-Check.is (record {
      between = tt;
      read = no_error;
      told = λ files now either. checked.told files (the_first either (λ none. none));
      readies = checked.vouches;
      unread = tt;
      files = checked.files;
      later = checked.later;
    })

pub returns-in_err-check_certificate-in-Check : goal.returns-in_err-check_certificate-in-Check
returns-in_err-check_certificate-in-Check g c =
    let checked = c.in_err-check_certificate-in-Check.ensures in
    let p = err_from_is_err_and c.from_residual-in_err-check_certificate-in-Check.result c.from_residual-in_err-check_certificate-in-Check.ensures.1 in
    rw (p.1, p.2, c.in-Check.is) (record {
      between = checked.between;
      read = λ is. checked.read (same_error is);
      told = λ files now either. checked.told files (the_first either (λ none. none));
      readies = λ files told. tt;
      unread = tt;
      files = checked.files;
      later = checked.later;
    })

pub returns-in-Generate : goal.returns-in-Generate
returns-in-Generate g c =
    rw c.in-Generate.is (record {
      between = tt;
      read = no_error;
      told = λ files now either. refl;
      readies = λ files told. tt;
      unread = tt;
      files = refl;
      later = count_stays _;
    })

pub returns-in-Selfrun : goal.returns-in-Selfrun
returns-in-Selfrun g c =
    rw c.in-Selfrun.is (record {
      between = tt;
      read = no_error;
      told = λ files now either. refl;
      readies = λ files told. tt;
      unread = tt;
      files = refl;
      later = count_stays _;
    })

pub returns-in_ok-certificate-in-Rewrite : goal.returns-in_ok-certificate-in-Rewrite
returns-in_ok-certificate-in-Rewrite g c =
    let rewritten = c.in_ok-certificate-in-Rewrite.ensures in
    rw c.in-Rewrite.is (record {
      between = tt;
      read = no_error;
      told = λ files now either. rewritten.told files (the_first either (λ none. none));
      readies = rewritten.renews;
      unread = tt;
      files = rewritten.files;
      later = rewritten.later;
    })

pub returns-in_err-certificate-in-Rewrite : goal.returns-in_err-certificate-in-Rewrite
returns-in_err-certificate-in-Rewrite g c =
    let rewritten = c.in_err-certificate-in-Rewrite.ensures in
    let p = err_from_is_err_and c.from_residual-in_err-certificate-in-Rewrite.result c.from_residual-in_err-certificate-in-Rewrite.ensures.1 in
    rw (p.1, p.2, c.in-Rewrite.is) (record {
      between = rewritten.between;
      read = λ is. rewritten.read (same_error is);
      told = λ files now either. rewritten.told files (the_first either (λ none. none));
      readies = λ files told. tt;
      unread = tt;
      files = rewritten.files;
      later = rewritten.later;
    })

pub returns-in_ok-lone-in-Thin : goal.returns-in_ok-lone-in-Thin
returns-in_ok-lone-in-Thin g c =
    let read = c.in_ok-lone-in-Thin.ensures in
    let thinning = plain_thinning c.in-Thin.thinning in
    let tracks = plain_tracks c.in_ok-lone-in-Thin.lone in
    rw c.in-Thin.is (record {
      between = tt;
      read = no_error;
      told = λ files now either. thinned_tracks files thinning tracks (read.told files (the_first either (λ none. none)));
      readies = λ files told. (read.told files told, refl);
      unread = tt;
      files = read.files;
      later = read.later;
    })

pub returns-in_err-lone-in-Thin : goal.returns-in_err-lone-in-Thin
returns-in_err-lone-in-Thin g c =
    let read = c.in_err-lone-in-Thin.ensures in
    let thinning = plain_thinning c.in-Thin.thinning in
    let rose = Rose (g.F.Folder.faults c.args.folder.now) (g.F.Folder.faults c.read_alone.new.folder) in
    let p = err_from_is_err_and c.from_residual-in_err-lone-in-Thin.result c.from_residual-in_err-lone-in-Thin.ensures.1 in
    rw (p.1, p.2, c.in-Thin.is) (record {
      between = read.between;
      read = λ is. read.read (same_error is);
      told = λ files now either. no_tracks rose files thinning c.in_err-lone-in-Thin.field-0.0 (read.told files (the_first either (λ none. none)));
      readies = λ files told. tt;
      unread = tt;
      files = read.files;
      later = read.later;
    })

pub returns-in_ok-updating-in-Rescreen : goal.returns-in_ok-updating-in-Rescreen
returns-in_ok-updating-in-Rescreen g c =
    let prepared = c.in_ok-updating-in-Rescreen.ensures in
    let asked = plain_rescreening c.in-Rescreen.rescreening in
    let cases = plain_updating c.in_ok-updating-in-Rescreen.updating in
    rw c.in-Rescreen.is (record {
      between = tt;
      read = no_error;
      told = λ files now either. rescreened_cases files now asked cases (prepared.told files (the_first either (λ none. none)));
      readies = λ files told. (prepared.told files told, refl);
      unread = tt;
      files = prepared.files;
      later = prepared.later;
    })

pub returns-in_err-updating-in-Rescreen : goal.returns-in_err-updating-in-Rescreen
returns-in_err-updating-in-Rescreen g c =
    let prepared = c.in_err-updating-in-Rescreen.ensures in
    let asked = plain_rescreening c.in-Rescreen.rescreening in
    let rose = Rose (g.F.Folder.faults c.args.folder.now) (g.F.Folder.faults c.prepare_rescreening.new.folder) in
    let p = err_from_is_err_and c.from_residual-in_err-updating-in-Rescreen.result c.from_residual-in_err-updating-in-Rescreen.ensures.1 in
    rw (p.1, p.2, c.in-Rescreen.is) (record {
      between = prepared.between;
      read = λ is. prepared.read (same_error is);
      told = λ files now either. no_cases rose files now asked c.in_err-updating-in-Rescreen.field-0.0 (prepared.told files (the_first either (λ none. none)));
      readies = λ files told. tt;
      unread = tt;
      files = prepared.files;
      later = prepared.later;
    })
