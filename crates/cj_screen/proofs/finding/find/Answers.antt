use Rattle.std.proofs.Common.{Ok, inl, inr, refl, ap, sym, ◌∙◌}
use Rattle.std.proofs.lemmas.Result.{err_from_is_err_and}
use Rattle.cj_outputs.specs.Findings.{outputs_in}
use Rattle.cj_outputs.specs.Messages.{PlainOrigin}
use Rattle.cj_outputs.specs.Outcome.{outputs_made}
use Rattle.cj_screen.specs.declared.task.Task.TheVariants.{Screen, Selfrun}
use Rattle.cj_screen.proofs.TaskLemmas.{comes_of_search, ends_again, shown_again, shows_accepted, shows_made, shows_renewed, shows_screened, shows_thinned}
use Rattle.cj_screen.proofs.finding.find.Goals as goal

pub returns-in_ok-found-in-Screen : goal.returns-in_ok-found-in-Screen
returns-in_ok-found-in-Screen g c =
    let found = c.in_ok-found-in-Screen.ensures in
    rw c.in-Screen.is (record {
      ends = tt;
      told = found.told c.args.now.micros ∙ ap (λ (o : PlainOrigin). Ok (outputs_in o c.in_ok-found-in-Screen.found)) (sym c.of.ensures);
      due = found.found;
      shows = λ files command readies.
          shows_screened command files c.in-Screen.problem c.in-Screen.screening c.in_ok-found-in-Screen.found c.of.result readies (found.reports files);
    })

pub returns-in_err-found-in-Screen : goal.returns-in_err-found-in-Screen
returns-in_err-found-in-Screen g c =
    let s = c.in_err-found-in-Screen.field-0.0 in
    let found = c.in_err-found-in-Screen.ensures in
    let p = err_from_is_err_and c.from_residual.result c.from_residual.ensures.1 in
    rw (p.1, p.2, c.in-Screen.is) (record {
      ends = comes_of_search (Screen c.in-Screen.problem c.in-Screen.screening) s (λ none. none) found.ends;
      told = found.told c.args.now.micros;
      due = tt;
      shows = λ files command readies. tt;
    })

pub returns-in-Accept : goal.returns-in-Accept
returns-in-Accept g c = rw c.in-Accept.is (record { ends = tt; told = refl; due = tt; shows = λ files command readies. shows_accepted command files readies })

pub returns-in_ok-catalogue-in-Make : goal.returns-in_ok-catalogue-in-Make
returns-in_ok-catalogue-in-Make g c =
    rw c.in-Make.is (record {
      ends = tt;
      told = ap (λ made. Ok (outputs_made made)) (sym c.in_ok-catalogue-in-Make.ensures);
      due = tt;
      shows = λ files command readies. shows_made command files _ _ (inl tt) readies;
    })

pub returns-in_err-catalogue-in-Make : goal.returns-in_err-catalogue-in-Make
returns-in_err-catalogue-in-Make g c =
    let p = err_from_is_err_and c.from_residual-in_err-catalogue-in-Make.result c.from_residual-in_err-catalogue-in-Make.ensures.1 in
    rw (p.1, p.2, c.in-Make.is) (record { ends = tt; told = tt; due = tt; shows = λ files command readies. tt })

pub returns-in_ok-selfrun_catalogue-in-Selfrun : goal.returns-in_ok-selfrun_catalogue-in-Selfrun
returns-in_ok-selfrun_catalogue-in-Selfrun g c =
    let selfrun = c.in_ok-selfrun_catalogue-in-Selfrun.ensures in
    rw c.in-Selfrun.is (record { ends = tt; told = selfrun.told; due = selfrun.found; shows = λ files command readies. shows_made command files _ _ (inr tt) readies })

pub returns-in_err-selfrun_catalogue-in-Selfrun : goal.returns-in_err-selfrun_catalogue-in-Selfrun
returns-in_err-selfrun_catalogue-in-Selfrun g c =
    let s = c.in_err-selfrun_catalogue-in-Selfrun.field-0.0 in
    let selfrun = c.in_err-selfrun_catalogue-in-Selfrun.ensures in
    let p = err_from_is_err_and c.from_residual-in_err-selfrun_catalogue-in-Selfrun.result c.from_residual-in_err-selfrun_catalogue-in-Selfrun.ensures.1 in
    rw (p.1, p.2, c.in-Selfrun.is) (record {
      ends = comes_of_search (Selfrun c.in-Selfrun.selfrun) s (λ none. none) selfrun.ends;
      told = selfrun.told;
      due = tt;
      shows = λ files command readies. tt;
    })

pub returns-in-Renew : goal.returns-in-Renew
returns-in-Renew g c =
    rw c.in-Renew.is (record { ends = tt; told = refl; due = tt; shows = λ files command readies. shows_renewed command files c.in-Renew.certificate readies })

pub returns-in-Thin : goal.returns-in-Thin
returns-in-Thin g c =
    rw c.in-Thin.is (record {
      ends = tt;
      told = refl;
      due = tt;
      shows = λ files command readies. shows_thinned command files c.in-Thin.lone c.in-Thin.thinning readies c.stays_within.ensures.law;
    })

pub returns-in-Rescreen : goal.returns-in-Rescreen
returns-in-Rescreen g c =
    let found = c.find_again.ensures in
    let updating = c.in-Rescreen.updating in
    let rescreening = c.in-Rescreen.rescreening in
    rw c.in-Rescreen.is (record {
      ends = ends_again updating rescreening c.find_again.result found.ends;
      told = found.told;
      due = found.due;
      shows = λ files command readies. shown_again command files updating rescreening c.find_again.result readies (found.shows files);
    })
