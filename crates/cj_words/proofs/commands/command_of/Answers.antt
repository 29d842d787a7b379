use Rattle.std.proofs.Common.{refl, sym}
use Rattle.std.proofs.lemmas.Result.{err_from_is_err_and}
use Rattle.cj_words.proofs.commands.command_of.Goals as goal

pub returns-in_ok-screening_of-in-Screen : goal.returns-in_ok-screening_of-in-Screen
returns-in_ok-screening_of-in-Screen c = rw (c.in-Screen.is, sym c.in_ok-screening_of-in-Screen.ensures) refl

pub returns-in_err-screening_of-in-Screen : goal.returns-in_err-screening_of-in-Screen
returns-in_err-screening_of-in-Screen c =
    let p = err_from_is_err_and c.from_residual.result c.from_residual.ensures.1 in
    rw (p.1, p.2, c.in-Screen.is, sym c.in_err-screening_of-in-Screen.ensures) refl

pub returns-in_ok-checking_of-in-Check : goal.returns-in_ok-checking_of-in-Check
returns-in_ok-checking_of-in-Check c = rw (c.in-Check.is, sym c.in_ok-checking_of-in-Check.ensures) refl

pub returns-in_err-checking_of-in-Check : goal.returns-in_err-checking_of-in-Check
returns-in_err-checking_of-in-Check c =
    let p = err_from_is_err_and c.from_residual-in_err-checking_of-in-Check.result c.from_residual-in_err-checking_of-in-Check.ensures.1 in
    rw (p.1, p.2, c.in-Check.is, sym c.in_err-checking_of-in-Check.ensures) refl

pub returns-in_ok-recipe_of-in-Generate : goal.returns-in_ok-recipe_of-in-Generate
returns-in_ok-recipe_of-in-Generate c = rw (c.in-Generate.is, sym c.in_ok-recipe_of-in-Generate.ensures) refl

pub returns-in_err-recipe_of-in-Generate : goal.returns-in_err-recipe_of-in-Generate
returns-in_err-recipe_of-in-Generate c =
    let p = err_from_is_err_and c.from_residual-in_err-recipe_of-in-Generate.result c.from_residual-in_err-recipe_of-in-Generate.ensures.1 in
    rw (p.1, p.2, c.in-Generate.is, sym c.in_err-recipe_of-in-Generate.ensures) refl

pub returns-in_ok-selfrun_of-in-Selfrun : goal.returns-in_ok-selfrun_of-in-Selfrun
returns-in_ok-selfrun_of-in-Selfrun c = rw (c.in-Selfrun.is, sym c.in_ok-selfrun_of-in-Selfrun.ensures) refl

pub returns-in_err-selfrun_of-in-Selfrun : goal.returns-in_err-selfrun_of-in-Selfrun
returns-in_err-selfrun_of-in-Selfrun c =
    let p = err_from_is_err_and c.from_residual-in_err-selfrun_of-in-Selfrun.result c.from_residual-in_err-selfrun_of-in-Selfrun.ensures.1 in
    rw (p.1, p.2, c.in-Selfrun.is, sym c.in_err-selfrun_of-in-Selfrun.ensures) refl

pub returns-in_ok-checking_of-in-Rewrite : goal.returns-in_ok-checking_of-in-Rewrite
returns-in_ok-checking_of-in-Rewrite c = rw (c.in-Rewrite.is, sym c.in_ok-checking_of-in-Rewrite.ensures) refl

pub returns-in_err-checking_of-in-Rewrite : goal.returns-in_err-checking_of-in-Rewrite
returns-in_err-checking_of-in-Rewrite c =
    let p = err_from_is_err_and c.from_residual-in_err-checking_of-in-Rewrite.result c.from_residual-in_err-checking_of-in-Rewrite.ensures.1 in
    rw (p.1, p.2, c.in-Rewrite.is, sym c.in_err-checking_of-in-Rewrite.ensures) refl

pub returns-in_ok-thinning_of-in-Thin : goal.returns-in_ok-thinning_of-in-Thin
returns-in_ok-thinning_of-in-Thin c = rw (c.in-Thin.is, sym c.in_ok-thinning_of-in-Thin.ensures) refl

pub returns-in_err-thinning_of-in-Thin : goal.returns-in_err-thinning_of-in-Thin
returns-in_err-thinning_of-in-Thin c =
    let p = err_from_is_err_and c.from_residual-in_err-thinning_of-in-Thin.result c.from_residual-in_err-thinning_of-in-Thin.ensures.1 in
    rw (p.1, p.2, c.in-Thin.is, sym c.in_err-thinning_of-in-Thin.ensures) refl

pub returns-in_ok-rescreening_of-in-Rescreen : goal.returns-in_ok-rescreening_of-in-Rescreen
returns-in_ok-rescreening_of-in-Rescreen c = rw (c.in-Rescreen.is, sym c.in_ok-rescreening_of-in-Rescreen.ensures) refl

pub returns-in_err-rescreening_of-in-Rescreen : goal.returns-in_err-rescreening_of-in-Rescreen
returns-in_err-rescreening_of-in-Rescreen c =
    let p = err_from_is_err_and c.from_residual-in_err-rescreening_of-in-Rescreen.result c.from_residual-in_err-rescreening_of-in-Rescreen.ensures.1 in
    rw (p.1, p.2, c.in-Rescreen.is, sym c.in_err-rescreening_of-in-Rescreen.ensures) refl
