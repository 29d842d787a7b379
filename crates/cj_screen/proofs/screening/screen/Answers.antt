use Rattle.std.proofs.Common.{◌≡◌, ℕ, Ok, ap, subst, arith}
use Rattle.std.proofs.lemmas.Result.{err_from_is_err_and}
use Rattle.cj_case.specs.Problems.{plain_problem}
use Rattle.cj_outputs.specs.declared.findings.Behind.{Behind}
use Rattle.cj_outputs.specs.Findings.{lines_of}
use Rattle.cj_outputs.specs.Outcome.{within_told}
use Rattle.cj_screen.proofs.LinesLemmas.{asked_stop, asked_told}
use Rattle.cj_screen.proofs.ReportLemmas.{never_read}
use Rattle.cj_screen.proofs.screening.screen.Goals as goal

pub tell-requires-clause-found : goal.tell-requires-clause-found
tell-requires-clause-found g c _ _ = c.in_ok-lines.ensures.found

pub tell-requires-clause-ticks : goal.tell-requires-clause-ticks
tell-requires-clause-ticks g c _ _ = c.in_ok-lines.ensures.ticks

pub returns : goal.returns
returns g c =
    let case = plain_problem c.args.problem in
    let wanted = c.args.wanted in
    let lines = c.in_ok-lines.ensures in
    let told = c.in_ok-found.ensures in
    record {
      between = tt;
      read = λ is. absurd cc;
      told = λ origin. asked_told wanted origin _ case c.in_ok-found.found lines.told (ap plain_problem told.same) told.wanted (ap (λ (b : Behind). lines_of b) told.behind) told.found;
      same = told.same;
      wanted = told.wanted;
      behind = told.behind;
      found = told.found;
      reports = told.reports;
      later = λ settings files read limited brief leaves most. c.accepted_later.ensures.written settings files wanted.format read limited brief
          (omega (arith, lines.few, leaves)) (subst (λ (n : ℕ). within_told n wanted.format case ≡ Ok tt) most lines.few_told);
    }

pub returns-in_err-found : goal.returns-in_err-found
returns-in_err-found g c =
    let p = err_from_is_err_and c.from_residual-in_err-found.result c.from_residual-in_err-found.ensures.1 in
    rw (p.1, p.2) (record {
      between = tt;
      read = λ is. absurd cc;
      told = λ origin. tt;
      same = tt;
      wanted = tt;
      behind = tt;
      found = tt;
      reports = λ settings tells. tt;
      later = λ settings files read limited brief leaves most. tt;
    })

pub returns-in_err-lines : goal.returns-in_err-lines
returns-in_err-lines g c =
    let s = c.in_err-lines.field-0.0 in
    let told = c.in_err-lines.ensures.told in
    let p = err_from_is_err_and c.from_residual.result c.from_residual.ensures.1 in
    rw (p.1, p.2) (record {
      between = c.in_err-lines.ensures.between;
      read = λ is. never_read s _ told is;
      told = λ origin. asked_stop c.args.wanted origin _ (plain_problem c.args.problem) s told;
      same = tt;
      wanted = tt;
      behind = tt;
      found = tt;
      reports = λ settings tells. tt;
      later = λ settings files read limited brief leaves most. tt;
    })
