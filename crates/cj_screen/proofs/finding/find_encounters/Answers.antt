use Rattle.std.proofs.Common.{◌≡◌, ℕ, ◌≤◌, [], Result, Ok, Err, ap, subst, ◌∙◌, arith}
use Rattle.std.specs.Prelude.{IfOk, OnOk}
use Rattle.cj_case.specs.declared.problem.Problem.{Problem}
use Rattle.cj_case.specs.Problems.{plain_problem}
use Rattle.cj_formats.specs.declared.cert_format.CertFormat.{CertFormat}
use Rattle.cj_words.specs.Commands.{plain_screening}
use Rattle.cj_words.specs.Settings.{plain_settings}
use Rattle.cj_outputs.specs.declared.findings.Findings.{Findings}
use Rattle.cj_outputs.specs.declared.wanted.Wanted.{Wanted}
use Rattle.cj_outputs.specs.Findings.{case_in, outputs_in}
use Rattle.cj_outputs.specs.Again.{IsAcceptedLater}
use Rattle.cj_outputs.specs.Either.{is_brief}
use Rattle.cj_outputs.specs.Outcome.{cert_bytes, origin_of, outputs_limited, tells_of}
use Rattle.cj_status.specs.declared.status.Status.{Status}
use Rattle.cj_status.specs.Steps.{Gives}
use Rattle.cj_inputs.proofs.CoveringLemmas.{asked_there}
use Rattle.cj_screen.proofs.ReportLemmas.{reports}
use Rattle.cj_screen.proofs.SelfrunLemmas.{comes_of_selfrun, limited_limits}
use Rattle.cj_words.specs.Limits.{most_told}
use Rattle.cj_screen.proofs.finding.find_encounters.Goals as goal
use Rattle.cj_report.specs.declared.tells.Tells.{Tells}

same_case : (problem : Problem) (r : Result Findings Status) → IfOk r (λ found. found.problem ≡ problem) → IfOk r (λ found. case_in found ≡ plain_problem problem)
same_case problem (Ok found) is = ap plain_problem is
same_case problem (Err s) is = tt

of_format : (wanted : Wanted) (format : CertFormat) → wanted.format ≡ format → (r : Result Findings Status) → IfOk r (λ found. found.wanted ≡ wanted) → IfOk r (λ found. found.wanted.format ≡ format)
of_format wanted format same (Ok found) is = ap (λ (w : Wanted). w.format) is ∙ same
of_format wanted format same (Err s) is = tt

pub returns-clause-ends : goal.returns-clause-ends
returns-clause-ends g c =
    let wanted = c.of.result in
    let origin = origin_of 0 (plain_screening c.args.screening.now) in
    let case = plain_problem c.args.problem in
    comes_of_selfrun ⊥ (outputs_in origin) c.screen.result (outputs_limited wanted.leaves wanted.told wanted.tells wanted.format origin [] case) (λ none. none) (c.screen.ensures.told origin)
    (limited_limits wanted.leaves wanted.told wanted.tells wanted.format origin [] case)

pub returns-clause-told : goal.returns-clause-told
returns-clause-told g c = λ now.
    let screening = c.args.screening.now in
    let case = plain_problem c.args.problem in
    let origin = origin_of now (plain_screening screening) in
    let wanted = c.of.result in
    let tells = tells_of (plain_settings screening.settings) in
    let most = most_told screening.settings.large in
    subst (λ (k : ℕ). Gives ⊥ (outputs_in origin) c.screen.result (outputs_limited k most tells screening.format origin [] case)) c.of.ensures.leaves
    (subst (λ (k : ℕ). Gives ⊥ (outputs_in origin) c.screen.result (outputs_limited wanted.leaves k tells screening.format origin [] case)) c.of.ensures.told
    (subst (λ (v : CertFormat). Gives ⊥ (outputs_in origin) c.screen.result (outputs_limited wanted.leaves wanted.told tells v origin [] case)) c.of.ensures.format
    (subst (λ (t : Tells). Gives ⊥ (outputs_in origin) c.screen.result (outputs_limited wanted.leaves wanted.told t wanted.format origin [] case)) c.of.ensures.tells
    (c.screen.ensures.told origin))))

pub returns-clause-found : goal.returns-clause-found
returns-clause-found g c = c.screen.ensures.found

pub returns-clause-reports : goal.returns-clause-reports
returns-clause-reports g c = λ files read.
    let screening = c.args.screening.now in
    let asked = plain_settings screening.settings in
    let wanted = c.of.result in
    let case = plain_problem c.args.problem in
    let few : wanted.leaves ≤ asked.limits.leaves = omega (arith, c.of.ensures.leaves, screening.most_cells) in
    reports files (plain_screening screening) case read c.screen.result (c.screen.ensures.reports asked c.of.ensures.tells)
    (same_case c.args.problem c.screen.result c.screen.ensures.same) (of_format wanted screening.format c.of.ensures.format c.screen.result c.screen.ensures.wanted)
    (subst (λ (f : CertFormat). OnOk c.screen.result (IsAcceptedLater asked (is_brief f) files (cert_bytes f case))) c.of.ensures.format
    (c.screen.ensures.later asked files (asked_there files asked case read).0 screening.settings.limited
    (λ large. c.of.ensures.format ∙ screening.in_brief large) few c.of.ensures.told))
