use Rattle.std.proofs.Common.{◌≡◌, ◌∙◌, List, Result, length, refl, ap, ap₂, subst, sym, arith}
use Rattle.std.specs.Prelude.{IfErr}
use Rattle.cj_io.specs.Faults.{Rose}
use Rattle.cj_io.specs.declared.file.FileBytes.{FileBytes}
use Rattle.cj_gen.proofs.TrackLemmas.{file_count}
use Rattle.cj_case.specs.PlainProblems.{PlainProblem}
use Rattle.cj_case.specs.Problems.{plain_problem}
use Rattle.cj_words.specs.Commands.{plain_selfrun}
use Rattle.cj_words.specs.Settings.{plain_settings}
use Rattle.cj_status.specs.declared.status.Status.{Status}
use Rattle.cj_status.specs.Steps.{Gives, IsLimit}
use Rattle.cj_inputs.specs.Cases.{case_asked}
use Rattle.cj_outputs.specs.Outcome.{case_of_selfrun}
use Rattle.cj_screen.proofs.SelfrunLemmas.{calm_count, comes_of_selfrun, gives_calm, selfrun_limits}
use Rattle.cj_screen.proofs.selfruns.prepare_catalogue.Goals as goal

pub new-folder-requires : goal.new-folder-requires
new-folder-requires g c =
    let recipe = c.args.selfrun.now.recipe in
    omega (arith, ap (λ (fs : List FileBytes). length fs) c.in_ok-files.ensures, file_count recipe.seed recipe.objects recipe.minutes, recipe.most_objects)

pub returns-clause-told : goal.returns-clause-told
unfolding case_of_selfrun
returns-clause-told g c =
    let due : case_asked c.new-folder.result (plain_settings c.settings_of.result) ≡ case_of_selfrun (plain_selfrun c.args.selfrun.now) =
    ap₂ case_asked (c.new-folder.ensures ∙ c.in_ok-files.ensures) c.settings_of.ensures in
    gives_calm (Rose 0 0) plain_problem c.prepare.result (case_of_selfrun (plain_selfrun c.args.selfrun.now)) calm_count
    (subst (λ (d : Result PlainProblem Status). Gives (Rose 0 0) plain_problem c.prepare.result d) due (c.prepare.ensures.told c.new-folder.result refl))

pub returns-clause-ends : goal.returns-clause-ends
unfolding case_of_selfrun
returns-clause-ends g c =
    let selfrun = c.args.selfrun.now in
    let due : case_asked c.new-folder.result (plain_settings c.settings_of.result) ≡ case_of_selfrun (plain_selfrun selfrun) = ap₂ case_asked (c.new-folder.ensures ∙ c.in_ok-files.ensures) c.settings_of.ensures in
    comes_of_selfrun (Rose 0 0) plain_problem c.prepare.result (case_asked c.new-folder.result (plain_settings c.settings_of.result)) calm_count (c.prepare.ensures.told c.new-folder.result refl)
    (subst (λ (r : Result PlainProblem Status). IfErr r IsLimit) (sym due) (selfrun_limits (plain_selfrun selfrun) selfrun.recipe.some_minutes selfrun.recipe.most_minutes))
