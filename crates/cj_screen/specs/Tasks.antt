-- What a command line asks for, once all that it reads is accepted.
use Rattle.std.specs.Prelude.{◌≡◌, ◌⊎◌, ℕ, Bool, true, false, List, ◌∷◌, [], Option, Some, Result, Ok, Err}
use Rattle.cj_io.specs.declared.file.FileBytes.{FileBytes}
use Rattle.cj_gen.specs.Catalogues.{catalogue_of}
use Rattle.cj_case.specs.Problems.{plain_problem}
use Rattle.cj_words.specs.declared.option.UsageFault.{UsageFault}
use Rattle.cj_words.specs.Commands.{PlainCommand, Screens, Checks, Generates, Selfruns, Rewrites, Thins, Rescreens, PlainChecking, PlainRescreening, PlainScreening, PlainThinning, command_of, plain_rescreening, plain_screening, plain_selfrun, plain_thinning}
use Rattle.cj_words.specs.Limits.{most_told}
use Rattle.cj_words.specs.Settings.{plain_settings}
use Rattle.cj_base.specs.Limits.{USUAL}
use Rattle.cj_inputs.specs.Alone.{plain_tracks, tracks_asked}
use Rattle.cj_inputs.specs.Coverings.{case_covered, cases_covered}
use Rattle.cj_inputs.specs.Updates.{plain_updating}
use Rattle.cj_status.specs.declared.status.Status.{Status}
use Rattle.cj_status.specs.declared.status.Status.TheVariants as status
use Rattle.cj_status.specs.Steps.{Stops}
use Rattle.cj_outputs.specs.Checks.{IsChecked, Vouches}
use Rattle.cj_outputs.specs.Outcome.{accepted_output, origin_of, outputs_made, outputs_renewed, outputs_of_selfrun, outputs_limited, outputs_updated, tells_of}
use Rattle.cj_outputs.specs.EitherKept.{plain_any}
use Rattle.cj_outputs.specs.Rewrites.{IsRewritten, Renews}
use Rattle.cj_outputs.specs.Thinned.{length_of, outputs_with_fewer}
use Rattle.cj_outputs.specs.Thinnings.{IsThinned}
use Rattle.cj_screen.specs.Headline.{IsChanged, IsRescreened, IsScreened}
use Rattle.cj_screen.specs.declared.task.Task.{Task}
use Rattle.cj_screen.specs.declared.task.Task.TheVariants.{Screen, Accept, Make, Selfrun, Renew, Thin, Rescreen}

-- files are put, and not only what goes to standard output
abbrev pub puts_files : Task → Bool
puts_files (Screen problem screening) = true
puts_files Accept = false
puts_files (Make recipe) = true
puts_files (Selfrun selfrun) = false
puts_files (Renew certificate) = true
puts_files (Thin lone thinning) = true
puts_files (Rescreen updating rescreening) = true

-- the outputs of a task at this tick, or the cause for which there are none
abbrev pub outputs_of_task : ℕ → Task → Result (List FileBytes) Status
outputs_of_task now (Screen problem screening) =
    outputs_limited screening.cells (most_told screening.settings.large) (tells_of (plain_settings screening.settings)) screening.format
    (origin_of now (plain_screening screening)) [] (plain_problem problem)
outputs_of_task now Accept = Ok (accepted_output ∷ [])
outputs_of_task now (Make recipe) = Ok (outputs_made (catalogue_of recipe.seed recipe.objects recipe.minutes))
outputs_of_task now (Selfrun selfrun) = outputs_of_selfrun (plain_selfrun selfrun)
outputs_of_task now (Renew certificate) = Ok (outputs_renewed (plain_any certificate))
outputs_of_task now (Thin lone thinning) = Ok (outputs_with_fewer (length_of (plain_thinning thinning)) (plain_tracks lone))
outputs_of_task now (Rescreen updating rescreening) = outputs_updated now (plain_rescreening rescreening) (plain_updating updating)

-- what was read leads to what is due
abbrev pub Leads : Type 0 → ℕ → Result Task Status → Result (List FileBytes) Status → Type 0
Leads read now (Ok task) due = due ≡ outputs_of_task now task
Leads read now (Err s) due = Stops read s due

-- ---- what commands read

-- a command that reads no file, and words that are no command
abbrev pub ReadsNothing : Result PlainCommand UsageFault → Type 0
ReadsNothing (Ok (Screens screening)) = ⊥
ReadsNothing (Ok (Checks checking)) = ⊥
ReadsNothing (Ok (Generates recipe)) = Unit {0}
ReadsNothing (Ok (Selfruns selfrun)) = Unit {0}
ReadsNothing (Ok (Rewrites checking)) = ⊥
ReadsNothing (Ok (Thins thinning)) = ⊥
ReadsNothing (Ok (Rescreens rescreening)) = ⊥
ReadsNothing (Err fault) = Unit {0}

-- the files that words are about: those that a folder tells, and any where nothing is read
abbrev pub AreRead : List (List ℕ) → Option (List FileBytes) → List FileBytes → Type 0
AreRead words told files = (told ≡ Some files) ⊎ ReadsNothing (command_of words)

-- no read failed: the folder's count did not rise, or nothing is read
abbrev pub IsCalm : List (List ℕ) → Type 0 → Type 0
IsCalm words rose = (¬ rose) ⊎ ReadsNothing (command_of words)

-- ---- what a task has of its command

abbrev pub IsScreening : PlainScreening → List FileBytes → Task → Type 0
IsScreening screening files (Screen problem asked) = (case_covered files screening.settings ≡ Ok (plain_problem problem)) × (plain_screening asked ≡ screening)
IsScreening screening files Accept = ⊥
IsScreening screening files (Make recipe) = ⊥
IsScreening screening files (Selfrun selfrun) = ⊥
IsScreening screening files (Renew certificate) = ⊥
IsScreening screening files (Thin lone thinning) = ⊥
IsScreening screening files (Rescreen updating rescreening) = ⊥

abbrev pub IsAccepting : PlainChecking → List FileBytes → Task → Type 0
IsAccepting checking files (Screen problem asked) = ⊥
IsAccepting checking files Accept = Vouches checking files
IsAccepting checking files (Make recipe) = ⊥
IsAccepting checking files (Selfrun selfrun) = ⊥
IsAccepting checking files (Renew certificate) = ⊥
IsAccepting checking files (Thin lone thinning) = ⊥
IsAccepting checking files (Rescreen updating rescreening) = ⊥

abbrev pub IsRenewal : PlainChecking → List FileBytes → Task → Type 0
IsRenewal checking files (Screen problem asked) = ⊥
IsRenewal checking files Accept = ⊥
IsRenewal checking files (Make recipe) = ⊥
IsRenewal checking files (Selfrun selfrun) = ⊥
IsRenewal checking files (Renew certificate) = Renews checking files (plain_any certificate)
IsRenewal checking files (Thin lone thinning) = ⊥
IsRenewal checking files (Rescreen updating rescreening) = ⊥

abbrev pub IsThinning : PlainThinning → List FileBytes → Task → Type 0
IsThinning asked files (Screen problem screening) = ⊥
IsThinning asked files Accept = ⊥
IsThinning asked files (Make recipe) = ⊥
IsThinning asked files (Selfrun selfrun) = ⊥
IsThinning asked files (Renew certificate) = ⊥
IsThinning asked files (Thin lone thinning) = (tracks_asked USUAL files asked ≡ Ok (plain_tracks lone)) × (plain_thinning thinning ≡ asked)
IsThinning asked files (Rescreen updating rescreening) = ⊥

abbrev pub IsRescreening : PlainRescreening → List FileBytes → Task → Type 0
IsRescreening asked files (Screen problem screening) = ⊥
IsRescreening asked files Accept = ⊥
IsRescreening asked files (Make recipe) = ⊥
IsRescreening asked files (Selfrun selfrun) = ⊥
IsRescreening asked files (Renew certificate) = ⊥
IsRescreening asked files (Thin lone thinning) = ⊥
IsRescreening asked files (Rescreen updating rescreening) =
    (cases_covered files asked ≡ Ok (plain_updating updating)) × (plain_rescreening rescreening ≡ asked)

-- what was read of the files is what the command asks
abbrev pub Readies : PlainCommand → List FileBytes → Task → Type 0
Readies (Screens screening) files task = IsScreening screening files task
Readies (Checks checking) files task = IsAccepting checking files task
Readies (Generates recipe) files task = Unit {0}
Readies (Selfruns selfrun) files task = Unit {0}
Readies (Rewrites checking) files task = IsRenewal checking files task
Readies (Thins thinning) files task = IsThinning thinning files task
Readies (Rescreens rescreening) files task = IsRescreening rescreening files task

abbrev pub IsMaking : Task → Type 0
IsMaking (Screen problem asked) = ⊥
IsMaking Accept = ⊥
IsMaking (Make recipe) = Unit {0}
IsMaking (Selfrun selfrun) = ⊥
IsMaking (Renew certificate) = ⊥
IsMaking (Thin lone thinning) = ⊥
IsMaking (Rescreen updating rescreening) = ⊥

abbrev pub IsSelfrun : Task → Type 0
IsSelfrun (Screen problem asked) = ⊥
IsSelfrun Accept = ⊥
IsSelfrun (Make recipe) = ⊥
IsSelfrun (Selfrun selfrun) = Unit {0}
IsSelfrun (Renew certificate) = ⊥
IsSelfrun (Thin lone thinning) = ⊥
IsSelfrun (Rescreen updating rescreening) = ⊥

-- a command that reads nothing comes to its task, whatever the folder does
abbrev pub ComesToTask : PlainCommand → Result Task Status → Type 0
ComesToTask (Screens screening) r = Unit {0}
ComesToTask (Checks checking) r = Unit {0}
ComesToTask (Generates recipe) (Ok task) = IsMaking task
ComesToTask (Generates recipe) (Err s) = ⊥
ComesToTask (Selfruns selfrun) (Ok task) = IsSelfrun task
ComesToTask (Selfruns selfrun) (Err s) = ⊥
ComesToTask (Rewrites checking) r = Unit {0}
ComesToTask (Thins thinning) r = Unit {0}
ComesToTask (Rescreens rescreening) r = Unit {0}

-- ---- how a task ends

-- what may end the search, before a write
abbrev pub ComesOfSearch : Task → Status → Type 0
ComesOfSearch task status.Ok = ⊥
ComesOfSearch task (status.NotAccepted line cause) = ⊥
ComesOfSearch task (status.Usage fault) = ⊥
ComesOfSearch task (status.BadFile file line cause) = ⊥
ComesOfSearch task status.ReadFault = ⊥
ComesOfSearch task status.WriteFault = ⊥
ComesOfSearch task (status.Limit fault) = ¬ IsMaking task
ComesOfSearch task status.OutOfMemory = Unit {0}

-- how it may end: done, by a failed write, a limit, but not of a catalogue that is made up, or want of memory
abbrev pub EndsTask : Task → Status → Type 0
EndsTask task status.Ok = Unit {0}
EndsTask task (status.NotAccepted line cause) = ⊥
EndsTask task (status.Usage fault) = ⊥
EndsTask task (status.BadFile file line cause) = ⊥
EndsTask task status.ReadFault = ⊥
EndsTask task status.WriteFault = Unit {0}
EndsTask task (status.Limit fault) = ¬ IsMaking task
EndsTask task status.OutOfMemory = Unit {0}

-- what a screening again has put: all outputs, or those of the pairs that are not unchanged
pub record IsDoneAgain (asked : PlainRescreening) (files old : List FileBytes) (new : Option (List FileBytes)) : Type 0 where
  pub whole : asked.changed ≡ false → IsRescreened asked files old new
  pub changed : asked.changed ≡ true → IsChanged asked files old new

-- what a command that is done has put says of the files what the command asks
abbrev pub IsDone : PlainCommand → List FileBytes → List FileBytes → Option (List FileBytes) → Type 0
IsDone (Screens screening) files old new = IsScreened screening files old new
IsDone (Checks checking) files old new = IsChecked checking files old new
IsDone (Generates recipe) files old new = Unit {0}
IsDone (Selfruns selfrun) files old new = Unit {0}
IsDone (Rewrites checking) files old new = IsRewritten checking files old new
IsDone (Thins thinning) files old new = IsThinned thinning files old new
IsDone (Rescreens rescreening) files old new = IsDoneAgain rescreening files old new
