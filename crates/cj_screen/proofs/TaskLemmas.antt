-- A task: what its command has of it, what it comes to, and how it ends.
use Rattle.std.proofs.Common.{◌≡◌, ◌⊎◌, inl, inr, ℕ, Bool, true, false, List, ◌∷◌, [], ◌++◌, length, Option, Some, Result, Ok, Err, refl, ap, sym, subst, ◌∙◌}
use Rattle.std.specs.Prelude.{All, IfErr, IfOk, IsTrue, nat_le, if◌then◌else◌}
use Rattle.cj_io.specs.declared.file.FileBytes.{FileBytes}
use Rattle.cj_formats.specs.declared.cert_format.CertFormat.{CertFormat}
use Rattle.cj_case.specs.Leaves.{PlainLeaf}
use Rattle.cj_cells.specs.Lists.{list_candidates}
use Rattle.cj_gen.specs.Catalogues.{catalogue_of}
use Rattle.cj_case.specs.declared.problem.Problem.{Problem}
use Rattle.cj_case.specs.PlainProblems.{PlainProblem}
use Rattle.cj_case.specs.Problems.{plain_problem}
use Rattle.cj_words.specs.declared.option.UsageFault.{UsageFault}
use Rattle.cj_words.specs.declared.command.Rescreening as kept_rescreening
use Rattle.cj_words.specs.declared.command.Screening as kept_screening
use Rattle.cj_words.specs.declared.command.Thinning as kept_thinning
use Rattle.cj_words.specs.Commands.{PlainCommand, Screens, Checks, Generates, Selfruns, Rewrites, Thins, Rescreens, PlainChecking, PlainRescreening, PlainScreening, PlainThinning, plain_rescreening, plain_screening, plain_thinning}
use Rattle.cj_words.specs.Limits.{most_told}
use Rattle.cj_words.specs.Settings.{plain_settings}
use Rattle.cj_base.specs.Limits.{USUAL}
use Rattle.cj_inputs.specs.declared.lone_tracks.LoneTracks.{LoneTracks}
use Rattle.cj_inputs.specs.Alone.{plain_tracks, tracks_asked}
use Rattle.cj_inputs.specs.declared.updating.Updating.{Updating}
use Rattle.cj_inputs.specs.Coverings.{case_covered, cases_covered}
use Rattle.cj_inputs.specs.Updates.{PlainUpdating, plain_updating}
use Rattle.cj_report.specs.Summary.{kept_line}
use Rattle.cj_status.specs.declared.status.Status.{Status}
use Rattle.cj_status.specs.declared.status.Status.TheVariants as status
use Rattle.cj_status.specs.declared.status.LimitFault.TheVariants.{Cells, Told}
use Rattle.cj_status.specs.Steps.{◌>>=◌, Stops}
use Rattle.cj_outputs.specs.Checks.{IsChecked}
use Rattle.cj_outputs.specs.EitherKept.{plain_any}
use Rattle.cj_outputs.specs.declared.any_certificate.AnyCertificate.{AnyCertificate}
use Rattle.cj_outputs.specs.declared.findings.Findings.{Findings}
use Rattle.cj_outputs.specs.declared.origin.Origin.{Origin}
use Rattle.cj_outputs.specs.Findings.{cert_in, ended, messages_in, report_in, summary_in}
use Rattle.cj_outputs.specs.Messages.{PlainOrigin}
use Rattle.cj_outputs.specs.Origins.{plain_origin}
use Rattle.cj_outputs.specs.Outcome.{AreOutputs, AreTooManyCells, ComesOfPuts, ComesOfSelfrun, EndsMaking, EndsRescreening, EndsSelfrun, kept_unchanged, list_anew, origin_of, outputs_again, outputs_changed, outputs_limited, outputs_made, outputs_of_changes, outputs_renewed, outputs_rescreened, outputs_screened, outputs_updated, outputs_with, outputs_within, tells_of, told_in}
use Rattle.cj_outputs.specs.Rewrites.{IsRewritten}
use Rattle.cj_outputs.specs.Thinned.{length_of, outputs_thinned, outputs_with_fewer}
use Rattle.cj_outputs.specs.Thinnings.{IsThinned}
use Rattle.cj_thin.specs.Thinned.{thinned}
use Rattle.cj_thin.specs.Within.{IsThinnerWithin}
use Rattle.cj_track.specs.PlainTracks.{PlainTrack}
use Rattle.cj_outputs.proofs.AcceptingLemmas.{stops_then}
use Rattle.cj_screen.specs.Headline.{IsChanged, IsRescreened, IsScreened, Reports}
use Rattle.cj_screen.specs.declared.results.Results.{Results}
use Rattle.cj_screen.specs.declared.results.Results.TheVariants.{Screened, Checked, Made, Selfrun as SelfrunFound, Rewritten, Thinned, Changed}
use Rattle.cj_screen.specs.Results.{ChangesDue, RenewsDue, ReportsDue, RescreensDue, ShowsDue, ThinsDue, VouchesDue, outputs_due}
use Rattle.cj_screen.specs.declared.task.Task.{Task}
use Rattle.cj_screen.specs.declared.task.Task.TheVariants.{Screen, Accept, Make, Selfrun, Renew, Thin, Rescreen}
use Rattle.cj_screen.specs.Tasks.{ComesOfSearch, ComesToTask, EndsTask, IsDone, IsDoneAgain, IsMaking, IsSelfrun, Readies, ReadsNothing, outputs_of_task, puts_files}
use Rattle.cj_screen.proofs.SelfrunLemmas.{told_judged}
use Rattle.cj_report.specs.declared.tells.Tells.{Tells}

-- ---- what is read

-- of two ways, one is closed
pub the_first : {P Q : Type 0} → P ⊎ Q → ¬ Q → P
the_first (inl p) none = p
the_first (inr q) none = absurd (none q)

-- the outputs of a screening are those of its case
pub screened_case : (files : List FileBytes) (now : ℕ) (screening : PlainScreening) (case : PlainProblem) → case_covered files screening.settings ≡ Ok case
    → outputs_screened files now screening ≡ outputs_limited screening.cells (most_told screening.settings.large) (tells_of screening.settings) screening.format (origin_of now screening) [] case
unfolding outputs_screened
screened_case files now screening case read =
    ap (λ (r : Result PlainProblem Status). r >>= λ c. outputs_limited screening.cells (most_told screening.settings.large) (tells_of screening.settings) screening.format (origin_of now screening) [] c) read

-- where there is no case there are none
pub no_case : (read : Type 0) (files : List FileBytes) (now : ℕ) (screening : PlainScreening) (s : Status) → Stops read s (case_covered files screening.settings)
    → Stops read s (outputs_screened files now screening)
unfolding outputs_screened
no_case read files now screening s stops =
    stops_then read s (case_covered files screening.settings)
    (λ case. outputs_limited screening.cells (most_told screening.settings.large) (tells_of screening.settings) screening.format (origin_of now screening) [] case) stops

-- the outputs of a thinning are those of its tracks
pub thinned_tracks : (files : List FileBytes) (thinning : PlainThinning) (tracks : List PlainTrack) → tracks_asked USUAL files thinning ≡ Ok tracks
    → outputs_thinned files thinning ≡ Ok (outputs_with_fewer (length_of thinning) tracks)
unfolding outputs_thinned
thinned_tracks files thinning tracks read = ap (λ (r : Result (List PlainTrack) Status). r >>= λ ts. Ok (outputs_with_fewer (length_of thinning) ts)) read

-- where there are no tracks there are none
pub no_tracks : (read : Type 0) (files : List FileBytes) (thinning : PlainThinning) (s : Status) → Stops read s (tracks_asked USUAL files thinning) → Stops read s (outputs_thinned files thinning)
unfolding outputs_thinned
no_tracks read files thinning s stops = stops_then read s (tracks_asked USUAL files thinning) (λ tracks. Ok (outputs_with_fewer (length_of thinning) tracks)) stops

-- the outputs of a screening again are those of its cases
pub rescreened_cases : (files : List FileBytes) (now : ℕ) (asked : PlainRescreening) (cases : PlainUpdating) → cases_covered files asked ≡ Ok cases
    → outputs_rescreened files now asked ≡ outputs_updated now asked cases
unfolding outputs_rescreened
rescreened_cases files now asked cases read = ap (λ (r : Result PlainUpdating Status). r >>= λ c. outputs_updated now asked c) read

-- where there are no cases there are none
pub no_cases : (read : Type 0) (files : List FileBytes) (now : ℕ) (asked : PlainRescreening) (s : Status) → Stops read s (cases_covered files asked) → Stops read s (outputs_rescreened files now asked)
unfolding outputs_rescreened
no_cases read files now asked s stops = stops_then read s (cases_covered files asked) (λ cases. outputs_updated now asked cases) stops

-- where no read counts, none failed
pub calm_read : (asked : Result PlainCommand UsageFault) (s : Status) (rose : Type 0) → (¬ rose) ⊎ ReadsNothing asked
    → ((command : PlainCommand) → asked ≡ Ok command → ComesToTask command (Err s)) → ((fault : UsageFault) → asked ≡ Err fault → s ≡ status.Usage fault)
    → s ≡ status.ReadFault → ¬ rose
calm_read asked s rose (inl calm) unread usage is = calm
calm_read (Ok (Screens screening)) s rose (inr none) unread usage is = absurd none
calm_read (Ok (Checks checking)) s rose (inr none) unread usage is = absurd none
calm_read (Ok (Generates recipe)) s rose (inr none) unread usage is = absurd (unread (Generates recipe) refl)
calm_read (Ok (Selfruns selfrun)) s rose (inr none) unread usage is = absurd (unread (Selfruns selfrun) refl)
calm_read (Ok (Rewrites checking)) s rose (inr none) unread usage is = absurd none
calm_read (Ok (Thins thinning)) s rose (inr none) unread usage is = absurd none
calm_read (Ok (Rescreens rescreening)) s rose (inr none) unread usage is = absurd none
calm_read (Err fault) s rose (inr none) unread usage is = let wrong = usage fault refl in absurd cc

-- ---- what a task comes to

-- a screening's leaves are few enough, or too many
few_or_many : (b : Bool) (limit : ℕ) (leaves : List PlainLeaf) (outputs : List PlainLeaf → List FileBytes)
    → AreOutputs ((if b then Ok leaves else Err (status.Limit (Cells limit))) >>= λ ss. Ok (outputs ss))
    ⊎ AreTooManyCells ((if b then Ok leaves else Err (status.Limit (Cells limit))) >>= λ ss. Ok (outputs ss))
few_or_many true limit leaves outputs = inl (outputs leaves, refl)
few_or_many false limit leaves outputs = inr (limit, inl refl)

within_or_many : (limit : ℕ) (tells : Tells) (format : CertFormat) (origin : PlainOrigin) (behind : List ℕ) (case : PlainProblem)
    → AreOutputs (outputs_within limit tells format origin behind case) ⊎ AreTooManyCells (outputs_within limit tells format origin behind case)
unfolding outputs_within
within_or_many limit tells format origin behind case =
    few_or_many (nat_le (length (list_candidates case)) limit) limit (list_candidates case) (λ leaves. outputs_with tells format origin behind case leaves)

-- and few enough of them are told, or too many
told_or_many : (due : Result (List FileBytes) Status) (b : Bool) (most : ℕ) → AreOutputs due ⊎ AreTooManyCells due
    → AreOutputs (due >>= λ outputs. told_judged most b >>= λ done. Ok outputs)
    ⊎ AreTooManyCells (due >>= λ outputs. told_judged most b >>= λ done. Ok outputs)
told_or_many due true most (inl (outputs, is)) = inl (outputs, ap (λ (r : Result (List FileBytes) Status). r >>= λ all. Ok all) is)
told_or_many due false most (inl (outputs, is)) =
    let refused : List FileBytes → Result (List FileBytes) Status = λ all. Err (status.Limit (Told most)) in
    inr (most, inr (ap (λ (r : Result (List FileBytes) Status). r >>= refused) is))
told_or_many due b most (inr (limit, inl is)) =
    inr (limit, inl (ap (λ (r : Result (List FileBytes) Status). r >>= λ all. told_judged most b >>= λ done. Ok all) is))
told_or_many due b most (inr (limit, inr is)) =
    inr (limit, inr (ap (λ (r : Result (List FileBytes) Status). r >>= λ all. told_judged most b >>= λ done. Ok all) is))

limited_or_many : (limit most : ℕ) (tells : Tells) (format : CertFormat) (origin : PlainOrigin) (behind : List ℕ) (case : PlainProblem)
    → AreOutputs (outputs_limited limit most tells format origin behind case) ⊎ AreTooManyCells (outputs_limited limit most tells format origin behind case)
unfolding outputs_limited
limited_or_many limit most tells format origin behind case =
    told_or_many (outputs_within limit tells format origin behind case) (nat_le (length (told_in format case)) most) most (within_or_many limit tells format origin behind case)

-- the same of a screening again, where the leaves of the base files are counted first
again_or_many : (limit : ℕ) (tells : Tells) (format : CertFormat) (origin : PlainOrigin) (old new : PlainProblem)
    → AreOutputs (outputs_again limit tells format origin old new) ⊎ AreTooManyCells (outputs_again limit tells format origin old new)
unfolding outputs_again
again_or_many limit tells format origin old new = by_base (nat_le (length (list_candidates old)) limit)
  where
    due : Result (List FileBytes) Status
    due = outputs_within limit tells format origin (kept_line (kept_unchanged old new)) new

    by_base : (b : Bool) → AreOutputs ((if b then Ok (list_candidates old) else Err (status.Limit (Cells limit))) >>= λ base. due)
        ⊎ AreTooManyCells ((if b then Ok (list_candidates old) else Err (status.Limit (Cells limit))) >>= λ base. due)
    by_base true = within_or_many limit tells format origin (kept_line (kept_unchanged old new)) new
    by_base false = inr (limit, inl refl)

changed_or_many : (limit : ℕ) (tells : Tells) (old new : PlainProblem) → AreOutputs (outputs_changed limit tells old new) ⊎ AreTooManyCells (outputs_changed limit tells old new)
unfolding outputs_changed
changed_or_many limit tells old new =
    few_or_many (nat_le (length (list_anew old new)) limit) limit (list_anew old new) (λ leaves. outputs_of_changes tells new (kept_unchanged old new) leaves)

updated_or_many : (now : ℕ) (asked : PlainRescreening) (cases : PlainUpdating) → AreOutputs (outputs_updated now asked cases) ⊎ AreTooManyCells (outputs_updated now asked cases)
updated_or_many now asked cases = by_kind asked.changed
  where
    cells : ℕ
    cells = asked.screening.cells

    tells : Tells
    tells = tells_of asked.screening.settings

    all : Result (List FileBytes) Status
    all = outputs_again cells tells asked.screening.format (origin_of now asked.screening) cases.base cases.new

    by_kind : (b : Bool) → AreOutputs (if b then outputs_changed cells tells cases.base cases.new else all)
        ⊎ AreTooManyCells (if b then outputs_changed cells tells cases.base cases.new else all)
    by_kind true = changed_or_many cells tells cases.base cases.new
    by_kind false = again_or_many cells tells asked.screening.format (origin_of now asked.screening) cases.base cases.new

-- of a task that puts files outputs are due, or there are too many leaves
pub due_or_many : (now : ℕ) (task : Task) → IsTrue (puts_files task) → AreOutputs (outputs_of_task now task) ⊎ AreTooManyCells (outputs_of_task now task)
due_or_many now (Screen problem screening) files =
    limited_or_many screening.cells (most_told screening.settings.large) (tells_of (plain_settings screening.settings)) screening.format
    (origin_of now (plain_screening screening)) [] (plain_problem problem)
due_or_many now Accept files = absurd cc
due_or_many now (Make recipe) files = inl (outputs_made (catalogue_of recipe.seed recipe.objects recipe.minutes), refl)
due_or_many now (Selfrun selfrun) files = absurd cc
due_or_many now (Renew certificate) files = inl (outputs_renewed (plain_any certificate), refl)
due_or_many now (Thin lone thinning) files = inl (outputs_with_fewer (length_of (plain_thinning thinning)) (plain_tracks lone), refl)
due_or_many now (Rescreen updating rescreening) files = updated_or_many now (plain_rescreening rescreening) (plain_updating updating)

pub comes_of_search : (task : Task) (s : Status) → ¬ IsMaking task → ComesOfSelfrun s → ComesOfSearch task s
comes_of_search task status.Ok other comes = comes
comes_of_search task (status.NotAccepted line cause) other comes = comes
comes_of_search task (status.Usage fault) other comes = comes
comes_of_search task (status.BadFile file line cause) other comes = comes
comes_of_search task status.ReadFault other comes = comes
comes_of_search task status.WriteFault other comes = comes
comes_of_search task (status.Limit fault) other comes = other
comes_of_search task status.OutOfMemory other comes = tt

-- ---- what is due of a task shows what its command asks

-- the files are those whose case is asked
pub asked_case : (screening : kept_screening.Screening) (asked : PlainScreening) (files : List FileBytes) (problem : Problem) (found : Findings)
    → (case_covered files asked.settings ≡ Ok (plain_problem problem)) × (plain_screening screening ≡ asked)
    → (case_covered files (plain_settings screening.settings) ≡ Ok (plain_problem problem)
    → Reports (plain_screening screening) files (report_in found).bytes (cert_in found).bytes)
    → Reports asked files (report_in found).bytes (cert_in found).bytes
asked_case screening asked files problem found readies reports =
    subst (λ (s : PlainScreening). Reports s files (report_in found).bytes (cert_in found).bytes) readies.1
    (reports (subst (λ (s : PlainScreening). case_covered files s.settings ≡ Ok (plain_problem problem)) (sym readies.1) readies.0))

pub shows_screened : (command : PlainCommand) (files : List FileBytes) (problem : Problem) (screening : kept_screening.Screening) (found : Findings) (origin : Origin)
    → Readies command files (Screen problem screening)
    → (case_covered files (plain_settings screening.settings) ≡ Ok (plain_problem problem)
    → Reports (plain_screening screening) files (report_in found).bytes (cert_in found).bytes)
    → ShowsDue command files (Screened found origin)
shows_screened (Screens asked) files problem screening found origin readies reports = asked_case screening asked files problem found readies reports
shows_screened (Checks checking) files problem screening found origin readies reports = absurd readies
shows_screened (Generates recipe) files problem screening found origin readies reports = tt
shows_screened (Selfruns selfrun) files problem screening found origin readies reports = tt
shows_screened (Rewrites checking) files problem screening found origin readies reports = absurd readies
shows_screened (Thins thinning) files problem screening found origin readies reports = absurd readies
shows_screened (Rescreens rescreening) files problem screening found origin readies reports = absurd readies

-- what is due of a screening again, whichever it is
pub shows_again : (command : PlainCommand) (files : List FileBytes) (updating : Updating) (rescreening : kept_rescreening.Rescreening) (results : Results)
    → Readies command files (Rescreen updating rescreening)
    → (cases_covered files (plain_rescreening rescreening) ≡ Ok (plain_updating updating) → ShowsDue (Rescreens (plain_rescreening rescreening)) files results)
    → ShowsDue command files results
shows_again (Screens screening) files updating rescreening results readies shows = absurd readies
shows_again (Checks checking) files updating rescreening results readies shows = absurd readies
shows_again (Generates recipe) files updating rescreening results readies shows = tt
shows_again (Selfruns selfrun) files updating rescreening results readies shows = tt
shows_again (Rewrites checking) files updating rescreening results readies shows = absurd readies
shows_again (Thins thinning) files updating rescreening results readies shows = absurd readies
shows_again (Rescreens asked) files updating rescreening results readies shows =
    subst (λ (a : PlainRescreening). ShowsDue (Rescreens a) files results) readies.1
    (shows (subst (λ (a : PlainRescreening). cases_covered files a ≡ Ok (plain_updating updating)) (sym readies.1) readies.0))

pub shown_again : (command : PlainCommand) (files : List FileBytes) (updating : Updating) (rescreening : kept_rescreening.Rescreening) (r : Result Results Status)
    → Readies command files (Rescreen updating rescreening)
    → (cases_covered files (plain_rescreening rescreening) ≡ Ok (plain_updating updating) → IfOk r (ShowsDue (Rescreens (plain_rescreening rescreening)) files))
    → IfOk r (ShowsDue command files)
shown_again command files updating rescreening (Ok results) readies shows = shows_again command files updating rescreening results readies shows
shown_again command files updating rescreening (Err s) readies shows = tt

pub ends_again : (updating : Updating) (rescreening : kept_rescreening.Rescreening) (r : Result Results Status) → IfErr r ComesOfSelfrun → IfErr r (ComesOfSearch (Rescreen updating rescreening))
ends_again updating rescreening (Ok results) ends = tt
ends_again updating rescreening (Err s) ends = comes_of_search (Rescreen updating rescreening) s (λ none. none) ends

pub shows_accepted : (command : PlainCommand) (files : List FileBytes) → Readies command files Accept → ShowsDue command files Checked
shows_accepted (Screens asked) files readies = absurd readies
shows_accepted (Checks checking) files readies = readies
shows_accepted (Generates recipe) files readies = tt
shows_accepted (Selfruns selfrun) files readies = tt
shows_accepted (Rewrites checking) files readies = absurd readies
shows_accepted (Thins thinning) files readies = absurd readies
shows_accepted (Rescreens rescreening) files readies = absurd readies

pub shows_renewed : (command : PlainCommand) (files : List FileBytes) (certificate : AnyCertificate) → Readies command files (Renew certificate)
    → ShowsDue command files (Rewritten certificate)
shows_renewed (Screens asked) files certificate readies = absurd readies
shows_renewed (Checks checking) files certificate readies = absurd readies
shows_renewed (Generates recipe) files certificate readies = tt
shows_renewed (Selfruns selfrun) files certificate readies = tt
shows_renewed (Rewrites checking) files certificate readies = readies
shows_renewed (Thins thinning) files certificate readies = absurd readies
shows_renewed (Rescreens rescreening) files certificate readies = absurd readies

-- the tracks are those that are asked, by the length that is
pub asked_tracks : (thinning : kept_thinning.Thinning) (asked : PlainThinning) (files : List FileBytes) (lone : LoneTracks)
    → (tracks_asked USUAL files asked ≡ Ok (plain_tracks lone)) × (plain_thinning thinning ≡ asked)
    → All (λ t. IsThinnerWithin (length_of (plain_thinning thinning)) t (thinned (length_of (plain_thinning thinning)) t)) (plain_tracks lone)
    → ThinsDue asked files (Thinned lone thinning)
asked_tracks thinning asked files lone readies near = (
  record {
    read = readies.0;
    near = subst (λ (t : PlainThinning). All (λ u. IsThinnerWithin (length_of t) u (thinned (length_of t) u)) (plain_tracks lone)) readies.1 near;
  },
  readies.1,
)

pub shows_thinned : (command : PlainCommand) (files : List FileBytes) (lone : LoneTracks) (thinning : kept_thinning.Thinning) → Readies command files (Thin lone thinning)
    → All (λ t. IsThinnerWithin (length_of (plain_thinning thinning)) t (thinned (length_of (plain_thinning thinning)) t)) (plain_tracks lone)
    → ShowsDue command files (Thinned lone thinning)
shows_thinned (Screens screening) files lone thinning readies near = absurd readies
shows_thinned (Checks checking) files lone thinning readies near = absurd readies
shows_thinned (Generates recipe) files lone thinning readies near = tt
shows_thinned (Selfruns selfrun) files lone thinning readies near = tt
shows_thinned (Rewrites checking) files lone thinning readies near = absurd readies
shows_thinned (Thins asked) files lone thinning readies near = asked_tracks thinning asked files lone readies near
shows_thinned (Rescreens rescreening) files lone thinning readies near = absurd readies

-- a task of no file is of no command that reads one
pub shows_made : (command : PlainCommand) (files : List FileBytes) (task : Task) (results : Results) → IsMaking task ⊎ IsSelfrun task → Readies command files task
    → ShowsDue command files results
shows_made (Screens asked) files (Make recipe) results free readies = absurd readies
shows_made (Screens asked) files (Selfrun selfrun) results free readies = absurd readies
shows_made (Screens asked) files (Screen problem screening) results (inl none) readies = absurd none
shows_made (Screens asked) files (Screen problem screening) results (inr none) readies = absurd none
shows_made (Screens asked) files Accept results free readies = absurd readies
shows_made (Screens asked) files (Renew certificate) results free readies = absurd readies
shows_made (Screens asked) files (Thin lone thinning) results free readies = absurd readies
shows_made (Screens asked) files (Rescreen updating rescreening) results free readies = absurd readies
shows_made (Checks checking) files (Make recipe) results free readies = absurd readies
shows_made (Checks checking) files (Selfrun selfrun) results free readies = absurd readies
shows_made (Checks checking) files (Screen problem screening) results free readies = absurd readies
shows_made (Checks checking) files Accept results (inl none) readies = absurd none
shows_made (Checks checking) files Accept results (inr none) readies = absurd none
shows_made (Checks checking) files (Renew certificate) results free readies = absurd readies
shows_made (Checks checking) files (Thin lone thinning) results free readies = absurd readies
shows_made (Checks checking) files (Rescreen updating rescreening) results free readies = absurd readies
shows_made (Generates recipe) files task results free readies = tt
shows_made (Selfruns selfrun) files task results free readies = tt
shows_made (Rewrites checking) files (Make recipe) results free readies = absurd readies
shows_made (Rewrites checking) files (Selfrun selfrun) results free readies = absurd readies
shows_made (Rewrites checking) files (Screen problem screening) results free readies = absurd readies
shows_made (Rewrites checking) files Accept results free readies = absurd readies
shows_made (Rewrites checking) files (Renew certificate) results (inl none) readies = absurd none
shows_made (Rewrites checking) files (Renew certificate) results (inr none) readies = absurd none
shows_made (Rewrites checking) files (Thin lone thinning) results free readies = absurd readies
shows_made (Rewrites checking) files (Rescreen updating rescreening) results free readies = absurd readies
shows_made (Thins asked) files (Make recipe) results free readies = absurd readies
shows_made (Thins asked) files (Selfrun selfrun) results free readies = absurd readies
shows_made (Thins asked) files (Screen problem screening) results free readies = absurd readies
shows_made (Thins asked) files Accept results free readies = absurd readies
shows_made (Thins asked) files (Renew certificate) results free readies = absurd readies
shows_made (Thins asked) files (Thin lone thinning) results (inl none) readies = absurd none
shows_made (Thins asked) files (Thin lone thinning) results (inr none) readies = absurd none
shows_made (Thins asked) files (Rescreen updating rescreening) results (inl none) readies = absurd none
shows_made (Thins asked) files (Rescreen updating rescreening) results (inr none) readies = absurd none
shows_made (Rescreens asked) files (Make recipe) results free readies = absurd readies
shows_made (Rescreens asked) files (Selfrun selfrun) results free readies = absurd readies
shows_made (Rescreens asked) files (Screen problem screening) results free readies = absurd readies
shows_made (Rescreens asked) files Accept results free readies = absurd readies
shows_made (Rescreens asked) files (Renew certificate) results free readies = absurd readies
shows_made (Rescreens asked) files (Thin lone thinning) results free readies = absurd readies
shows_made (Rescreens asked) files (Rescreen updating rescreening) results (inl none) readies = absurd none
shows_made (Rescreens asked) files (Rescreen updating rescreening) results (inr none) readies = absurd none

-- ---- what is put says it

-- the report and the certificate of a screening stand in front
pub screened : (screening : PlainScreening) (files old : List FileBytes) (new : Option (List FileBytes)) (results : Results)
    → ReportsDue screening files results → new ≡ Some (old ++ outputs_due results) → IsScreened screening files old new
screened screening files old new (Screened found origin) reports put = record {
  bytes = (report_in found).bytes;
  certificate = (cert_in found).bytes;
  report = reports;
  further = messages_in (plain_origin origin) found ++ summary_in found ∷ [];
  put = put;
}
screened screening files old new Checked reports put = absurd reports
screened screening files old new (Made catalogue) reports put = absurd reports
screened screening files old new (SelfrunFound found) reports put = absurd reports
screened screening files old new (Rewritten certificate) reports put = absurd reports
screened screening files old new (Thinned lone thinning) reports put = absurd reports
screened screening files old new (Changed changes) reports put = absurd reports

-- the one output of a check
pub checked : (checking : PlainChecking) (files old : List FileBytes) (new : Option (List FileBytes)) (results : Results)
    → VouchesDue checking files results → new ≡ Some (old ++ outputs_due results) → IsChecked checking files old new
checked checking files old new (Screened found origin) vouches put = absurd vouches
checked checking files old new Checked vouches put = record { vouched = vouches; put = put }
checked checking files old new (Made catalogue) vouches put = absurd vouches
checked checking files old new (SelfrunFound found) vouches put = absurd vouches
checked checking files old new (Rewritten certificate) vouches put = absurd vouches
checked checking files old new (Thinned lone thinning) vouches put = absurd vouches
checked checking files old new (Changed changes) vouches put = absurd vouches

-- the outputs of a rewriting
pub renewed : (checking : PlainChecking) (files old : List FileBytes) (new : Option (List FileBytes)) (results : Results)
    → RenewsDue checking files results → new ≡ Some (old ++ outputs_due results) → IsRewritten checking files old new
renewed checking files old new (Screened found origin) renews put = absurd renews
renewed checking files old new Checked renews put = absurd renews
renewed checking files old new (Made catalogue) renews put = absurd renews
renewed checking files old new (SelfrunFound found) renews put = absurd renews
renewed checking files old new (Rewritten certificate) renews put = record { renewed = plain_any certificate; renews = renews; put = put }
renewed checking files old new (Thinned lone thinning) renews put = absurd renews
renewed checking files old new (Changed changes) renews put = absurd renews

-- the outputs of a thinning
pub thinner : (asked : PlainThinning) (files old : List FileBytes) (new : Option (List FileBytes)) (results : Results)
    → ThinsDue asked files results → new ≡ Some (old ++ outputs_due results) → IsThinned asked files old new
thinner asked files old new (Screened found origin) thins put = absurd thins
thinner asked files old new Checked thins put = absurd thins
thinner asked files old new (Made catalogue) thins put = absurd thins
thinner asked files old new (SelfrunFound found) thins put = absurd thins
thinner asked files old new (Rewritten certificate) thins put = absurd thins
thinner asked files old new (Thinned lone thinning) thins put = record {
  tracks = plain_tracks lone;
  thinned = thins.0;
  put = put ∙ ap (λ (t : PlainThinning). Some (old ++ outputs_with_fewer (length_of t) (plain_tracks lone))) thins.1;
}
thinner asked files old new (Changed changes) thins put = absurd thins

-- all outputs of a screening again
rescreened : (asked : PlainRescreening) (files old : List FileBytes) (new : Option (List FileBytes)) (results : Results)
    → RescreensDue asked files results → new ≡ Some (old ++ outputs_due results) → IsRescreened asked files old new
rescreened asked files old new (Screened found origin) due put = record {
  cases = due.cases;
  read = due.read;
  whole = due.whole;
  bytes = (report_in found).bytes;
  certificate = (cert_in found).bytes;
  report = due.report;
  messages = messages_in (plain_origin origin) found;
  put = put ∙ ap (λ (summary : FileBytes). Some (old ++ report_in found ∷ cert_in found ∷ (messages_in (plain_origin origin) found ++ summary ∷ []))) due.summary;
}
rescreened asked files old new Checked due put = absurd due
rescreened asked files old new (Made catalogue) due put = absurd due
rescreened asked files old new (SelfrunFound found) due put = absurd due
rescreened asked files old new (Rewritten certificate) due put = absurd due
rescreened asked files old new (Thinned lone thinning) due put = absurd due
rescreened asked files old new (Changed changes) due put = absurd due

-- those of the pairs that are not unchanged
changed : (asked : PlainRescreening) (files old : List FileBytes) (new : Option (List FileBytes)) (results : Results)
    → ChangesDue asked files results → new ≡ Some (old ++ outputs_due results) → IsChanged asked files old new
changed asked files old new (Screened found origin) due put = absurd due
changed asked files old new Checked due put = absurd due
changed asked files old new (Made catalogue) due put = absurd due
changed asked files old new (SelfrunFound found) due put = absurd due
changed asked files old new (Rewritten certificate) due put = absurd due
changed asked files old new (Thinned lone thinning) due put = absurd due
changed asked files old new (Changed changes) due put = record {
  cases = due.cases;
  read = due.read;
  whole = due.whole;
  split = due.split;
  nearest = due.nearest;
  covered = due.covered;
  still_so = due.still_so;
  put = put ∙ ap (λ (outputs : List FileBytes). Some (old ++ outputs)) due.outputs;
}

done_again : (asked : PlainRescreening) (files old : List FileBytes) (new : Option (List FileBytes)) (results : Results)
    → ShowsDue (Rescreens asked) files results → new ≡ Some (old ++ outputs_due results) → IsDoneAgain asked files old new
done_again asked files old new results shows put = record {
  whole = λ is. rescreened asked files old new results (shows.whole is) put;
  changed = λ is. changed asked files old new results (shows.changed is) put;
}

pub done_by : (command : PlainCommand) (files old : List FileBytes) (new : Option (List FileBytes)) (results : Results)
    → ShowsDue command files results → new ≡ Some (old ++ outputs_due results) → IsDone command files old new
done_by (Screens screening) files old new results shows put = screened screening files old new results shows put
done_by (Checks checking) files old new results shows put = checked checking files old new results shows put
done_by (Generates recipe) files old new results shows put = tt
done_by (Selfruns selfrun) files old new results shows put = tt
done_by (Rewrites checking) files old new results shows put = renewed checking files old new results shows put
done_by (Thins thinning) files old new results shows put = thinner thinning files old new results shows put
done_by (Rescreens rescreening) files old new results shows put = done_again rescreening files old new results shows put

-- ---- how it ends

pub ends_of_puts : (task : Task) (r : Result (Unit {0}) Status) → IfErr r ComesOfPuts → EndsTask task (ended r)
ends_of_puts task (Ok done) comes = tt
ends_of_puts task (Err status.Ok) comes = tt
ends_of_puts task (Err (status.NotAccepted line cause)) comes = comes
ends_of_puts task (Err (status.Usage fault)) comes = comes
ends_of_puts task (Err (status.BadFile file line cause)) comes = comes
ends_of_puts task (Err status.ReadFault) comes = comes
ends_of_puts task (Err status.WriteFault) comes = tt
ends_of_puts task (Err (status.Limit fault)) comes = absurd comes
ends_of_puts task (Err status.OutOfMemory) comes = tt

pub ends_of_search : (task : Task) (s : Status) → ComesOfSearch task s → EndsTask task s
ends_of_search task status.Ok comes = tt
ends_of_search task (status.NotAccepted line cause) comes = comes
ends_of_search task (status.Usage fault) comes = comes
ends_of_search task (status.BadFile file line cause) comes = comes
ends_of_search task status.ReadFault comes = comes
ends_of_search task status.WriteFault comes = tt
ends_of_search task (status.Limit fault) comes = comes
ends_of_search task status.OutOfMemory comes = tt

pub ends_making : (task : Task) (s : Status) → IsMaking task → EndsTask task s → EndsMaking s
ends_making task status.Ok making ends = tt
ends_making task (status.NotAccepted line cause) making ends = ends
ends_making task (status.Usage fault) making ends = ends
ends_making task (status.BadFile file line cause) making ends = ends
ends_making task status.ReadFault making ends = ends
ends_making task status.WriteFault making ends = tt
ends_making task (status.Limit fault) making ends = absurd (ends making)
ends_making task status.OutOfMemory making ends = tt

pub ends_selfrun : (task : Task) (s : Status) → EndsTask task s → EndsSelfrun s
ends_selfrun task status.Ok ends = tt
ends_selfrun task (status.NotAccepted line cause) ends = ends
ends_selfrun task (status.Usage fault) ends = ends
ends_selfrun task (status.BadFile file line cause) ends = ends
ends_selfrun task status.ReadFault ends = ends
ends_selfrun task status.WriteFault ends = tt
ends_selfrun task (status.Limit fault) ends = tt
ends_selfrun task status.OutOfMemory ends = tt

pub ends_rescreening : (task : Task) (s : Status) → EndsTask task s → EndsRescreening s
ends_rescreening task status.Ok ends = tt
ends_rescreening task (status.NotAccepted line cause) ends = ends
ends_rescreening task (status.Usage fault) ends = ends
ends_rescreening task (status.BadFile file line cause) ends = absurd ends
ends_rescreening task status.ReadFault ends = tt
ends_rescreening task status.WriteFault ends = tt
ends_rescreening task (status.Limit fault) ends = tt
ends_rescreening task status.OutOfMemory ends = tt
