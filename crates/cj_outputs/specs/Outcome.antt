-- How a run over told files ends, and what it puts.
use Rattle.std.specs.Prelude.{◌≡◌, ◌⊎◌, ℕ, Bool, false, nat_le, if◌then◌else◌, List, [], ◌∷◌, ◌++◌, filter, length, Option, Some, None, is_some, Result, Ok, Err, codes}
use Rattle.std.specs.Fmt.{decimal}
use Rattle.std.specs.Str.{bytes_eq}
use Rattle.cj_io.specs.declared.file.FileBytes.{FileBytes}
use Rattle.cj_io.specs.Files.{IsPrefix}
use Rattle.cj_base.specs.Limits.{USUAL}
use Rattle.cj_words.specs.Limits.{most_told}
use Rattle.cj_words.specs.declared.option.UsageFault.{UsageFault}
use Rattle.cj_words.specs.Commands.{PlainCommand, Screens, Checks, Generates, Selfruns, Rewrites, Thins, Rescreens, PlainChecking, PlainRescreening, PlainScreening, PlainSelfrun, command_of}
use Rattle.cj_words.specs.Settings.{PlainSettings}
use Rattle.cj_gen.specs.Catalogues.{catalogue_of}
use Rattle.cj_case.specs.Pairs.{pairs_of}
use Rattle.cj_case.specs.PlainProblems.{PlainProblem}
use Rattle.cj_bezier.specs.Candidates.{is_candidate_anew, is_kept_unchanged}
use Rattle.cj_bezier.specs.ToldLeaves.{told_leaves}
use Rattle.cj_inputs.specs.Cases.{case_asked}
use Rattle.cj_inputs.specs.Coverings.{case_covered, cases_covered}
use Rattle.cj_inputs.specs.CheckInputs.{inputs_asked}
use Rattle.cj_inputs.specs.Updates.{PlainUpdating}
use Rattle.cj_case.specs.Leaves.{PlainLeaf}
use Rattle.cj_meet.specs.Closest.{closest_of}
use Rattle.cj_meet.specs.Encounters.{encounters_of}
use Rattle.cj_cells.specs.Lists.{list_candidates, list_of}
use Rattle.cj_coverage.specs.Coverage.{uncovered_count}
use Rattle.cj_report.specs.Report.{changed_of, report_of, told}
use Rattle.cj_report.specs.Summary.{changed_summary, kept_line, summary_of, uncovered_line}
use Rattle.cj_report.specs.declared.tells.Tells.{Tells}
use Rattle.cj_cert_text.specs.Reading.{Fault}
use Rattle.cj_formats.specs.declared.cert_format.CertFormat.{CertFormat}
use Rattle.cj_formats.specs.declared.cert_format.CertFormat.TheVariants.{Full, Brief}
use Rattle.cj_checker.specs.First.{Failure}
use Rattle.cj_status.specs.declared.status.Status.{Status}
use Rattle.cj_status.specs.declared.status.Status.TheVariants as status
use Rattle.cj_status.specs.declared.status.CertificateCause.TheVariants.{Text, Refused, Report}
use Rattle.cj_status.specs.declared.status.LimitFault.TheVariants.{Cells, Told}
use Rattle.cj_status.specs.Steps.{◌>>=◌}
use Rattle.cj_outputs.specs.Differences.{differing_line}
use Rattle.cj_outputs.specs.Either.{PlainAnyCertificate, any_failure, any_reading, any_renewed, any_written, cells_in, text_in}
use Rattle.cj_outputs.specs.Messages.{PlainOrigin, has_message, message_outputs}
use Rattle.cj_outputs.specs.Summaries.{tally_with}
use Rattle.cj_outputs.specs.Thinned.{outputs_thinned}

abbrev pub asked : Result PlainCommand UsageFault → Result PlainCommand Status
asked (Ok command) = Ok command
asked (Err fault) = Err (status.Usage fault)

-- at most so many leaves
abbrev pub within_cells : ℕ → List PlainLeaf → Result (List PlainLeaf) Status
within_cells limit leaves = if nat_le (length leaves) limit then Ok leaves else Err (status.Limit (Cells limit))

-- the leaves that a certificate in brief tells; one in full is made of boxes and all leaves, and asks for none apart
abbrev pub told_in : CertFormat → PlainProblem → List PlainLeaf
told_in (Full version) case = []
told_in Brief case = told_leaves case

-- at most so many of these
abbrev pub few_told : ℕ → ℕ → Result (Unit {0}) Status
few_told limit count = if nat_le count limit then Ok tt else Err (status.Limit (Told limit))

abbrev pub within_told : ℕ → CertFormat → PlainProblem → Result (Unit {0}) Status
within_told limit format case = few_told limit (length (told_in format case))

abbrev pub output : List ℕ → List ℕ → FileBytes
output name bytes = record { name = name; bytes = bytes }

-- the encounters of a case: those of its one-thread list
abbrev pub encounters_in : PlainProblem → List (List PlainLeaf)
encounters_in case = encounters_of (list_candidates case)

-- the report of a case with these leaves, which may tell the sizes and what objects cover; it tells which encounters have a message
abbrev pub report_bytes : Tells → PlainProblem → List PlainLeaf → List ℕ
report_bytes tells case leaves =
    report_of case.first case.last case.threshold case.tracks (told tells.sizes case.sizes) case.primaries tells.coverage
    (closest_of case) (has_message case) (encounters_of leaves)

-- its certificate in a format
abbrev pub cert_bytes : CertFormat → PlainProblem → List ℕ
cert_bytes format case = text_in (any_written format case)

-- its summary
abbrev pub summary_bytes : PlainProblem → List PlainLeaf → List ℕ
summary_bytes case leaves = summary_of (tally_with case leaves)

abbrev pub report_output : List ℕ → FileBytes
report_output bytes = output (codes "screen.report") bytes

abbrev pub cert_output : List ℕ → FileBytes
cert_output bytes = output (codes "screen.cert") bytes

abbrev pub summary_output : List ℕ → FileBytes
summary_output bytes = output (codes "-") bytes

-- the summary for standard output, with these lines behind it
abbrev pub summary_with : List ℕ → PlainProblem → List PlainLeaf → FileBytes
summary_with behind case leaves = summary_output (summary_bytes case leaves ++ behind)

-- the outputs behind the report and the certificate: the messages by number, and the summary with these lines behind it
abbrev pub further_outputs : PlainOrigin → List ℕ → PlainProblem → List PlainLeaf → List FileBytes
further_outputs origin behind case leaves = message_outputs case origin (encounters_of leaves) ++ summary_with behind case leaves ∷ []

-- behind a summary: how many objects do not cover the whole window, where coverage is told
abbrev pub uncovered_told : Tells → PlainProblem → List ℕ
uncovered_told tells case = if tells.coverage then uncovered_line (uncovered_count case) else []

-- the outputs of a case with these leaves: the report, the certificate, and those
abbrev pub outputs_with : Tells → CertFormat → PlainOrigin → List ℕ → PlainProblem → List PlainLeaf → List FileBytes
outputs_with tells format origin behind case leaves =
    report_output (report_bytes tells case leaves) ∷ cert_output (cert_bytes format case)
    ∷ further_outputs origin (behind ++ uncovered_told tells case) case leaves

-- the outputs of a case, where it has at most so many leaves, with these lines behind the summary
unfoldable pub outputs_within : ℕ → Tells → CertFormat → PlainOrigin → List ℕ → PlainProblem → Result (List FileBytes) Status
outputs_within limit tells format origin behind case =
    within_cells limit (list_candidates case) >>= λ leaves. Ok (outputs_with tells format origin behind case leaves)

-- the same where its certificate tells at most so many leaves
unfoldable pub outputs_limited : ℕ → ℕ → Tells → CertFormat → PlainOrigin → List ℕ → PlainProblem → Result (List FileBytes) Status
outputs_limited limit most tells format origin behind case = do
  outputs ← outputs_within limit tells format origin behind case
  done ← within_told most format case
  Ok outputs

-- what the report is to tell
abbrev pub tells_of : PlainSettings → Tells
tells_of settings = record { sizes = is_some settings.sizes; coverage = settings.coverage }

-- when the messages of a screening at this tick are made, by whom, and whether they tell the relative state
abbrev pub origin_of : ℕ → PlainScreening → PlainOrigin
origin_of now screening = record { created = now; originator = screening.originator; relative = screening.rtn }

-- the outputs of a screening of files at this tick, or the first cause for which there is none
unfoldable pub outputs_screened : List FileBytes → ℕ → PlainScreening → Result (List FileBytes) Status
outputs_screened files now screening = do
  case ← case_covered files screening.settings
  outputs_limited screening.cells (most_told screening.settings.large) (tells_of screening.settings) screening.format (origin_of now screening) [] case

-- ---- screening again

-- how many pairs of the new case are kept and unchanged
unfoldable pub kept_unchanged : PlainProblem → PlainProblem → ℕ
kept_unchanged old new = length (filter (is_kept_unchanged old new) (pairs_of (length new.tracks)))

-- the outputs of the new case, where it and the old one have at most so many leaves each: behind the summary stands how many pairs are kept and
-- unchanged
unfoldable pub outputs_again : ℕ → Tells → CertFormat → PlainOrigin → PlainProblem → PlainProblem → Result (List FileBytes) Status
outputs_again limit tells format origin old new = do
  base ← within_cells limit (list_candidates old)
  outputs_within limit tells format origin (kept_line (kept_unchanged old new)) new

-- the leaves of the new case of those pairs alone that are not unchanged
unfoldable pub list_anew : PlainProblem → PlainProblem → List PlainLeaf
list_anew old new = list_of (is_candidate_anew old new) new

-- the report of a case with these leaves of the pairs that are not unchanged
abbrev pub changed_bytes : Tells → PlainProblem → List PlainLeaf → List ℕ
changed_bytes tells case leaves =
    changed_of case.first case.last case.threshold case.tracks (told tells.sizes case.sizes) case.primaries tells.coverage
    (closest_of case) (has_message case) (encounters_of leaves)

abbrev pub changed_output : List ℕ → FileBytes
changed_output bytes = output (codes "changed.report") bytes

-- the outputs of these leaves: that report, and a summary of it
abbrev pub outputs_of_changes : Tells → PlainProblem → ℕ → List PlainLeaf → List FileBytes
outputs_of_changes tells case kept leaves =
    changed_output (changed_bytes tells case leaves)
    ∷ summary_output (changed_summary (length case.tracks) (length (encounters_of leaves)) kept ++ uncovered_told tells case) ∷ []

-- those of the new case, where at most so many leaves are of pairs that are not unchanged
unfoldable pub outputs_changed : ℕ → Tells → PlainProblem → PlainProblem → Result (List FileBytes) Status
outputs_changed limit tells old new =
    within_cells limit (list_anew old new) >>= λ leaves. Ok (outputs_of_changes tells new (kept_unchanged old new) leaves)

-- what is asked of the cases before and after the updates at this tick: all outputs, or those of the pairs that are not unchanged
abbrev pub outputs_updated : ℕ → PlainRescreening → PlainUpdating → Result (List FileBytes) Status
outputs_updated now asked cases =
    if asked.changed then outputs_changed asked.screening.cells (tells_of asked.screening.settings) cases.base cases.new
    else outputs_again asked.screening.cells (tells_of asked.screening.settings) asked.screening.format (origin_of now asked.screening) cases.base cases.new

-- the outputs of a screening again at this tick, or the first cause for which there is none
unfoldable pub outputs_rescreened : List FileBytes → ℕ → PlainRescreening → Result (List FileBytes) Status
outputs_rescreened files now asked = do
  cases ← cases_covered files asked
  outputs_updated now asked cases

-- ---- what else is asked

-- how many files were made
abbrev pub count_bytes : ℕ → List ℕ
count_bytes count = codes "GENERATED " ++ decimal count ++ 10 ∷ []

-- the outputs of a catalogue: its files, and for standard output how many there are
abbrev pub outputs_made : List FileBytes → List FileBytes
outputs_made catalogue = catalogue ++ summary_output (count_bytes (length catalogue)) ∷ []

-- for standard output, where a certificate is accepted
abbrev pub accepted_output : FileBytes
accepted_output = output (codes "-") (codes "ACCEPTED" ++ 10 ∷ [])

-- what a text says as a certificate
abbrev pub said_or : Result PlainAnyCertificate Fault → Result PlainAnyCertificate Status
said_or (Ok certificate) = Ok certificate
said_or (Err fault) = Err (status.NotAccepted fault.line (Text fault.cause))

-- there is no failure
abbrev pub none_of : Option Failure → Result (Unit {0}) Status
none_of None = Ok tt
none_of (Some failure) = Err (status.NotAccepted failure.line (Refused failure.cause))

-- the certificate that the bytes are, which may be in brief where that is asked, and is accepted for the case, or the first cause for which there
-- is none
unfoldable pub accepting : Bool → PlainProblem → List ℕ → Result PlainAnyCertificate Status
accepting brief case bytes = do
  certificate ← said_or (any_reading brief bytes)
  done ← none_of (any_failure case certificate)
  Ok certificate

-- the bytes are a text, or the line in which they first differ from it
abbrev pub as_due : List ℕ → List ℕ → Result (Unit {0}) Status
as_due bytes due = if bytes_eq bytes due then Ok tt else Err (status.NotAccepted (differing_line bytes due) Report)

-- the bytes are the report of a case with the encounters of these cells, of which there are at most so many
unfoldable pub report_accepting : ℕ → Tells → PlainProblem → List PlainLeaf → List ℕ → Result (Unit {0}) Status
report_accepting limit tells case cells bytes = within_cells limit cells >>= λ few. as_due bytes (report_bytes tells case few)

-- the same of a report that may be named
abbrev pub report_if_accepting : ℕ → Tells → PlainProblem → List PlainLeaf → Option (List ℕ) → Result (Unit {0}) Status
report_if_accepting limit tells case cells None = Ok tt
report_if_accepting limit tells case cells (Some bytes) = report_accepting limit tells case cells bytes

-- the output of a check, or the first cause for which there is none
unfoldable pub outputs_checked : List FileBytes → PlainChecking → Result (List FileBytes) Status
outputs_checked files checking = do
  inputs ← inputs_asked files checking
  certificate ← accepting checking.brief inputs.case inputs.bytes
  done ← report_if_accepting checking.settings.limits.leaves (tells_of checking.settings) inputs.case (cells_in certificate) inputs.report
  Ok (accepted_output ∷ [])

-- the outputs of a certificate that is rewritten: its text, and for standard output that it is
abbrev pub outputs_renewed : PlainAnyCertificate → List FileBytes
outputs_renewed certificate = output (codes "screen.cert2") (text_in certificate) ∷ output (codes "-") (codes "REWRITTEN" ++ 10 ∷ []) ∷ []

-- the outputs of the certificate that is named, one in full in version 2, or the first cause for which there are none
unfoldable pub outputs_rewritten : List FileBytes → PlainChecking → Result (List FileBytes) Status
outputs_rewritten files checking = do
  inputs ← inputs_asked files checking
  certificate ← accepting checking.brief inputs.case inputs.bytes
  Ok (outputs_renewed (any_renewed inputs.case certificate))

-- the settings by which a made-up catalogue is screened: over its whole span, within the usual limits
abbrev pub settings_of_selfrun : PlainSelfrun → PlainSettings
settings_of_selfrun selfrun = record {
  threshold = selfrun.threshold;
  from = None;
  to = None;
  suffix = codes ".oem";
  as_hermite3 = false;
  sizes = None;
  primaries = None;
  coverage = false;
  must_cover = false;
  large = false;
  limits = USUAL;
}

-- the case of a made-up catalogue: that of its files
unfoldable pub case_of_selfrun : PlainSelfrun → Result PlainProblem Status
case_of_selfrun selfrun = case_asked (catalogue_of selfrun.recipe.seed selfrun.recipe.objects selfrun.recipe.minutes) (settings_of_selfrun selfrun)

-- behind the summary of a catalogue: its certificate is accepted
abbrev pub check_accepted : List ℕ
check_accepted = codes "CHECK ACCEPTED" ++ 10 ∷ []

-- for standard output: the summary of a catalogue that is screened, and that its certificate is accepted
abbrev pub selfrun_output : PlainProblem → List PlainLeaf → FileBytes
selfrun_output case leaves = summary_with check_accepted case leaves

-- the output of a case, where it has at most so many leaves
abbrev pub selfrun_within : ℕ → PlainProblem → Result (List FileBytes) Status
selfrun_within limit case = within_cells limit (list_candidates case) >>= λ leaves. Ok (selfrun_output case leaves ∷ [])

-- the output of a catalogue that is screened, or the first cause for which there is none
unfoldable pub outputs_of_selfrun : PlainSelfrun → Result (List FileBytes) Status
outputs_of_selfrun selfrun = do
  case ← case_of_selfrun selfrun
  selfrun_within selfrun.cells case

-- the outputs that a command asks of the files at this tick
abbrev pub outputs_asked : List FileBytes → ℕ → PlainCommand → Result (List FileBytes) Status
outputs_asked files now (Screens screening) = outputs_screened files now screening
outputs_asked files now (Checks checking) = outputs_checked files checking
outputs_asked files now (Generates recipe) = Ok (outputs_made (catalogue_of recipe.seed recipe.objects recipe.minutes))
outputs_asked files now (Selfruns selfrun) = outputs_of_selfrun selfrun
outputs_asked files now (Rewrites checking) = outputs_rewritten files checking
outputs_asked files now (Thins thinning) = outputs_thinned files thinning
outputs_asked files now (Rescreens rescreening) = outputs_rescreened files now rescreening

-- the outputs that the words ask of the files at this tick, or the first cause for which there is none
unfoldable pub outputs_of : List (List ℕ) → List FileBytes → ℕ → Result (List FileBytes) Status
outputs_of words files now = do
  command ← asked (command_of words)
  outputs_asked files now command

-- fronts of the outputs, the last one perhaps cut
abbrev pub IsFront : List FileBytes → List FileBytes → Type 0
IsFront [] outputs = Unit {0}
IsFront (p ∷ ps) [] = ⊥
IsFront (p ∷ []) (q ∷ qs) = (p.name ≡ q.name) × IsPrefix p.bytes q.bytes
IsFront (p ∷ r ∷ ps) (q ∷ qs) = (p ≡ q) × IsFront (r ∷ ps) qs

-- a front of the outputs that are due, and none where there is a cause to put none
abbrev pub IsPartOf : List FileBytes → Result (List FileBytes) Status → Type 0
IsPartOf front (Ok outputs) = IsFront front outputs
IsPartOf front (Err s) = front ≡ []

-- a front of what is due stands behind the old outputs
abbrev pub PartlyPut : Result (List FileBytes) Status → List FileBytes → Option (List FileBytes) → Type 0
PartlyPut due old new = (front : List FileBytes) × IsPartOf front due × (new ≡ Some (old ++ front))

-- there is no cause to put none
abbrev pub AreOutputs : Result (List FileBytes) Status → Type 0
AreOutputs due = (outputs : List FileBytes) × (due ≡ Ok outputs)

-- the cause to put none is that there are too many leaves, or too many that are told, which alone is found behind a shelf's refusal
abbrev pub AreTooManyCells : Result (List FileBytes) Status → Type 0
AreTooManyCells due = (limit : ℕ) × ((due ≡ Err (status.Limit (Cells limit))) ⊎ (due ≡ Err (status.Limit (Told limit))))

-- Which status comes of a run over told files. Status 0 or a write fault: outputs were due, but a shelf that refused the run did so before
-- its leaves were counted. A cause: it is the first. A read fault: the folder's count rose. Want of memory: whatever is due.
abbrev pub Answers : Type 0 → Type 0 → Status → Result (List FileBytes) Status → Type 0
Answers read refused status.Ok due = AreOutputs due
Answers read refused (status.NotAccepted line cause) due = due ≡ Err (status.NotAccepted line cause)
Answers read refused (status.Usage fault) due = due ≡ Err (status.Usage fault)
Answers read refused (status.BadFile file line cause) due = due ≡ Err (status.BadFile file line cause)
Answers read refused status.ReadFault due = read
Answers read refused status.WriteFault due = AreOutputs due ⊎ (refused × AreTooManyCells due)
Answers read refused (status.Limit fault) due = due ≡ Err (status.Limit fault)
Answers read refused status.OutOfMemory due = Unit {0}

-- a run that ends so has not touched its shelf
abbrev pub PutsNothing : Status → Type 0
PutsNothing status.Ok = ⊥
PutsNothing (status.NotAccepted line cause) = Unit {0}
PutsNothing (status.Usage fault) = Unit {0}
PutsNothing (status.BadFile file line cause) = Unit {0}
PutsNothing status.ReadFault = Unit {0}
PutsNothing status.WriteFault = ⊥
PutsNothing (status.Limit fault) = Unit {0}
PutsNothing status.OutOfMemory = ⊥

-- more outputs, or none, stand behind the old ones
abbrev pub Extends : List FileBytes → Option (List FileBytes) → Type 0
Extends old new = (more : List FileBytes) × (new ≡ Some (old ++ more))

-- What a run over told files leaves on its shelf. Status 0: all that is due stands behind the old outputs. A write fault or want of
-- memory: a front of what is due, the last output perhaps cut. Else nothing.
abbrev pub Leaves : Status → Result (List FileBytes) Status → List FileBytes → Option (List FileBytes) → Type 0
Leaves status.Ok due old new = (outputs : List FileBytes) × (due ≡ Ok outputs) × (new ≡ Some (old ++ outputs))
Leaves (status.NotAccepted line cause) due old new = new ≡ Some old
Leaves (status.Usage fault) due old new = new ≡ Some old
Leaves (status.BadFile file line cause) due old new = new ≡ Some old
Leaves status.ReadFault due old new = new ≡ Some old
Leaves status.WriteFault due old new = PartlyPut due old new
Leaves (status.Limit fault) due old new = new ≡ Some old
Leaves status.OutOfMemory due old new = PartlyPut due old new

-- what may end the putting of outputs
abbrev pub ComesOfPuts : Status → Type 0
ComesOfPuts status.Ok = ⊥
ComesOfPuts (status.NotAccepted line cause) = ⊥
ComesOfPuts (status.Usage fault) = ⊥
ComesOfPuts (status.BadFile file line cause) = ⊥
ComesOfPuts status.ReadFault = ⊥
ComesOfPuts status.WriteFault = Unit {0}
ComesOfPuts (status.Limit fault) = ⊥
ComesOfPuts status.OutOfMemory = Unit {0}

-- what may end a made-up catalogue's screening before its put
abbrev pub ComesOfSelfrun : Status → Type 0
ComesOfSelfrun status.Ok = ⊥
ComesOfSelfrun (status.NotAccepted line cause) = ⊥
ComesOfSelfrun (status.Usage fault) = ⊥
ComesOfSelfrun (status.BadFile file line cause) = ⊥
ComesOfSelfrun status.ReadFault = ⊥
ComesOfSelfrun status.WriteFault = ⊥
ComesOfSelfrun (status.Limit fault) = Unit {0}
ComesOfSelfrun status.OutOfMemory = Unit {0}

-- how it may end: it is done, a write failed, a limit is exceeded, or memory ran out
abbrev pub EndsSelfrun : Status → Type 0
EndsSelfrun status.Ok = Unit {0}
EndsSelfrun (status.NotAccepted line cause) = ⊥
EndsSelfrun (status.Usage fault) = ⊥
EndsSelfrun (status.BadFile file line cause) = ⊥
EndsSelfrun status.ReadFault = ⊥
EndsSelfrun status.WriteFault = Unit {0}
EndsSelfrun (status.Limit fault) = Unit {0}
EndsSelfrun status.OutOfMemory = Unit {0}

-- how a screening again may end: no certificate is judged
abbrev pub EndsRescreening : Status → Type 0
EndsRescreening status.Ok = Unit {0}
EndsRescreening (status.NotAccepted line cause) = ⊥
EndsRescreening (status.Usage fault) = ⊥
EndsRescreening (status.BadFile file line cause) = Unit {0}
EndsRescreening status.ReadFault = Unit {0}
EndsRescreening status.WriteFault = Unit {0}
EndsRescreening (status.Limit fault) = Unit {0}
EndsRescreening status.OutOfMemory = Unit {0}

-- how a catalogue that is made up may end: it is written, a write failed, or memory ran out
abbrev pub EndsMaking : Status → Type 0
EndsMaking status.Ok = Unit {0}
EndsMaking (status.NotAccepted line cause) = ⊥
EndsMaking (status.Usage fault) = ⊥
EndsMaking (status.BadFile file line cause) = ⊥
EndsMaking status.ReadFault = ⊥
EndsMaking status.WriteFault = Unit {0}
EndsMaking (status.Limit fault) = ⊥
EndsMaking status.OutOfMemory = Unit {0}
