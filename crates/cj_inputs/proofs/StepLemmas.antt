-- How the parts of a run end.
use Rattle.std.proofs.Common.{◌≡◌, ℕ, [], Bool, ◌*◌, ◌-◌, ◌<◌, ◌≤◌, List, length, true, false, Option, Some, Result, Ok, Err, refl, sym, ap, subst, ◌∙◌, arith}
use Rattle.std.specs.Prelude.{nat_le}
use Rattle.std.proofs.lemmas.Bool.Decides.{nat_tests}
use Rattle.cj_io.specs.declared.file.FileBytes.{FileBytes}
use Rattle.cj_io.specs.declared.folder.FolderError.{FolderError}
use Rattle.cj_io.specs.declared.folder.FolderError.TheVariants as folder
use Rattle.cj_io.specs.declared.name.Name.{Name}
use Rattle.cj_io.specs.Files.{names_of}
use Rattle.cj_case.specs.PlainProblems.{PlainProblem}
use Rattle.cj_track.specs.PlainTracks.{PlainTrack}
use Rattle.cj_words.specs.Limits.{most_certificate_bytes}
use Rattle.cj_words.specs.Settings.{PlainSettings}
use Rattle.cj_status.specs.declared.status.Status.{Status}
use Rattle.cj_status.specs.declared.status.Status.TheVariants as status
use Rattle.cj_status.specs.declared.status.LimitFault.TheVariants.{Objects, Window, Slots}
use Rattle.cj_inputs.specs.declared.reading.InputError.{InputError}
use Rattle.cj_inputs.specs.declared.reading.InputError.TheVariants as input
use Rattle.cj_inputs.specs.declared.input_files.Entry.{Entry}
use Rattle.cj_inputs.specs.InputFiles.{apart_of, inputs_of}
use Rattle.cj_inputs.specs.ObjectAttributes.{PlainAttributes, attributes_asked}
use Rattle.cj_inputs.specs.ObjectPrimaries.{object_primaries}
use Rattle.cj_inputs.specs.ObjectSizes.{first_named, object_sizes}
use Rattle.cj_inputs.specs.Windows.{window_first, window_last}
use Rattle.cj_status.specs.Steps.{◌>>=◌, ComesBetween, Stops, Gives}
use Rattle.cj_inputs.specs.Readings.{readings_of, Reads}
use Rattle.cj_status.specs.Errors.{folder_status}
use Rattle.cj_inputs.specs.Errors.{input_status}
use Rattle.cj_inputs.specs.Cases.{case_asked, case_of_run, case_with, object_slots, within_limits, within_objects}
use Rattle.cj_inputs.specs.Updates.{case_with_updates}
use Rattle.cj_inputs.specs.CheckInputs.{PlainInputs, certificate_named, inputs_asked, input_at, input_named, report_if_named, report_named}
use Rattle.cj_status.specs.declared.status.CertificateCause.{CertificateCause}
use Rattle.cj_status.specs.declared.status.CertificateCause.TheVariants.{NoFile, NoReport}
use Rattle.cj_words.specs.Commands.{PlainChecking}

-- what ended a step ends those behind it
pub stops_behind : {A B : Type 0} (P Q : Type 0) (s : Status) (due : Result A Status) (f : A → Result B Status)
    → (P → Q) → Stops P s due → Stops Q s (due >>= f)
stops_behind P Q status.Ok due f wider ends = ends
stops_behind P Q (status.NotAccepted line cause) due f wider ends = rw ends refl
stops_behind P Q (status.Usage fault) due f wider ends = rw ends refl
stops_behind P Q (status.BadFile file line cause) due f wider ends = rw ends refl
stops_behind P Q status.ReadFault due f wider ends = wider ends
stops_behind P Q status.WriteFault due f wider ends = ends
stops_behind P Q (status.Limit fault) due f wider ends = rw ends refl
stops_behind P Q status.OutOfMemory due f wider ends = tt

-- where nothing is read, no fault of the folder ends it
pub stops_unread : {X A : Type 0} (s : Status) (due : Result A Status) → Stops ⊥ s due → ◌≡◌ {A = Result X Status} (Err s) (Err status.ReadFault) → ⊥
stops_unread s due stops is =
    let same : s ≡ status.ReadFault = cc in
    subst (λ ended. Stops ⊥ ended due) same stops

pub gives_unread : {X A : Type 0} (view : X → A) (r : Result X Status) (due : Result A Status) → Gives ⊥ view r due → r ≡ Err status.ReadFault → ⊥
gives_unread view r due gives is = subst (λ ended. Gives ⊥ view ended due) is gives

-- a reading that was given up ends the run between its words and its writes
pub comes_between : (why : InputError) → ComesBetween (input_status why)
comes_between input.Memory = tt
comes_between input.Failed = tt
comes_between (input.Refused file line cause) = tt
comes_between (input.Limit fault) = tt

-- where it ends for a fault of the folder, the folder failed
pub folder_failed : {X A P : Type 0} (why : InputError) → (◌≡◌ {A = Result X InputError} (Err why) (Err input.Failed) → P)
    → ◌≡◌ {A = Result A Status} (Err (input_status why)) (Err status.ReadFault) → P
folder_failed input.Memory failed is = absurd cc
folder_failed input.Failed failed is = failed refl
folder_failed (input.Refused file line cause) failed is = absurd cc
folder_failed (input.Limit fault) failed is = absurd cc

-- more files than may be
pub too_many : (most : ℕ) (entries asked : List Entry) → entries ≡ asked → most < length entries → within_objects most asked ≡ Err (status.Limit (Objects (length entries)))
too_many most entries asked same more =
    let large : nat_le (length entries) most ≡ false = grind (arith, nat_tests) in
    rw (← same, large) refl

-- no more than may be
pub few_enough : (most : ℕ) (entries asked : List Entry) → entries ≡ asked → length entries ≤ most → within_objects most asked ≡ Ok entries
few_enough most entries asked same few =
    let small : nat_le (length entries) most ≡ true = grind (arith, nat_tests) in
    rw (← same, small) refl

-- the rest, once the files are known
pub asked_of_entries : (files : List FileBytes) (settings : PlainSettings) (entries : List Entry)
    → within_objects settings.limits.objects (inputs_of settings.suffix (apart_of settings) (names_of files)) ≡ Ok entries
    → case_asked files settings ≡ (readings_of settings files entries >>= λ es. attributes_asked es [] files settings >>= λ said. within_limits settings.limits.object_slots (case_of_run settings es said))
unfolding case_asked
asked_of_entries files settings entries taken = rw taken refl

-- the files that are taken are not listed
pub entries_fail : (rose : Type 0) (files : List FileBytes) (settings : PlainSettings) (names : List Name) (s : Status) → names ≡ names_of files
    → Stops ⊥ s (within_objects settings.limits.objects (inputs_of settings.suffix (apart_of settings) names)) → Stops rose s (case_asked files settings)
unfolding case_asked
entries_fail rose files settings names s known stops =
    stops_behind ⊥ rose s (within_objects settings.limits.objects (inputs_of settings.suffix (apart_of settings) (names_of files)))
    (λ entries. readings_of settings files entries >>= λ es. attributes_asked es [] files settings
    >>= λ said. within_limits settings.limits.object_slots (case_of_run settings es said))
    (λ none. absurd none) (subst (λ (ns : List Name). Stops ⊥ s (within_objects settings.limits.objects (inputs_of settings.suffix (apart_of settings) ns))) known stops)

-- a reading that was given up, as the run's cause
pub input_stops : {X A B : Type 0} (P Q : Type 0) (view : X → A) (why : InputError) (read : Result A Status) (f : A → Result B Status) → (P → Q)
    → Reads P view (Err why) read → Stops Q (input_status why) (read >>= f)
input_stops P Q view input.Memory read f rose here = tt
input_stops P Q view input.Failed read f rose here = rose here
input_stops {X} {A} {B} P Q view (input.Refused file line cause) read f rose here = ap (λ (r : Result A Status). r >>= f) here
input_stops {X} {A} {B} P Q view (input.Limit fault) read f rose here = ap (λ (r : Result A Status). r >>= f) here

-- a file is not read
pub tracks_fail : {X : Type 0} (rose : Type 0) (view : X → List PlainTrack) (files : List FileBytes) (settings : PlainSettings) (entries : List Entry) (why : InputError)
    → within_objects settings.limits.objects (inputs_of settings.suffix (apart_of settings) (names_of files)) ≡ Ok entries
    → Reads rose view (Err why) (readings_of settings files entries)
    → Stops rose (input_status why) (case_asked files settings)
tracks_fail rose view files settings entries why taken read =
    let rest : List PlainTrack → Result PlainProblem Status = λ es. attributes_asked es [] files settings >>= λ said. within_limits settings.limits.object_slots (case_of_run settings es said) in
    rw (asked_of_entries files settings entries taken)
    (input_stops rose rose view why (readings_of settings files entries) rest (λ risen. risen) read)

-- the rest, once the tracks are read
pub asked_of_tracks : (files : List FileBytes) (settings : PlainSettings) (entries : List Entry) (es : List PlainTrack)
    → within_objects settings.limits.objects (inputs_of settings.suffix (apart_of settings) (names_of files)) ≡ Ok entries
    → readings_of settings files entries ≡ Ok es
    → case_asked files settings ≡ (attributes_asked es [] files settings >>= λ said. within_limits settings.limits.object_slots (case_of_run settings es said))
asked_of_tracks files settings entries es taken read = asked_of_entries files settings entries taken ∙ rw read refl

-- the files beside ephemerides are not read
pub attributes_fail : {X : Type 0} (later rose : Type 0) (view : X → PlainAttributes) (files : List FileBytes) (settings : PlainSettings) (es : List PlainTrack) (why : InputError) → (later → rose)
    → case_asked files settings ≡ (attributes_asked es [] files settings >>= λ said. within_limits settings.limits.object_slots (case_of_run settings es said))
    → Reads later view (Err why) (attributes_asked es [] files settings)
    → Stops rose (input_status why) (case_asked files settings)
attributes_fail later rose view files settings es why wider is read =
    rw is (input_stops later rose view why (attributes_asked es [] files settings) (λ said. within_limits settings.limits.object_slots (case_of_run settings es said)) wider read)

-- the rest, once all is read
pub asked_of_attributes : (files : List FileBytes) (settings : PlainSettings) (es : List PlainTrack) (said : PlainAttributes)
    → case_asked files settings ≡ (attributes_asked es [] files settings >>= λ given. within_limits settings.limits.object_slots (case_of_run settings es given))
    → attributes_asked es [] files settings ≡ Ok said
    → case_asked files settings ≡ within_limits settings.limits.object_slots (case_of_run settings es said)
asked_of_attributes files settings es said is read = is ∙ rw read refl

-- the case that is asked has this window, these radii and these primaries
pub case_made : (settings : PlainSettings) (es : List PlainTrack) (said : PlainAttributes) (first last : ℕ) (radii : List ℕ) (marks : Option (List Bool))
    → first ≡ window_first settings es → last ≡ window_last settings es → radii ≡ object_sizes said.sizes es → marks ≡ object_primaries said.primaries es
    → within_limits settings.limits.object_slots (case_of_run settings es said) ≡ within_limits settings.limits.object_slots (case_with es first last (settings.threshold * 1_000_000_000) radii marks)
case_made settings es said first last radii marks starts ends sized marked = rw (starts, ends, sized, marked) refl

-- what a folder's error means for what is due
pub folder_stops : {A : Type 0} (P : Type 0) (e : FolderError) (due : Result A Status) → (e ≡ folder.Failed → P) → Stops P (folder_status e) due
folder_stops P folder.Memory due rose = tt
folder_stops P folder.Failed due rose = rose refl

pub stops_wider : {A : Type 0} (P Q : Type 0) (s : Status) (due : Result A Status) → (P → Q) → Stops P s due → Stops Q s due
stops_wider P Q status.Ok due wider ends = ends
stops_wider P Q (status.NotAccepted line cause) due wider ends = ends
stops_wider P Q (status.Usage fault) due wider ends = ends
stops_wider P Q (status.BadFile file line cause) due wider ends = ends
stops_wider P Q status.ReadFault due wider ends = wider ends
stops_wider P Q status.WriteFault due wider ends = ends
stops_wider P Q (status.Limit fault) due wider ends = ends
stops_wider P Q status.OutOfMemory due wider ends = ends

pub gives_wider : {X A : Type 0} (P Q : Type 0) (view : X → A) (r : Result X Status) (due : Result A Status) → (P → Q) → Gives P view r due → Gives Q view r due
gives_wider P Q view (Ok x) due wider gives = gives
gives_wider P Q view (Err s) due wider gives = stops_wider P Q s due wider gives

-- a reading that was given up, as the run's cause where nothing is to come
pub input_ends : {X A : Type 0} (P : Type 0) (view : X → A) (why : InputError) (read : Result A Status) → Reads P view (Err why) read
    → Stops P (input_status why) read
input_ends P view input.Memory read here = tt
input_ends P view input.Failed read here = here
input_ends P view (input.Refused file line cause) read here = here
input_ends P view (input.Limit fault) read here = here

-- a folder's error ends the run between its words and its writes
pub folder_between : (e : FolderError) → ComesBetween (folder_status e)
folder_between folder.Memory = tt
folder_between folder.Failed = tt

-- where it ends for a fault of the folder, the folder failed
pub listing_failed : {X P : Type 0} (e : FolderError) → (e ≡ folder.Failed → P) → ◌≡◌ {A = Result X Status} (Err (folder_status e)) (Err status.ReadFault) → P
listing_failed folder.Memory failed is = absurd cc
listing_failed folder.Failed failed is = failed refl

-- ---- the limits of a case

-- a window that is too long
pub too_long : (most : ℕ) (case : PlainProblem) (length : ℕ) → length ≡ case.last - case.first → 1_209_600_000_000 < length
    → within_limits most case ≡ Err (status.Limit (Window length))
too_long most case length is more =
    let large : nat_le length 1_209_600_000_000 ≡ false = grind (arith, nat_tests) in
    rw (← is, large) refl

-- too many objects times slots
pub too_many_slots : (most : ℕ) (case : PlainProblem) (length count : ℕ) → length ≡ case.last - case.first → length ≤ 1_209_600_000_000 → count ≡ object_slots case
    → most < count
    → within_limits most case ≡ Err (status.Limit (Slots count))
too_many_slots most case length count is short same more =
    let small : nat_le length 1_209_600_000_000 ≡ true = grind (arith, nat_tests) in
    let large : nat_le count most ≡ false = grind (arith, nat_tests) in
    rw (← is, small, ← same, large) refl

-- neither
pub no_limit : (most : ℕ) (case : PlainProblem) (length count : ℕ) → length ≡ case.last - case.first → length ≤ 1_209_600_000_000 → count ≡ object_slots case
    → count ≤ most → within_limits most case ≡ Ok case
no_limit most case length count is short same few =
    let small : nat_le length 1_209_600_000_000 ≡ true = grind (arith, nat_tests) in
    let fits : nat_le count most ≡ true = grind (arith, nat_tests) in
    rw (← is, small, ← same, fits) refl

-- ---- the certificate and the report

-- an input is that of the first file with the name, once the names are known
pub input_found : (most : ℕ) (missing : CertificateCause) (files : List FileBytes) (name : List ℕ) (names : List Name) (number : Option ℕ) → names ≡ names_of files
    → number ≡ first_named name names
    → input_named most missing files name ≡ input_at most missing files name number
input_found most missing files name names number known is = ap (input_at most missing files name) (sym (is ∙ ap (first_named name) known))

abbrev all : PlainProblem → List ℕ → Option (List ℕ) → PlainInputs
all case bytes report = record { case = case; bytes = bytes; report = report }

-- the case is not made
pub case_fails : (later rose : Type 0) (files : List FileBytes) (checking : PlainChecking) (s : Status) → (later → rose)
    → Stops later s (case_with_updates files checking.settings checking.update) → Stops rose s (inputs_asked files checking)
unfolding inputs_asked
case_fails later rose files checking s wider stops =
    stops_behind later rose s (case_with_updates files checking.settings checking.update)
    (λ case. certificate_named (most_certificate_bytes checking.settings.large) files checking.certificate >>= λ bytes. report_if_named (most_certificate_bytes checking.settings.large) files checking.report >>= λ report. Ok (all case bytes report)) wider stops

-- the most bytes of its files
abbrev IsMost : PlainChecking → ℕ → Type 0
IsMost checking most = most ≡ most_certificate_bytes checking.settings.large

certificate_for : (files : List FileBytes) (checking : PlainChecking) (most : ℕ) → IsMost checking most
    → certificate_named (most_certificate_bytes checking.settings.large) files checking.certificate ≡ input_named most NoFile files checking.certificate
unfolding certificate_named
certificate_for files checking most same = ap (λ (n : ℕ). input_named n NoFile files checking.certificate) (sym same)

report_for : (files : List FileBytes) (checking : PlainChecking) (most : ℕ) → IsMost checking most
    → report_if_named (most_certificate_bytes checking.settings.large) files checking.report ≡ report_if_named most files checking.report
report_for files checking most same = ap (λ (n : ℕ). report_if_named n files checking.report) (sym same)

-- the certificate is not read
pub certificate_fails : (later rose : Type 0) (files : List FileBytes) (checking : PlainChecking) (case : PlainProblem) (most : ℕ) (s : Status) → (later → rose) → IsMost checking most
    → case_with_updates files checking.settings checking.update ≡ Ok case → Stops later s (input_named most NoFile files checking.certificate) → Stops rose s (inputs_asked files checking)
unfolding inputs_asked
certificate_fails later rose files checking case most s wider same made stops =
    rw (made, certificate_for files checking most same) (stops_behind later rose s (input_named most NoFile files checking.certificate)
    (λ bytes. report_if_named (most_certificate_bytes checking.settings.large) files checking.report >>= λ report. Ok (all case bytes report)) wider stops)

-- the report is not read
pub report_fails : (later rose : Type 0) (files : List FileBytes) (checking : PlainChecking) (case : PlainProblem) (bytes : List ℕ) (most : ℕ) (s : Status) → (later → rose) → IsMost checking most
    → case_with_updates files checking.settings checking.update ≡ Ok case → input_named most NoFile files checking.certificate ≡ Ok bytes
    → Stops later s (report_if_named most files checking.report) → Stops rose s (inputs_asked files checking)
unfolding inputs_asked
report_fails later rose files checking case bytes most s wider same made read stops =
    rw (made, certificate_for files checking most same, read, report_for files checking most same)
    (stops_behind later rose s (report_if_named most files checking.report) (λ report. Ok (all case bytes report)) wider stops)

-- all are there
pub inputs_made : (files : List FileBytes) (checking : PlainChecking) (case : PlainProblem) (bytes : List ℕ) (report : Option (List ℕ)) (most : ℕ) → IsMost checking most
    → case_with_updates files checking.settings checking.update ≡ Ok case → input_named most NoFile files checking.certificate ≡ Ok bytes
    → report_if_named most files checking.report ≡ Ok report → inputs_asked files checking ≡ Ok (all case bytes report)
unfolding inputs_asked
inputs_made files checking case bytes report most same made read beside =
    rw (made, certificate_for files checking most same, read, report_for files checking most same, beside) refl

-- a report that is named and not read
pub named_fails : (most : ℕ) (rose : Type 0) (files : List FileBytes) (name : List ℕ) (s : Status) → Stops rose s (input_named most NoReport files name)
    → Stops rose s (report_if_named most files (Some name))
unfolding report_named
named_fails most rose files name s stops = stops_behind rose rose s (input_named most NoReport files name) (λ bytes. Ok (Some bytes)) (λ risen. risen) stops

-- one that is
pub named_read : (most : ℕ) (files : List FileBytes) (name bytes : List ℕ) → input_named most NoReport files name ≡ Ok bytes → report_if_named most files (Some name) ≡ Ok (Some bytes)
unfolding report_named
named_read most files name bytes read = rw read refl
