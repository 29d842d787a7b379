-- A made-up catalogue that is screened: no file of it is refused.
use Rattle.std.proofs.Common.{◌≡◌, ℕ, zero, suc, ◌+◌, ◌-◌, ◌<◌, ◌≤◌, Bool, true, false, cond, List, [], ◌∷◌, ◌++◌, length, get_or, Some, None, Result, Ok, Err, refl, sym, ap, ap₂, subst, ◌∙◌, arith}
use Rattle.std.specs.Prelude.{IfErr, IfOk, nat_le, slice_get}
use Rattle.std.proofs.lemmas.Bool.Decides.{nat_tests}
use Rattle.std.specs.List.{AllByRecursion}
use Rattle.cj_base.specs.Limits.{USUAL}
use Rattle.cj_io.specs.declared.file.FileBytes.{FileBytes}
use Rattle.cj_io.specs.Faults.{Rose}
use Rattle.cj_io.specs.Files.{bytes_of, names_of}
use Rattle.cj_formats.specs.declared.cert_format.CertFormat.{CertFormat}
use Rattle.cj_formats.specs.declared.cert_format.CertFormat.TheVariants.{Full}
use Rattle.cj_formats.specs.declared.cert_version.CertVersion.{CertVersion}
use Rattle.cj_track.specs.declared.frame.Frame.{Frame}
use Rattle.cj_track.specs.declared.frame.Frame.TheVariants as frames
use Rattle.cj_track.specs.PlainTracks.{PlainTrack}
use Rattle.cj_oem.specs.Metadata.{same_frame}
use Rattle.cj_oem.specs.Reading.{Fault, reading}
use Rattle.cj_oem.proofs.MetadataLemmas.{frame_itself}
use Rattle.cj_gen.specs.Catalogues.{catalogue_of, file_of}
use Rattle.cj_gen.specs.MadeTracks.{track_of, track_on}
use Rattle.cj_gen.proofs.TrackLemmas.{file_at, file_count, made_read}
use Rattle.cj_case.specs.PlainProblems.{PlainProblem}
use Rattle.cj_words.specs.Commands.{PlainSelfrun}
use Rattle.cj_status.specs.declared.status.Status.{Status}
use Rattle.cj_status.specs.declared.status.Status.TheVariants as status
use Rattle.cj_status.specs.declared.status.FileCause.TheVariants.{MixedFrames}
use Rattle.cj_status.specs.declared.status.LimitFault.{LimitFault}
use Rattle.cj_status.specs.declared.status.LimitFault.TheVariants as limit
use Rattle.cj_status.specs.Steps.{◌>>=◌, Gives, IsLimit, Stops}
use Rattle.cj_inputs.specs.declared.input_files.Entry.{Entry}
use Rattle.cj_inputs.specs.Cases.{case_asked, case_of_run, object_slots, within_limits, within_objects, within_slots, within_window}
use Rattle.cj_inputs.specs.InputFiles.{apart_of, inputs_of}
use Rattle.cj_inputs.specs.ObjectAttributes.{PlainAttributes, attributes_asked}
use Rattle.cj_inputs.specs.ObjectPrimaries.{primaries_asked}
use Rattle.cj_inputs.specs.ObjectSizes.{sizes_asked}
use Rattle.cj_inputs.specs.Readings.{checked_after, has_frame_of, nodes_in, reading_after, reading_of, readings_after, readings_of, refused_of, within_nodes}
use Rattle.cj_inputs.proofs.InputFileLemmas.{Stands, inputs_stand}
use Rattle.cj_case.specs.Problems.{plain_problem}
use Rattle.cj_cells.specs.Lists.{list_candidates}
use Rattle.cj_outputs.specs.declared.findings.Findings.{Findings}
use Rattle.cj_outputs.specs.Findings.{AreFound, case_in, outputs_in}
use Rattle.cj_outputs.specs.Messages.{PlainOrigin}
use Rattle.cj_outputs.specs.Outcome.{ComesOfSelfrun, case_of_selfrun, few_told, outputs_limited, outputs_of_selfrun, outputs_with, outputs_within, settings_of_selfrun, selfrun_output, selfrun_within, told_in, within_cells, within_told}
use Rattle.cj_report.specs.declared.tells.Tells.{Tells}

-- ---- nothing but a limit

-- one step after another
then : {A B : Type 0} (r : Result A Status) (f : A → Result B Status) → IfErr r IsLimit → ((x : A) → r ≡ Ok x → IfErr (f x) IsLimit) → IfErr (r >>= f) IsLimit
then (Ok x) f is more = more x refl
then (Err s) f is more = is

limited : {A : Type 0} (b : Bool) (x : A) (fault : LimitFault) → IfErr (cond b (Ok x) (Err (status.Limit fault))) IsLimit
limited true x fault = tt
limited false x fault = tt

-- where it is within the limit, it stays
kept : {A : Type 0} (b : Bool) (x y : A) (fault : LimitFault) → ◌≡◌ {A = Result A Status} (cond b (Ok x) (Err (status.Limit fault))) (Ok y) → x ≡ y
kept true x y fault same = cc
kept false x y fault same = absurd cc

-- ---- a file that is read in a frame

record IsReadIn (frame : Frame) (file : FileBytes) : Type 0 where
  track : PlainTrack
  read : reading file.name file.bytes false ≡ Ok track
  framed : track.frame ≡ frame

read_limits : (frame : Frame) (name bytes : List ℕ) → IsReadIn frame (record { name = name; bytes = bytes }) → IfErr (reading_of false name bytes) IsLimit
unfolding reading_of
read_limits frame name bytes is = by_size (nat_le (length bytes) 67_108_864)
  where
    by_size : (b : Bool) → IfErr (cond b (Ok bytes) (Err (status.Limit (limit.FileBytes name))) >>= λ whole. refused_of name (reading name whole false)) IsLimit
    by_size true = subst (λ (r : Result PlainTrack Fault). IfErr (refused_of name r) IsLimit) (sym is.read) tt
    by_size false = tt

read_framed : (frame : Frame) (name bytes : List ℕ) (e : PlainTrack) → IsReadIn frame (record { name = name; bytes = bytes }) → reading_of false name bytes ≡ Ok e → e.frame ≡ frame
unfolding reading_of
read_framed frame name bytes e is = by_size (nat_le (length bytes) 67_108_864)
  where
    by_size : (b : Bool) → ◌≡◌ {A = Result PlainTrack Status} (cond b (Ok bytes) (Err (status.Limit (limit.FileBytes name))) >>= λ whole. refused_of name (reading name whole false)) (Ok e) → e.frame ≡ frame
    by_size true same =
        let both : ◌≡◌ {A = Result PlainTrack Status} (Ok is.track) (Ok e) = ap (refused_of name) (sym is.read) ∙ same in
        let it : is.track ≡ e = cc in
        ap (λ (x : PlainTrack). x.frame) (sym it) ∙ is.framed
    by_size false same = absurd cc

-- ---- several files of one frame

abbrev BeginsIn : Frame → List PlainTrack → Type 0
BeginsIn frame [] = Unit {0}
BeginsIn frame (e ∷ es) = e.frame ≡ frame

begins_more : (frame : Frame) (before : List PlainTrack) (e : PlainTrack) → BeginsIn frame before → e.frame ≡ frame → BeginsIn frame (before ++ e ∷ [])
begins_more frame [] e begins own = own
begins_more frame (d ∷ before) e begins own = begins

has_same : (frame : Frame) (before : List PlainTrack) (e : PlainTrack) → BeginsIn frame before → e.frame ≡ frame → has_frame_of before e ≡ true
has_same frame [] e begins own = refl
has_same frame (d ∷ before) e begins own = ap₂ same_frame begins own ∙ frame_itself frame

checked_limits : (most : ℕ) (before : List PlainTrack) (name : List ℕ) (e : PlainTrack) → has_frame_of before e ≡ true → IfErr (checked_after most before name e) IsLimit
checked_limits most before name e same =
    rw same (limited (nat_le (nodes_in (before ++ e ∷ [])) most) e (limit.Nodes (nodes_in (before ++ e ∷ []))))

checked_kept : (most : ℕ) (before : List PlainTrack) (name : List ℕ) (d e : PlainTrack) → checked_after most before name d ≡ Ok e → d ≡ e
checked_kept most before name d e = by_frame (has_frame_of before d)
  where
    by_frame : (b : Bool) → ◌≡◌ {A = Result PlainTrack Status} (cond b (Ok d) (Err (status.BadFile name 0 MixedFrames)) >>= within_nodes most before) (Ok e) → d ≡ e
    by_frame true same = kept (nat_le (nodes_in (before ++ d ∷ [])) most) d e (limit.Nodes (nodes_in (before ++ d ∷ []))) same
    by_frame false same = absurd cc

after_framed : (most : ℕ) (frame : Frame) (before : List PlainTrack) (name : List ℕ) (e : PlainTrack) (r : Result PlainTrack Status) → ((d : PlainTrack) → r ≡ Ok d → d.frame ≡ frame)
    → (r >>= checked_after most before name) ≡ Ok e → e.frame ≡ frame
after_framed most frame before name e (Ok d) framed same = ap (λ (x : PlainTrack). x.frame) (sym (checked_kept most before name d e same)) ∙ framed d refl
after_framed most frame before name e (Err s) framed same = absurd cc

abbrev ReadsAt : Frame → List FileBytes → Entry → Type 0
ReadsAt frame files entry = IsReadIn frame (record { name = entry.name; bytes = bytes_of files entry.number })

readings_limit : (selfrun : PlainSelfrun) (frame : Frame) (files : List FileBytes) (before : List PlainTrack) (entries : List Entry) → BeginsIn frame before → AllByRecursion (ReadsAt frame files) entries
    → IfErr (readings_after (settings_of_selfrun selfrun) files before entries) IsLimit
readings_limit selfrun frame files before [] begins all = tt
readings_limit selfrun frame files before (entry ∷ entries) begins all =
    let bytes = bytes_of files entry.number in
    let read = read_framed frame entry.name bytes in
    let here : IfErr (reading_after (settings_of_selfrun selfrun) files before entry) IsLimit =
    then (reading_of false entry.name bytes) (checked_after USUAL.nodes before entry.name) (read_limits frame entry.name bytes all.0)
    (λ d same. checked_limits USUAL.nodes before entry.name d (has_same frame before d begins (read d all.0 same))) in
    then (reading_after (settings_of_selfrun selfrun) files before entry) (λ e. readings_after (settings_of_selfrun selfrun) files (before ++ e ∷ []) entries) here
    (λ e same.
    let own = after_framed USUAL.nodes frame before entry.name e (reading_of false entry.name bytes) (λ d is. read d all.0 is) same in
    readings_limit selfrun frame files (before ++ e ∷ []) entries (begins_more frame before e begins own) all.1)

-- ---- the files of a folder

read_at : (frame : Frame) (files : List FileBytes) (n : ℕ) (name : List ℕ) → AllByRecursion (IsReadIn frame) files → slice_get (names_of files) n ≡ Some name
    → IsReadIn frame (record { name = name; bytes = bytes_of files n })
read_at frame [] n name all stands = absurd cc
read_at frame (file ∷ files) zero name all stands =
    let same : file.name ≡ name = cc in
    subst (λ (text : List ℕ). IsReadIn frame (record { name = text; bytes = file.bytes })) same all.0
read_at frame (file ∷ files) (suc n) name all stands = read_at frame files n name all.1 stands

reads_all : (frame : Frame) (files : List FileBytes) (entries : List Entry) → AllByRecursion (IsReadIn frame) files → AllByRecursion (Stands (names_of files)) entries → AllByRecursion (ReadsAt frame files) entries
reads_all frame files [] all stand = tt
reads_all frame files (entry ∷ entries) all stand = (read_at frame files entry.number entry.name all stand.0, reads_all frame files entries all stand.1)

window_limits : (most : ℕ) (case : PlainProblem) → IfErr (within_limits most case) IsLimit
window_limits most case =
    then (within_window case) (within_slots most) (limited (nat_le (case.last - case.first) 1_209_600_000_000) case (limit.Window (case.last - case.first)))
    (λ c same. limited (nat_le (object_slots c) most) c (limit.Slots (object_slots c)))

-- ---- a made-up catalogue

each_read : (seed objects minutes : ℕ) → 1 ≤ minutes → minutes ≤ 1440 → (files : List FileBytes) (n : ℕ) → ((i : ℕ) (d : FileBytes) → i < length files → get_or files i d ≡ file_of seed minutes (n + i))
    → AllByRecursion (IsReadIn frames.Eme2000) files
unfolding track_on
each_read seed objects minutes some few [] n places = tt
each_read seed objects minutes some few (file ∷ files) n places =
    let k : n + 0 ≡ n = omega arith in
    let here : file_of seed minutes n ≡ file = sym (places 0 file (omega arith) ∙ ap (file_of seed minutes) k) in (
      subst (IsReadIn frames.Eme2000) here (record { track = track_of seed minutes n; read = made_read seed minutes n some few; framed = refl }),
      each_read seed objects minutes some few files (n + 1)
          (λ i d below. let m : n + suc i ≡ n + 1 + i = omega arith in places (suc i) d (omega arith) ∙ ap (file_of seed minutes) m),
    )

-- the case of a made-up catalogue is there, or a limit is exceeded
pub selfrun_limits : (selfrun : PlainSelfrun) → 1 ≤ selfrun.recipe.minutes → selfrun.recipe.minutes ≤ 1440 → IfErr (case_of_selfrun selfrun) IsLimit
unfolding case_of_selfrun case_asked attributes_asked sizes_asked primaries_asked
selfrun_limits selfrun some few =
    let seed = selfrun.recipe.seed in
    let objects = selfrun.recipe.objects in
    let minutes = selfrun.recipe.minutes in
    let files = catalogue_of seed objects minutes in
    let settings = settings_of_selfrun selfrun in
    let nothing_said : PlainAttributes = record { sizes = []; primaries = None } in
    let entries = inputs_of settings.suffix (apart_of settings) (names_of files) in
    let read = each_read seed objects minutes some few files 1 (λ i d below. file_at seed objects minutes i d (omega (arith, file_count seed objects minutes))) in
    then (within_objects settings.limits.objects entries) (λ es. readings_of settings files es >>= λ tracks. within_limits settings.limits.object_slots (case_of_run settings tracks nothing_said))
    (limited (nat_le (length entries) settings.limits.objects) entries (limit.Objects (length entries)))
    (λ es same.
    let is : entries ≡ es = kept (nat_le (length entries) settings.limits.objects) entries es (limit.Objects (length entries)) same in
    let stand = subst (AllByRecursion (Stands (names_of files))) is (inputs_stand settings.suffix (apart_of settings) (names_of files)) in
    then (readings_of settings files es) (λ tracks. within_limits settings.limits.object_slots (case_of_run settings tracks nothing_said))
    (readings_limit selfrun frames.Eme2000 files [] es tt (reads_all frames.Eme2000 files es read stand))
    (λ tracks got. window_limits settings.limits.object_slots (case_of_run settings tracks nothing_said)))

-- what is due or a limit comes, or memory ran out
pub comes_of_selfrun : {X A : Type 0} (read : Type 0) (view : X → A) (r : Result X Status) (due : Result A Status) → ¬ read → Gives read view r due → IfErr due IsLimit → IfErr r ComesOfSelfrun
comes_of_selfrun read view (Ok x) due calm gives is = tt
comes_of_selfrun read view (Err status.Ok) due calm gives is = absurd gives
comes_of_selfrun read view (Err (status.NotAccepted line cause)) due calm gives is = subst (λ r. IfErr r IsLimit) gives is
comes_of_selfrun read view (Err (status.Usage fault)) due calm gives is = subst (λ r. IfErr r IsLimit) gives is
comes_of_selfrun read view (Err (status.BadFile file line cause)) due calm gives is = subst (λ r. IfErr r IsLimit) gives is
comes_of_selfrun read view (Err status.ReadFault) due calm gives is = absurd (calm gives)
comes_of_selfrun read view (Err status.WriteFault) due calm gives is = absurd gives
comes_of_selfrun read view (Err (status.Limit fault)) due calm gives is = tt
comes_of_selfrun read view (Err status.OutOfMemory) due calm gives is = tt

-- the count of a folder that never fails
pub calm_count : ¬ Rose 0 0
calm_count rose = omega (arith, rose)

-- where no read fails, none ends it
pub gives_calm : {X A : Type 0} (read : Type 0) (view : X → A) (r : Result X Status) (due : Result A Status) → ¬ read → Gives read view r due → Gives ⊥ view r due
gives_calm read view (Ok x) due calm gives = gives
gives_calm read view (Err status.Ok) due calm gives = gives
gives_calm read view (Err (status.NotAccepted line cause)) due calm gives = gives
gives_calm read view (Err (status.Usage fault)) due calm gives = gives
gives_calm read view (Err (status.BadFile file line cause)) due calm gives = gives
gives_calm read view (Err status.ReadFault) due calm gives = absurd (calm gives)
gives_calm read view (Err status.WriteFault) due calm gives = gives
gives_calm read view (Err (status.Limit fault)) due calm gives = gives
gives_calm read view (Err status.OutOfMemory) due calm gives = gives

-- ---- the same steps to other outputs

turned : {A B C : Type 0} (b : Bool) (x : A) (e s : Status) (f : A → B) (h : A → C) → ◌≡◌ {A = Result B Status} (cond b (Ok x) (Err e) >>= λ y. Ok (f y)) (Err s)
    → ◌≡◌ {A = Result C Status} (cond b (Ok x) (Err e) >>= λ y. Ok (h y)) (Err s)
turned true x e s f h is = absurd cc
turned false x e s f h is = let same : e ≡ s = cc in ap (λ (t : Status). Err t) same

stops_turned : {A B C : Type 0} (b : Bool) (x : A) (e s : Status) (f : A → B) (h : A → C) → Stops ⊥ s (cond b (Ok x) (Err e) >>= λ y. Ok (f y)) → Stops ⊥ s (cond b (Ok x) (Err e) >>= λ y. Ok (h y))
stops_turned b x e status.Ok f h stops = stops
stops_turned b x e (status.NotAccepted line cause) f h stops = turned b x e (status.NotAccepted line cause) f h stops
stops_turned b x e (status.Usage fault) f h stops = turned b x e (status.Usage fault) f h stops
stops_turned b x e (status.BadFile file line cause) f h stops = turned b x e (status.BadFile file line cause) f h stops
stops_turned b x e status.ReadFault f h stops = stops
stops_turned b x e status.WriteFault f h stops = stops
stops_turned b x e (status.Limit fault) f h stops = turned b x e (status.Limit fault) f h stops
stops_turned b x e status.OutOfMemory f h stops = stops

there : {A B : Type 0} (b : Bool) (x : A) (e : Status) (y : B) (f : A → B) → ◌≡◌ {A = Result B Status} (cond b (Ok x) (Err e) >>= λ z. Ok (f z)) (Ok y) → b ≡ true
there true x e y f is = refl
there false x e y f is = absurd cc

-- the output of a made-up catalogue that is screened, and whose certificate is accepted
abbrev pub selfrun_in : Findings → FileBytes
selfrun_in found = selfrun_output (case_in found) (list_candidates (case_in found))

-- what is found is what the output of a catalogue's screening tells
pub selfrun_told : (most : ℕ) (tells : Tells) (format : CertFormat) (origin : PlainOrigin) (behind : List ℕ) (case : PlainProblem) (r : Result Findings Status)
    → Gives ⊥ (outputs_in origin) r (outputs_within most tells format origin behind case)
    → IfOk r (λ found. plain_problem found.problem ≡ case) → IfOk r AreFound → Gives ⊥ (λ found. selfrun_in found ∷ []) r (selfrun_within most case)
unfolding outputs_within
selfrun_told most tells format origin behind case (Ok found) told same are =
    let leaves = list_candidates case in
    let fits : nat_le (length leaves) most ≡ true = there (nat_le (length leaves) most) leaves (status.Limit (limit.Cells most)) (outputs_in origin found) (outputs_with tells format origin behind case) told in
    let output : selfrun_output case leaves ≡ selfrun_in found =
    ap (λ (c : PlainProblem). selfrun_output c (list_candidates c)) (sym same) in
    rw fits (ap (λ (p : FileBytes). Ok (p ∷ [])) output)
selfrun_told most tells format origin behind case (Err s) told same are =
    let leaves = list_candidates case in
    stops_turned (nat_le (length leaves) most) leaves (status.Limit (limit.Cells most)) s (outputs_with tells format origin behind case) (λ ss. selfrun_output case ss ∷ []) told

pub within_limits_of : (most : ℕ) (tells : Tells) (format : CertFormat) (origin : PlainOrigin) (behind : List ℕ) (case : PlainProblem) → IfErr (outputs_within most tells format origin behind case) IsLimit
unfolding outputs_within
within_limits_of most tells format origin behind case =
    let leaves = list_candidates case in
    then (within_cells most leaves) (λ ss. Ok (outputs_with tells format origin behind case ss)) (limited (nat_le (length leaves) most) leaves (limit.Cells most)) (λ ss same. tt)

-- nor does anything else end it where so many leaves may be told
pub limited_limits : (cells most : ℕ) (tells : Tells) (format : CertFormat) (origin : PlainOrigin) (behind : List ℕ) (case : PlainProblem)
    → IfErr (outputs_limited cells most tells format origin behind case) IsLimit
unfolding outputs_limited
limited_limits cells most tells format origin behind case =
    then (outputs_within cells tells format origin behind case) (λ outputs. within_told most format case >>= λ done. Ok outputs) (within_limits_of cells tells format origin behind case)
    (λ outputs same. then (within_told most format case) (λ done. Ok outputs) (limited (nat_le (length (told_in format case)) most) tt (limit.Told most)) (λ done is. tt))

-- that no more leaves are told than may be, by a test
abbrev pub told_judged : ℕ → Bool → Result (Unit {0}) Status
told_judged most few = cond few (Ok tt) (Err (status.Limit (limit.Told most)))

none_told : (most : ℕ) → few_told most 0 ≡ Ok tt
none_told most = let least : nat_le 0 most ≡ true = grind (arith, nat_tests) in ap (told_judged most) least

-- a certificate in full tells no leaves apart
pub in_full_limited : (cells most : ℕ) (tells : Tells) (version : CertVersion) (origin : PlainOrigin) (behind : List ℕ) (case : PlainProblem)
    → outputs_limited cells most tells (Full version) origin behind case ≡ outputs_within cells tells (Full version) origin behind case
unfolding outputs_limited
in_full_limited cells most tells version origin behind case = same (outputs_within cells tells (Full version) origin behind case)
  where
    same : (r : Result (List FileBytes) Status) → (r >>= λ outputs. within_told most (Full version) case >>= λ done. Ok outputs) ≡ r
    same (Ok outputs) = ap (λ (r : Result (Unit {0}) Status). r >>= λ done. Ok outputs) (none_told most)
    same (Err s) = refl

-- what is due, once the case is there
pub selfrun_after : (selfrun : PlainSelfrun) (case : PlainProblem) → case_of_selfrun selfrun ≡ Ok case → outputs_of_selfrun selfrun ≡ selfrun_within selfrun.cells case
unfolding outputs_of_selfrun
selfrun_after selfrun case there = ap (λ (r : Result PlainProblem Status). r >>= selfrun_within selfrun.cells) there
