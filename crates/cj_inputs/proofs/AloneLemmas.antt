-- Files that are read one after another, each for itself.
use Rattle.std.proofs.Common.{◌≡◌, ℕ, suc, ◌+◌, ◌<◌, Bool, List, [], ◌∷◌, ◌++◌, length, map, drop, add-one, drop-cons, get_or, Ok, Err, Result, refl, sym, ap, subst, ◌∙◌}
use Rattle.std.proofs.lemmas.List.{map-append}
use Rattle.cj_base.specs.Limits.{PlainLimits}
use Rattle.cj_io.specs.declared.file.FileBytes.{FileBytes}
use Rattle.cj_io.specs.declared.name.Name.{Name}
use Rattle.cj_io.specs.Files.{bytes_of, names_of}
use Rattle.cj_track.specs.PlainTracks.{PlainTrack}
use Rattle.cj_track.specs.Tracks.{plain_track}
use Rattle.cj_track.specs.declared.track.Track.{Track}
use Rattle.cj_oem.specs.Reading.{reading}
use Rattle.cj_words.specs.Commands.{PlainThinning}
use Rattle.cj_status.specs.declared.status.Status.{Status}
use Rattle.cj_status.specs.Steps.{◌>>=◌, Stops}
use Rattle.cj_inputs.specs.declared.batch.FileRead.{FileRead}
use Rattle.cj_inputs.specs.declared.input_files.Entry.{Entry}
use Rattle.cj_inputs.specs.declared.reading.InputError.{InputError}
use Rattle.cj_inputs.specs.declared.reading.InputError.TheVariants as input
use Rattle.cj_inputs.specs.Alone.{reading_alone, readings_alone, tracks_asked}
use Rattle.cj_inputs.specs.Batches.{WasRead, said_by}
use Rattle.cj_inputs.specs.Cases.{within_objects}
use Rattle.cj_inputs.specs.InputFiles.{inputs_of, none_apart}
use Rattle.cj_inputs.specs.Readings.{Reads, reading_of, refused_of, within_bytes, within_nodes}
use Rattle.cj_inputs.proofs.BatchLemmas.{reads_wider}
use Rattle.cj_inputs.proofs.ReadingLemmas.{reads_on}
use Rattle.cj_inputs.proofs.StepLemmas.{stops_behind}

-- ---- one file

-- a reading in which nothing failed, where something may
pub reads_anyway : {X A : Type 0} (P : Type 0) (view : X → A) (r : Result X InputError) (due : Result A Status) → Reads ⊥ view r due → Reads P view r due
reads_anyway P view (Ok x) due reads = reads
reads_anyway P view (Err why) due reads = reads_wider ⊥ P view view why due (λ none. absurd none) reads

-- and which failed for nothing of the folder
pub reads_calmly : {X A P : Type 0} (view : X → A) (r : Result X InputError) (due : Result A Status) → Reads ⊥ view r due → r ≡ Err input.Failed → P
reads_calmly {X} view r due reads is = absurd (subst (λ (read : Result X InputError). Reads ⊥ view read due) is reads)

-- bytes that are not read are no track
pub bytes_fail : {X Y : Type 0} (rose : Type 0) (view : X → List ℕ) (seen : Y → PlainTrack) (as_hermite3 : Bool) (name bytes : List ℕ) (why : InputError)
    → Reads rose view (Err why) (within_bytes name bytes) → Reads rose seen (Err why) (reading_of as_hermite3 name bytes)
unfolding reading_of
bytes_fail rose view seen as_hermite3 name bytes why here = reads_on rose view seen why (within_bytes name bytes) (λ whole. refused_of name (reading name whole as_hermite3)) here

-- the reading of a file that was read is what it says
pub reading_said : (as_hermite3 : Bool) (files : List FileBytes) (entry : Entry) (file : FileRead) → WasRead files entry file
    → reading_of as_hermite3 entry.name (bytes_of files entry.number) ≡ said_by as_hermite3 file
unfolding reading_of
reading_said as_hermite3 files entry file was =
    ap (λ (r : Result (List ℕ) Status). r >>= λ whole. refused_of entry.name (reading entry.name whole as_hermite3)) was.bytes
    ∙ ap (λ (name : List ℕ). refused_of name (reading name file.bytes.items as_hermite3)) (sym was.name)

-- ---- one after another

-- the reading from an entry on: that file, and then the rest
from_here : (as_hermite3 : Bool) (most : ℕ) (files : List FileBytes) (before : List PlainTrack) (entries : List Entry) (i : ℕ) (entry : Entry) → i < length entries
    → entry ≡ get_or entries i entry
    → readings_alone as_hermite3 most files before (drop i entries)
    ≡ (reading_alone as_hermite3 most files before entry >>= λ e. readings_alone as_hermite3 most files (before ++ e ∷ []) (drop (i + 1) entries))
from_here as_hermite3 most files before entries i entry below is =
    let next : drop i entries ≡ entry ∷ drop (i + 1) entries = rw (add-one i) (drop-cons entries i entry below ∙ ap (λ (x : Entry). x ∷ drop (suc i) entries) (sym is)) in
    ap (readings_alone as_hermite3 most files before) next

-- a file that is not read
pub file_fails : {X Y : Type 0} (rose : Type 0) (view : X → PlainTrack) (seen : Y → List PlainTrack) (as_hermite3 : Bool) (most : ℕ) (files : List FileBytes) (before : List PlainTrack)
    (entries : List Entry) (i : ℕ) (entry : Entry) (why : InputError) → i < length entries → entry ≡ get_or entries i entry
    → Reads rose view (Err why) (reading_of as_hermite3 entry.name (bytes_of files entry.number))
    → Reads rose seen (Err why) (readings_alone as_hermite3 most files before (drop i entries))
file_fails rose view seen as_hermite3 most files before entries i entry why below is here =
    let track : PlainTrack → PlainTrack = λ e. e in
    let one = reads_on rose view track why (reading_of as_hermite3 entry.name (bytes_of files entry.number)) (within_nodes most before) here in
    let all = reads_on rose track seen why (reading_alone as_hermite3 most files before entry)
    (λ e. readings_alone as_hermite3 most files (before ++ e ∷ []) (drop (i + 1) entries)) one in
    subst (λ (r : Result (List PlainTrack) Status). Reads rose seen (Err why) r) (sym (from_here as_hermite3 most files before entries i entry below is)) all

-- the rest, behind a file that was read
rest_of : (as_hermite3 : Bool) (most : ℕ) (files : List FileBytes) (before : List PlainTrack) (entries : List Entry) (i : ℕ) (entry : Entry) (track : PlainTrack)
    → i < length entries → entry ≡ get_or entries i entry → reading_of as_hermite3 entry.name (bytes_of files entry.number) ≡ Ok track
    → readings_alone as_hermite3 most files before (drop i entries)
    ≡ (within_nodes most before track >>= λ e. readings_alone as_hermite3 most files (before ++ e ∷ []) (drop (i + 1) entries))
rest_of as_hermite3 most files before entries i entry track below is read =
    from_here as_hermite3 most files before entries i entry below is
    ∙ ap (λ (r : Result PlainTrack Status). (r >>= within_nodes most before) >>= λ e. readings_alone as_hermite3 most files (before ++ e ∷ []) (drop (i + 1) entries)) read

-- one that has too many nodes
pub nodes_fail : {X Y : Type 0} (rose : Type 0) (view : X → PlainTrack) (seen : Y → List PlainTrack) (as_hermite3 : Bool) (most : ℕ) (files : List FileBytes) (before : List PlainTrack)
    (entries : List Entry) (i : ℕ) (entry : Entry) (track : PlainTrack) (why : InputError) → i < length entries → entry ≡ get_or entries i entry
    → reading_of as_hermite3 entry.name (bytes_of files entry.number) ≡ Ok track → Reads rose view (Err why) (within_nodes most before track)
    → Reads rose seen (Err why) (readings_alone as_hermite3 most files before (drop i entries))
nodes_fail rose view seen as_hermite3 most files before entries i entry track why below is read here =
    let all = reads_on rose view seen why (within_nodes most before track) (λ e. readings_alone as_hermite3 most files (before ++ e ∷ []) (drop (i + 1) entries)) here in
    subst (λ (r : Result (List PlainTrack) Status). Reads rose seen (Err why) r) (sym (rest_of as_hermite3 most files before entries i entry track below is read)) all

-- one that is taken
pub file_taken : (as_hermite3 : Bool) (most : ℕ) (files : List FileBytes) (tracks all : List Track) (entries : List Entry) (i : ℕ) (entry : Entry) (track : Track)
    → i < length entries → entry ≡ get_or entries i entry → reading_of as_hermite3 entry.name (bytes_of files entry.number) ≡ Ok (plain_track track)
    → within_nodes most (map plain_track tracks) (plain_track track) ≡ Ok (plain_track track) → all ≡ tracks ++ track ∷ []
    → readings_alone as_hermite3 most files (map plain_track all) (drop (i + 1) entries) ≡ readings_alone as_hermite3 most files (map plain_track tracks) (drop i entries)
file_taken as_hermite3 most files tracks all entries i entry track below is read few more =
    let before = map plain_track tracks in
    let behind = drop (i + 1) entries in
    ap (λ (es : List PlainTrack). readings_alone as_hermite3 most files es behind) (ap (map plain_track) more ∙ map-append plain_track tracks (track ∷ []))
    ∙ sym (rest_of as_hermite3 most files before entries i entry (plain_track track) below is read
    ∙ ap (λ (r : Result PlainTrack Status). r >>= λ e. readings_alone as_hermite3 most files (before ++ e ∷ []) behind) few)

-- ---- all that are asked

-- the files that are taken are not listed
pub lone_entries_fail : (rose : Type 0) (limits : PlainLimits) (files : List FileBytes) (thinning : PlainThinning) (names : List Name) (s : Status) → names ≡ names_of files
    → Stops ⊥ s (within_objects limits.objects (inputs_of thinning.suffix none_apart names)) → Stops rose s (tracks_asked limits files thinning)
unfolding tracks_asked
lone_entries_fail rose limits files thinning names s known stops =
    stops_behind ⊥ rose s (within_objects limits.objects (inputs_of thinning.suffix none_apart (names_of files)))
    (λ entries. readings_alone thinning.as_hermite3 limits.nodes files [] entries)
    (λ none. absurd none) (subst (λ (ns : List Name). Stops ⊥ s (within_objects limits.objects (inputs_of thinning.suffix none_apart ns))) known stops)

-- they are: the rest
pub lone_entries : (limits : PlainLimits) (files : List FileBytes) (thinning : PlainThinning) (names : List Name) (entries : List Entry) → names ≡ names_of files
    → within_objects limits.objects (inputs_of thinning.suffix none_apart names) ≡ Ok entries
    → tracks_asked limits files thinning ≡ readings_alone thinning.as_hermite3 limits.nodes files [] entries
unfolding tracks_asked
lone_entries limits files thinning names entries known taken =
    let listed : within_objects limits.objects (inputs_of thinning.suffix none_apart (names_of files)) ≡ Ok entries =
    subst (λ (ns : List Name). within_objects limits.objects (inputs_of thinning.suffix none_apart ns) ≡ Ok entries) known taken in
    rw listed refl
