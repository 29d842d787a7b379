-- Files that are read one after another and parsed side by side, and the reading of all.
use Rattle.std.proofs.Common.{◌≡◌, ℕ, suc, ◌+◌, ◌-◌, ◌<◌, ◌≤◌, List, [], ◌∷◌, ◌++◌, length, map, take, drop, get_or, Ok, Err, Result, Bool, refl, sym, ap, subst, ◌∙◌, arith}
use Rattle.std.specs.List.{AllZip}
use Rattle.std.specs.Prelude.{IfOk, IfSome, Option, Some, None, ⊤}
use Rattle.std.proofs.lemmas.List.{drop-drop, length-append, length-drop, length-map, map-append, nil_from_length, take_all, take_more}
use Rattle.std.proofs.lemmas.Slice.Zip.{all_zipped_more}
use Rattle.cj_io.specs.declared.file.FileBytes.{FileBytes}
use Rattle.cj_io.specs.Files.{bytes_of}
use Rattle.cj_track.specs.PlainTracks.{PlainTrack}
use Rattle.cj_track.specs.Tracks.{plain_track}
use Rattle.cj_track.specs.declared.track.Track.{Track}
use Rattle.cj_oem.specs.Reading.{Fault, reading}
use Rattle.cj_oem.proofs.GrammarLemmas.{reading_says}
use Rattle.cj_words.specs.Settings.{PlainSettings}
use Rattle.cj_status.specs.declared.status.Status.{Status}
use Rattle.cj_status.specs.Steps.{◌>>=◌}
use Rattle.cj_inputs.specs.declared.batch.Batch.{Batch}
use Rattle.cj_inputs.specs.declared.batch.FileRead.{FileRead}
use Rattle.cj_inputs.specs.declared.input_files.Entry.{Entry}
use Rattle.cj_inputs.specs.declared.progress.Progress.{Progress}
use Rattle.cj_inputs.specs.declared.reading.InputError.{InputError}
use Rattle.cj_inputs.specs.declared.reading.InputError.TheVariants as input
use Rattle.cj_inputs.specs.Batches.{AreParsed, Fits, GoesOn, IsBatchOf, IsCause, IsFirstCause, IsOnTheWay, WasRead, said_by, said_in, tracks_after}
use Rattle.cj_inputs.specs.Readings.{Reads, checked_after, reading_after, reading_of, readings_after, readings_of, refused_of, within_bytes}
use Rattle.cj_inputs.specs.Trims.{left_said, trims_of}
use Rattle.cj_inputs.proofs.ReadingLemmas.{from_on, reads_on}
use Rattle.cj_inputs.proofs.TrimLemmas.{left_file, left_there, reads_left}

-- a reading that was given up, where more may have failed
pub reads_wider : {X Y A : Type 0} (P Q : Type 0) (view : X → A) (seen : Y → A) (why : InputError) (read : Result A Status) → (P → Q) → Reads P view (Err why) read → Reads Q seen (Err why) read
reads_wider P Q view seen input.Memory read wider here = tt
reads_wider P Q view seen input.Failed read wider here = wider here
reads_wider P Q view seen (input.Refused file line cause) read wider here = here
reads_wider P Q view seen (input.Limit fault) read wider here = here

-- ---- a file that was read

-- what a file says names the file
pub said_named : (as_hermite3 : Bool) (name bytes : List ℕ) (e : PlainTrack) → refused_of name (reading name bytes as_hermite3) ≡ Ok e → e.file ≡ name
said_named as_hermite3 name bytes e is = (reading_says as_hermite3 name bytes e (unrefused (reading name bytes as_hermite3) is)).named
  where
    unrefused : (r : Result PlainTrack Fault) → refused_of name r ≡ Ok e → r ≡ Ok e
    unrefused (Ok d) same = let one : d ≡ e = cc in ap Ok one
    unrefused (Err fault) same = absurd cc

-- so does what is taken of it
said_in_named : (settings : PlainSettings) (file : FileRead) (e : PlainTrack) → said_in settings file ≡ Ok e → e.file ≡ file.name.now
said_in_named settings file e is =
    let whole = left_there (trims_of settings) (said_by settings.as_hermite3 file) e is in
    ap (λ (x : PlainTrack). x.file) (sym whole.2) ∙ left_file (trims_of settings) whole.0 ∙ said_named settings.as_hermite3 file.name.now file.bytes.items whole.0 whole.1

-- the reading of a file that was read
one_after : (settings : PlainSettings) (files : List FileBytes) (before : List PlainTrack) (entry : Entry) (file : FileRead) → WasRead files entry file
    → reading_after settings files before entry ≡ (said_in settings file >>= λ e. checked_after settings.limits.nodes before e.file e)
unfolding reading_of
one_after settings files before entry file was =
    ap (λ (r : Result PlainTrack Status). left_said (trims_of settings) r >>= checked_after settings.limits.nodes before entry.name) said
    ∙ named (said_in settings file) (λ e is. said_in_named settings file e is ∙ was.name)
  where
    said : reading_of settings.as_hermite3 entry.name (bytes_of files entry.number) ≡ said_by settings.as_hermite3 file
    said =
        ap (λ (r : Result (List ℕ) Status). r >>= λ whole. refused_of entry.name (reading entry.name whole settings.as_hermite3)) was.bytes
        ∙ ap (λ (name : List ℕ). refused_of name (reading name file.bytes.items settings.as_hermite3)) (sym was.name)

    named : (r : Result PlainTrack Status) → ((e : PlainTrack) → r ≡ Ok e → e.file ≡ entry.name) → (r >>= checked_after settings.limits.nodes before entry.name) ≡ (r >>= λ e. checked_after settings.limits.nodes before e.file e)
    named (Ok e) is = ap (λ (name : List ℕ). checked_after settings.limits.nodes before name e) (sym (is e refl))
    named (Err s) is = refl

-- the reading of files of which the first were read: those, and then the rest
pub front_read : (settings : PlainSettings) (files : List FileBytes) (before : List PlainTrack) (entries : List Entry) (read : List FileRead) → AllZip (WasRead files) (take (length read) entries) read
    → readings_after settings files before entries
    ≡ (tracks_after settings.limits.nodes before (map (said_in settings) read) >>= λ es. readings_after settings files es (drop (length read) entries))
front_read settings files before entries [] all = refl
front_read settings files before [] (file ∷ read) all = absurd all
front_read settings files before (entry ∷ entries) (file ∷ read) all =
    ap (λ (r : Result PlainTrack Status). r >>= λ e. readings_after settings files (before ++ e ∷ []) entries) (one_after settings files before entry file all.0)
    ∙ later (said_in settings file >>= λ e. checked_after settings.limits.nodes before e.file e) (λ e. front_read settings files (before ++ e ∷ []) entries read all.1)
  where
    behind : List PlainTrack → Result (List PlainTrack) Status
    behind es = readings_after settings files es (drop (length read) entries)

    later : (r : Result PlainTrack Status)
        → ((e : PlainTrack) → readings_after settings files (before ++ e ∷ []) entries ≡ (tracks_after settings.limits.nodes (before ++ e ∷ []) (map (said_in settings) read) >>= behind))
        → (r >>= λ e. readings_after settings files (before ++ e ∷ []) entries) ≡ ((r >>= λ e. tracks_after settings.limits.nodes (before ++ e ∷ []) (map (said_in settings) read)) >>= behind)
    later (Ok e) each = each e
    later (Err s) each = refl

-- ---- how a batch ends

-- one of the files that were read is not taken
pub front_fails : {X Y : Type 0} (rose : Type 0) (view : X → List PlainTrack) (seen : Y → List PlainTrack) (why : InputError) (whole front : Result (List PlainTrack) Status) (f : List PlainTrack → Result (List PlainTrack) Status)
    → whole ≡ (front >>= f) → Reads ⊥ view (Err why) front → Reads rose seen (Err why) whole
front_fails rose view seen why whole front f is here =
    subst (λ (r : Result (List PlainTrack) Status). Reads rose seen (Err why) r) (sym is) (reads_wider ⊥ rose seen seen why (front >>= f) (λ none. absurd none) (reads_on ⊥ view seen why front f here))

-- the file at a place is not read
pub next_fails : {Y : Type 0} (seen : Y → List PlainTrack) (settings : PlainSettings) (files : List FileBytes) (before : List PlainTrack) (entries : List Entry) (place : ℕ) (why : InputError)
    → IsCause files entries place why → Reads ⊤ seen (Err why) (readings_after settings files before (drop place entries))
unfolding reading_of
next_fails {Y} seen settings files before entries place why cause =
    let entry = cause.entry in
    let bytes : List ℕ → List ℕ = λ bs. bs in
    let track : PlainTrack → PlainTrack = λ e. e in
    let rest : PlainTrack → Result (List PlainTrack) Status = λ e. readings_after settings files (before ++ e ∷ []) (drop (suc place) entries) in
    let one = reads_on ⊤ bytes track why (within_bytes entry.name (bytes_of files entry.number)) (λ whole. refused_of entry.name (reading entry.name whole settings.as_hermite3)) cause.read in
    let whole = reading_of settings.as_hermite3 entry.name (bytes_of files entry.number) in
    let left = reads_left ⊤ track why (trims_of settings) whole one in
    let two = reads_on ⊤ track track why (left_said (trims_of settings) whole) (checked_after settings.limits.nodes before entry.name) left in
    let three = reads_on ⊤ track seen why (reading_after settings files before entry) rest two in
    let here : readings_after settings files before (drop place entries) ≡ (reading_after settings files before entry >>= rest) =
    from_on settings files before entries place entry cause.exists ∙ ap (λ (x : Entry). reading_after settings files before x >>= rest) cause.stands in
    subst (λ (r : Result (List PlainTrack) Status). Reads ⊤ seen (Err why) r) (sym here) three

-- all that were read are taken: the rest leads where all lead
pub front_taken : (settings : PlainSettings) (files : List FileBytes) (before after : List PlainTrack) (entries : List Entry) (read : List FileRead) → AllZip (WasRead files) (take (length read) entries) read
    → tracks_after settings.limits.nodes before (map (said_in settings) read) ≡ Ok after → readings_after settings files before entries ≡ readings_after settings files after (drop (length read) entries)
front_taken settings files before after entries read all taken =
    front_read settings files before entries read all
    ∙ ap (λ (r : Result (List PlainTrack) Status). r >>= λ es. readings_after settings files es (drop (length read) entries)) taken

-- ---- one after another

-- a reading that was given up
reading_fails : (most : ℕ) {Y : Type 0} (seen : Y → List PlainTrack) (before : List PlainTrack) (why : InputError) (s : Result PlainTrack Status) (more : List (Result PlainTrack Status))
    → Reads ⊥ plain_track (Err why) s → Reads ⊥ seen (Err why) (tracks_after most before (s ∷ more))
reading_fails most seen before why s more here =
    let track : PlainTrack → PlainTrack = λ e. e in
    reads_on ⊥ track seen why (s >>= λ e. checked_after most before e.file e) (λ e. tracks_after most (before ++ e ∷ []) more)
    (reads_on ⊥ plain_track track why s (λ e. checked_after most before e.file e) here)

-- a track that may not stand there
limit_fails : (most : ℕ) {X Y : Type 0} (view : X → PlainTrack) (seen : Y → List PlainTrack) (before : List PlainTrack) (why : InputError) (e : PlainTrack) (s : Result PlainTrack Status) (more : List (Result PlainTrack Status))
    → s ≡ Ok e → Reads ⊥ view (Err why) (checked_after most before e.file e) → Reads ⊥ seen (Err why) (tracks_after most before (s ∷ more))
limit_fails most view seen before why e s more is here =
    subst (λ (r : Result PlainTrack Status). Reads ⊥ seen (Err why) (tracks_after most before (r ∷ more))) (sym is)
    (reads_on ⊥ view seen why (checked_after most before e.file e) (λ d. tracks_after most (before ++ d ∷ []) more) here)

-- a track that may
track_more : (most : ℕ) (before : List PlainTrack) (e : PlainTrack) (s : Result PlainTrack Status) (more : List (Result PlainTrack Status)) → s ≡ Ok e → checked_after most before e.file e ≡ Ok e
    → tracks_after most before (s ∷ more) ≡ tracks_after most (before ++ e ∷ []) more
track_more most before e s more is fit =
    ap (λ (r : Result PlainTrack Status). tracks_after most before (r ∷ more)) is ∙ ap (λ (r : Result PlainTrack Status). r >>= λ d. tracks_after most (before ++ d ∷ []) more) fit

-- what these readings are of leads from the ephemerides before to this end
pub record LeadsTo (most : ℕ) (readings : List (Result Track InputError)) (before : List PlainTrack) (end : Result (List PlainTrack) Status) : Type 0 where
  pub said : List (Result PlainTrack Status)
  pub each : AllZip (Reads ⊥ plain_track) readings said
  pub leads : tracks_after most before said ≡ end

-- the first reading was given up
pub given_up : {most : ℕ} {Y : Type 0} {readings rest : List (Result Track InputError)} {before : List PlainTrack} {end : Result (List PlainTrack) Status} {reading : Result Track InputError} (seen : Y → List PlainTrack) (why : InputError)
    → readings ≡ reading ∷ rest → reading ≡ Err why → LeadsTo most readings before end → Reads ⊥ seen (Err why) end
given_up {most} {Y} {readings} {rest} {before} {end} {reading} seen why front is to =
    go to.said (subst (λ (rs : List (Result Track InputError)). AllZip (Reads ⊥ plain_track) rs to.said) (front ∙ ap (λ (r : Result Track InputError). r ∷ rest) is) to.each) to.leads
  where
    go : (said : List (Result PlainTrack Status)) → AllZip (Reads ⊥ plain_track) (Err why ∷ rest) said → tracks_after most before said ≡ end → Reads ⊥ seen (Err why) end
    go [] all leads = absurd all
    go (s ∷ more) all leads = subst (λ (r : Result (List PlainTrack) Status). Reads ⊥ seen (Err why) r) leads (reading_fails most seen before why s more all.0)

-- the first track may not stand there
pub not_taken : {most : ℕ} {X Y : Type 0} {readings rest : List (Result Track InputError)} {before : List PlainTrack} {end : Result (List PlainTrack) Status} {reading : Result Track InputError} (view : X → PlainTrack) (seen : Y → List PlainTrack)
    (why : InputError) (track : Track) → readings ≡ reading ∷ rest → reading ≡ Ok track → Reads ⊥ view (Err why) (checked_after most before track.file (plain_track track)) → LeadsTo most readings before end → Reads ⊥ seen (Err why) end
not_taken {most} {X} {Y} {readings} {rest} {before} {end} {reading} view seen why track front is here to =
    go to.said (subst (λ (rs : List (Result Track InputError)). AllZip (Reads ⊥ plain_track) rs to.said) (front ∙ ap (λ (r : Result Track InputError). r ∷ rest) is) to.each) to.leads
  where
    go : (said : List (Result PlainTrack Status)) → AllZip (Reads ⊥ plain_track) (Ok track ∷ rest) said → tracks_after most before said ≡ end → Reads ⊥ seen (Err why) end
    go [] all leads = absurd all
    go (s ∷ more) all leads = subst (λ (r : Result (List PlainTrack) Status). Reads ⊥ seen (Err why) r) leads (limit_fails most view seen before why (plain_track track) s more all.0 here)

-- the first track is taken
pub one_taken : {most : ℕ} {readings rest : List (Result Track InputError)} {end : Result (List PlainTrack) Status} {reading : Result Track InputError} (tracks all : List Track) (track : Track) → readings ≡ reading ∷ rest → reading ≡ Ok track
    → checked_after most (map plain_track tracks) track.file (plain_track track) ≡ Ok (plain_track track) → all ≡ tracks ++ track ∷ [] → LeadsTo most readings (map plain_track tracks) end → LeadsTo most rest (map plain_track all) end
one_taken {most} {readings} {rest} {end} {reading} tracks all track front is fit more to =
    go to.said (subst (λ (rs : List (Result Track InputError)). AllZip (Reads ⊥ plain_track) rs to.said) (front ∙ ap (λ (r : Result Track InputError). r ∷ rest) is) to.each) to.leads
  where
    go : (said : List (Result PlainTrack Status)) → AllZip (Reads ⊥ plain_track) (Ok track ∷ rest) said → tracks_after most (map plain_track tracks) said ≡ end → LeadsTo most rest (map plain_track all) end
    go [] each leads = absurd each
    go (s ∷ behind) each leads = record {
      said = behind;
      each = each.1;
      leads = ap (λ (es : List PlainTrack). tracks_after most es behind) (ap (map plain_track) more ∙ map-append plain_track tracks (track ∷ []))
          ∙ sym (track_more most (map plain_track tracks) (plain_track track) s behind each.0 fit) ∙ leads;
    }

-- no reading is left
pub none_left : {most : ℕ} {readings : List (Result Track InputError)} {before : List PlainTrack} {end : Result (List PlainTrack) Status} → readings ≡ [] → LeadsTo most readings before end → end ≡ Ok before
none_left {most} {readings} {before} {end} none to =
    go to.said (subst (λ (rs : List (Result Track InputError)). AllZip (Reads ⊥ plain_track) rs to.said) none to.each) to.leads
  where
    go : (said : List (Result PlainTrack Status)) → AllZip (Reads ⊥ plain_track) [] said → tracks_after most before said ≡ end → end ≡ Ok before
    go [] all leads = sym leads
    go (s ∷ more) all leads = absurd all

-- ---- side by side

-- where each says what its file says
pub parsed_each : (settings : PlainSettings) (files : List FileRead) (readings : List (Result Track InputError)) → length readings ≡ length files
    → ((i : ℕ) (d : Result Track InputError) (file : FileRead) → i < length files → Reads ⊥ plain_track (get_or readings i d) (said_in settings (get_or files i file)))
    → AreParsed settings files readings
parsed_each settings [] [] many each = tt
parsed_each settings [] (r ∷ rs) many each = absurd (omega (arith, many))
parsed_each settings (f ∷ fs) [] many each = absurd (omega (arith, many))
parsed_each settings (f ∷ fs) (r ∷ rs) many each =
    (each 0 r f (omega arith), parsed_each settings fs rs (omega (arith, many)) (λ i d file lt. each (suc i) d file (omega (arith, lt))))

-- ---- read one after another

-- one more file was read
pub read_more : (files : List FileBytes) (entries : List Entry) (i : ℕ) (entry : Entry) (read : List FileRead) (file : FileRead) → i < length entries → entry ≡ get_or entries i entry
    → AllZip (WasRead files) (take i entries) read → WasRead files entry file → AllZip (WasRead files) (take (i + 1) entries) (read ++ file ∷ [])
read_more files entries i entry read file below is front was =
    subst (λ (es : List Entry). AllZip (WasRead files) es (read ++ file ∷ [])) (sym (take_more entries i entry below ∙ ap (λ (e : Entry). take i entries ++ e ∷ []) (sym is)))
    (all_zipped_more (WasRead files) (take i entries) read entry file front was)

-- a batch that ends where the next file is not read
pub batch_ends : {X : Type 0} (rose : Type 0) (view : X → List ℕ) (files : List FileBytes) (entries : List Entry) (i : ℕ) (entry : Entry) (name : List ℕ) (batch : Batch) (why : InputError)
    → i < length entries → entry ≡ get_or entries i entry → name ≡ entry.name → length batch.files.items ≡ i
    → AllZip (WasRead files) (take i entries) batch.files.items
    → batch.stop ≡ Some why → Reads rose view (Err why) (within_bytes name (bytes_of files entry.number)) → IsBatchOf files entries batch
batch_ends rose view files entries i entry name batch why below is named many front stop read =
    let cause : IsCause files entries (length batch.files.items) why = record {
      entry = entry;
      exists = omega (arith, below, many);
      stands = ap (λ (n : ℕ). get_or entries n entry) many ∙ sym is;
      read = subst (λ (n : List ℕ). Reads ⊤ (λ (bytes : List ℕ). bytes) (Err why) (within_bytes n (bytes_of files entry.number))) named
          (reads_wider rose ⊤ view (λ (bytes : List ℕ). bytes) why (within_bytes name (bytes_of files entry.number)) (λ risen. tt) read);
    } in
    record {
      front = subst (λ (n : ℕ). AllZip (WasRead files) (take n entries) batch.files.items) (sym many) front;
      stop = subst (λ (o : Option InputError). IfSome o (IsCause files entries (length batch.files.items))) (sym stop) cause;
    }

-- ---- how a batch ends, as the reading of all

abbrev seen : Progress → List PlainTrack
seen progress = map plain_track progress.taken.tracks.items

-- one of the files that were read is not taken
batch_fails : (settings : PlainSettings) (files : List FileBytes) (entries : List Entry) (progress : Progress) (why : InputError)
    → IsOnTheWay settings files entries progress
    → Reads ⊥ seen (Err why) (tracks_after settings.limits.nodes (seen progress) (map (said_in settings) progress.batch.files.items)) → GoesOn settings files entries (Err why)
batch_fails settings files entries progress why way here =
    let read = progress.batch.files.items in
    let rest = drop (length progress.taken.tracks.items) entries in
    subst (λ (r : Result (List PlainTrack) Status). Reads ⊤ seen (Err why) r) way.leads
    (front_fails ⊤ seen seen why (readings_after settings files (seen progress) rest) (tracks_after settings.limits.nodes (seen progress) (map (said_in settings) read))
    (λ es. readings_after settings files es (drop (length read) rest)) (front_read settings files (seen progress) rest read way.batch.front) here)

cause_of : (P : InputError → Type 0) (o : Option InputError) (why : InputError) → o ≡ Some why → IfSome o P → P why
cause_of P None why is here = absurd cc
cause_of P (Some other) why is here = let same : other ≡ why = cc in subst P same here

abbrev own : List PlainTrack → List PlainTrack
own all = all

-- the next was not read, for this cause or an earlier one
pub batch_stops : (settings : PlainSettings) (files : List FileBytes) (entries : List Entry) (progress : Progress) (why cause : InputError)
    → IsOnTheWay settings files entries progress → progress.batch.stop ≡ Some why
    → IsFirstCause settings.limits.nodes why (seen progress) (map (said_in settings) progress.batch.files.items) cause
    → GoesOn settings files entries (Err cause)
batch_stops settings files entries progress why cause way stop told =
    let read = progress.batch.files.items in
    let rest = drop (length progress.taken.tracks.items) entries in
    let behind : List PlainTrack → Result (List PlainTrack) Status = λ es. readings_after settings files es (drop (length read) rest) in
    let next = λ (es : List PlainTrack). next_fails own settings files es rest (length read) why (cause_of (IsCause files rest (length read)) progress.batch.stop why stop way.batch.stop) in
    reads_wider ⊤ ⊤ own seen cause (readings_of settings files entries) (λ any. any)
    (subst (λ (r : Result (List PlainTrack) Status). Reads ⊤ own (Err cause) r)
    (sym (front_read settings files (seen progress) rest read way.batch.front) ∙ way.leads) (told behind next))

-- those that are taken are those before and one for each
tracks_many : (most : ℕ) (before : List PlainTrack) (said : List (Result PlainTrack Status)) (after : List PlainTrack) → tracks_after most before said ≡ Ok after
    → length after ≡ length before + length said
tracks_many most before [] after is = let same : before ≡ after = cc in omega (arith, ap (λ (es : List PlainTrack). length es) same)
tracks_many most before (s ∷ said) after is = one (s >>= λ e. checked_after most before e.file e) (λ e. tracks_many most (before ++ e ∷ []) said after) is
  where
    one : (r : Result PlainTrack Status) → ((e : PlainTrack) → tracks_after most (before ++ e ∷ []) said ≡ Ok after → length after ≡ length (before ++ e ∷ []) + length said)
        → (r >>= λ e. tracks_after most (before ++ e ∷ []) said) ≡ Ok after → length after ≡ length before + suc (length said)
    one (Ok e) more is = omega (arith, more e is, length-append before (e ∷ []))
    one (Err why) more is = absurd cc

many_taken : (settings : PlainSettings) (progress next : Progress)
    → tracks_after settings.limits.nodes (seen progress) (map (said_in settings) progress.batch.files.items) ≡ Ok (seen next)
    → length next.taken.tracks.items ≡ length progress.taken.tracks.items + length progress.batch.files.items
many_taken settings progress next taken =
    let read = progress.batch.files.items in
    omega (
      arith,
      tracks_many settings.limits.nodes (seen progress) (map (said_in settings) read) (seen next) taken,
      length-map progress.taken.tracks.items plain_track,
      length-map next.taken.tracks.items plain_track,
      length-map read (said_in settings),
    )

-- all are taken, and the next batch is read
batch_taken : (settings : PlainSettings) (files : List FileBytes) (entries rest : List Entry) (progress next : Progress)
    → IsOnTheWay settings files entries progress
    → tracks_after settings.limits.nodes (seen progress) (map (said_in settings) progress.batch.files.items) ≡ Ok (seen next)
    → rest ≡ drop (length progress.taken.tracks.items + length progress.batch.files.items) entries → IsBatchOf files rest next.batch → IsOnTheWay settings files entries next
batch_taken settings files entries rest progress next way taken left batch =
    let read = progress.batch.files.items in
    let done = length progress.taken.tracks.items in
    let many = many_taken settings progress next taken in
    let behind : drop (length read) (drop done entries) ≡ drop (length next.taken.tracks.items) entries = drop-drop (length read) done entries ∙ ap (λ (n : ℕ). drop n entries) (omega (arith, many)) in
    let here : rest ≡ drop (length next.taken.tracks.items) entries = left ∙ ap (λ (n : ℕ). drop n entries) (sym many) in
    record {
      leads =
          ap (readings_after settings files (seen next)) (sym behind)
          ∙ sym (front_taken settings files (seen progress) (seen next) (drop done entries) read way.batch.front taken) ∙ way.leads;
      batch = subst (λ (es : List Entry). IsBatchOf files es next.batch) here batch;
    }

-- so it goes on, or one of its files is not taken
pub batch_goes_on : (settings : PlainSettings) (files : List FileBytes) (entries rest : List Entry) (progress : Progress) (r : Result Progress InputError)
    → IsOnTheWay settings files entries progress
    → Reads ⊥ seen r (tracks_after settings.limits.nodes (seen progress) (map (said_in settings) progress.batch.files.items))
    → rest ≡ drop (length progress.taken.tracks.items + length progress.batch.files.items) entries → IfOk r (λ next. IsBatchOf files rest next.batch)
    → GoesOn settings files entries r
batch_goes_on settings files entries rest progress (Err why) way taken left batch = batch_fails settings files entries progress why way taken
batch_goes_on settings files entries rest progress (Ok next) way taken left batch = batch_taken settings files entries rest progress next way taken left batch

-- where the batch has files, more are taken
pub more_taken : (settings : PlainSettings) (progress : Progress) (r : Result Progress InputError)
    → Reads ⊥ seen r (tracks_after settings.limits.nodes (seen progress) (map (said_in settings) progress.batch.files.items))
    → 0 < length progress.batch.files.items → IfOk r (λ next. length progress.taken.tracks.items < length next.taken.tracks.items)
more_taken settings progress (Err why) taken some = tt
more_taken settings progress (Ok next) taken some = omega (arith, some, many_taken settings progress next taken)

-- the entries from a place on
pub all_left : (entries : List Entry) (k m : ℕ) → k ≡ m → take (length entries - k) (drop k entries) ≡ drop m entries
all_left entries k m same = take_all (length entries - k) (drop k entries) (omega (arith, length-drop k entries)) ∙ ap (λ (n : ℕ). drop n entries) same

-- the next batch is one of the files behind those that are taken
pub next_fits : (settings : PlainSettings) (entries rest : List Entry) (progress : Progress) (r : Result Progress InputError) → Fits entries progress
    → Reads ⊥ seen r (tracks_after settings.limits.nodes (seen progress) (map (said_in settings) progress.batch.files.items))
    → rest ≡ drop (length progress.taken.tracks.items + length progress.batch.files.items) entries
    → IfOk r (λ next. length next.batch.files.items ≤ length rest)
    → IfOk r (λ next. next.batch.stop ≡ None → 0 < length rest → 0 < length next.batch.files.items) → IfOk r (Fits entries)
next_fits settings entries rest progress (Err why) fits taken left few some = tt
next_fits settings entries rest progress (Ok next) fits taken left few some =
    let many = many_taken settings progress next taken in
    let behind = length progress.taken.tracks.items + length progress.batch.files.items in
    let size : length rest ≡ length entries - behind = ap (λ (es : List Entry). length es) left ∙ length-drop behind entries in
    let before = fits.few in
    record {
      few = omega (arith, few, many, size, before);
      some = λ none more. some none (omega (arith, more, many, size));
    }

-- what holds of a part that was had holds of it in the whole
pub of_part : {X Y E F : Type 0} (P : Y → Type 0) (part : X → Y) (had : Result Y F) (r : Result X E) → IfOk r (λ x. had ≡ Ok (part x)) → IfOk had P
    → IfOk r (λ x. P (part x))
of_part P part had (Err why) is holds = tt
of_part {Y = Y} {F = F} P part had (Ok x) is holds = subst (λ (h : Result Y F). IfOk h P) is holds

-- ---- the reading of all, batch by batch

-- where nothing is taken yet and the first batch is read
pub begun : (settings : PlainSettings) (files : List FileBytes) (entries : List Entry) (progress : Progress) → progress.taken.tracks.items ≡ []
    → IsBatchOf files entries progress.batch
    → IsOnTheWay settings files entries progress
begun settings files entries progress none batch = record {
  leads = ap (λ (ts : List Track). readings_after settings files (map plain_track ts) (drop (length ts) entries)) none;
  batch = subst (λ (ts : List Track). IsBatchOf files (drop (length ts) entries) progress.batch) (sym none) batch;
}

pub begun_fits : (entries : List Entry) (progress : Progress) → progress.taken.tracks.items ≡ [] → length progress.batch.files.items ≤ length entries
    → (progress.batch.stop ≡ None → 0 < length entries → 0 < length progress.batch.files.items) → Fits entries progress
begun_fits entries progress none few some =
    let nothing : length progress.taken.tracks.items ≡ 0 = ap (λ (ts : List Track). length ts) none in
    record {
      few = omega (arith, nothing, few);
      some = λ stop more. some stop (omega (arith, more));
    }

-- where all are taken
pub all_taken : (settings : PlainSettings) (files : List FileBytes) (entries : List Entry) (progress : Progress) → IsOnTheWay settings files entries progress
    → length entries ≤ length progress.taken.tracks.items → readings_of settings files entries ≡ Ok (seen progress)
all_taken settings files entries progress way all =
    let done = length progress.taken.tracks.items in
    let none : drop done entries ≡ [] = nil_from_length (drop done entries) (omega (arith, all, length-drop done entries)) in
    sym way.leads ∙ ap (readings_after settings files (seen progress)) none

-- a reading that was given up, where it is known when the folder failed
pub reads_fault : {X Y A : Type 0} (rose : Type 0) (view : X → A) (seen : Y → A) (why : InputError) (read : Result A Status) → (why ≡ input.Failed → rose)
    → Reads ⊤ view (Err why) read → Reads rose seen (Err why) read
reads_fault rose view seen input.Memory read risen here = tt
reads_fault rose view seen input.Failed read risen here = risen refl
reads_fault rose view seen (input.Refused file line cause) read risen here = here
reads_fault rose view seen (input.Limit fault) read risen here = here
