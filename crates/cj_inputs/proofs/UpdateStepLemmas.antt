-- Base files and updates step by step, as they are read and put in their places.
use Rattle.std.proofs.Common.{◌≡◌, ℕ, suc, Bool, ◌+◌, ◌<◌, ◌≤◌, List, [], ◌∷◌, ◌++◌, length, map, drop, drop-cons, add-one, get_or, true, false, Ok, Err, Result, refl, sym, ap, subst, ◌∙◌, arith}
use Rattle.std.specs.Prelude.{◌==◌, IfOk, fold, nat_le}
use Rattle.std.proofs.lemmas.Bool.Decides.{nat_tests}
use Rattle.std.proofs.lemmas.List.{map-append, nil_from_length}
use Rattle.cj_io.specs.declared.file.FileBytes.{FileBytes}
use Rattle.cj_io.specs.Files.{bytes_of}
use Rattle.cj_track.specs.PlainTracks.{PlainTrack}
use Rattle.cj_track.specs.Tracks.{plain_track}
use Rattle.cj_track.specs.declared.track.Track.{Track}
use Rattle.cj_oem.specs.Reading.{reading}
use Rattle.cj_words.specs.Settings.{PlainSettings}
use Rattle.cj_status.specs.declared.status.Status.{Status}
use Rattle.cj_status.specs.declared.status.Status.TheVariants as status
use Rattle.cj_status.specs.declared.status.LimitFault.TheVariants.{Objects}
use Rattle.cj_status.specs.Steps.{◌>>=◌, Stops}
use Rattle.cj_inputs.specs.declared.input_files.Entry.{Entry}
use Rattle.cj_inputs.specs.declared.reading.InputError.{InputError}
use Rattle.cj_inputs.specs.declared.taken.Taken.{Taken}
use Rattle.cj_inputs.specs.Errors.{input_status}
use Rattle.cj_inputs.specs.Readings.{Reads, checked_after, readings_of, refused_of, within_bytes}
use Rattle.cj_inputs.specs.Trims.{left_said, trims_of}
use Rattle.cj_inputs.specs.Updates.{PlainUpdated, read_as, said_behind, update_after, updated_name, updated_names, updated_of, updated_with, updates_after, with_others, without_first}
use Rattle.cj_inputs.proofs.BatchLemmas.{reads_wider}
use Rattle.cj_inputs.proofs.ReadingLemmas.{reads_on}
use Rattle.cj_inputs.proofs.TrimLemmas.{reads_left}
use Rattle.cj_inputs.proofs.StepLemmas.{few_enough, input_stops}
use Rattle.cj_inputs.proofs.UpdateLemmas.{SaysUpdated, file_name}

abbrev pub seen : Taken → List PlainTrack
seen taken = map plain_track taken.tracks.items

-- ---- bytes that are none

zero_of : (n : ℕ) → (n == 0) ≡ true → n ≡ 0
zero_of n is = grind (arith, nat_tests)

some_of : (n : ℕ) → (n == 0) ≡ false → 0 < n
some_of n is = grind (arith, nat_tests)

pub no_bytes : (b : Bool) (n : ℕ) (bytes : List ℕ) → b ≡ (n == 0) → b ≡ true → n ≡ length bytes → bytes ≡ []
no_bytes b n bytes is none long = nil_from_length bytes (omega (arith, long, zero_of n (sym is ∙ none)))

pub some_bytes : (b : Bool) (n : ℕ) (bytes : List ℕ) → b ≡ (n == 0) → b ≡ false → n ≡ length bytes → 0 < length bytes
some_bytes b n bytes is some long = omega (arith, long, some_of n (sym is ∙ some))

-- ---- one update

-- what bytes say that are some
said_some : (settings : PlainSettings) (update : List ℕ) (before : List PlainTrack) (name bytes : List ℕ) → 0 < length bytes
    → said_behind settings update before name bytes
    ≡ ((left_said (trims_of settings) (refused_of name (reading (updated_name update name) bytes settings.as_hermite3)) >>= checked_after settings.limits.nodes before name) >>= λ track. Ok (before ++ track ∷ []))
said_some settings update before name [] some = absurd (omega (arith, some))
said_some settings update before name (b ∷ bytes) some = refl

-- an update whose bytes are read
update_said : (settings : PlainSettings) (update : List ℕ) (files : List FileBytes) (before : List PlainTrack) (entry : Entry) (bytes : List ℕ)
    → within_bytes entry.name (bytes_of files entry.number) ≡ Ok bytes → update_after settings update files before entry ≡ said_behind settings update before entry.name bytes
update_said settings update files before entry bytes is = ap (λ (r : Result (List ℕ) Status). r >>= said_behind settings update before entry.name) is

some_said : (settings : PlainSettings) (update : List ℕ) (files : List FileBytes) (before : List PlainTrack) (entry : Entry) (bytes : List ℕ)
    → within_bytes entry.name (bytes_of files entry.number) ≡ Ok bytes → 0 < length bytes
    → update_after settings update files before entry
    ≡ ((left_said (trims_of settings) (refused_of entry.name (reading (updated_name update entry.name) bytes settings.as_hermite3)) >>= checked_after settings.limits.nodes before entry.name)
    >>= λ track. Ok (before ++ track ∷ []))
some_said settings update files before entry bytes is some = update_said settings update files before entry bytes is ∙ said_some settings update before entry.name bytes some

-- its bytes are not read
pub update_unread : {X Y : Type 0} (rose : Type 0) (view : X → List ℕ) (all : Y → List PlainTrack) (settings : PlainSettings) (update : List ℕ) (files : List FileBytes) (before : List PlainTrack)
    (entry : Entry) (why : InputError) → Reads rose view (Err why) (within_bytes entry.name (bytes_of files entry.number))
    → Reads rose all (Err why) (update_after settings update files before entry)
update_unread rose view all settings update files before entry why here =
    reads_on rose view all why (within_bytes entry.name (bytes_of files entry.number)) (said_behind settings update before entry.name) here

-- it has none
pub update_empty : (settings : PlainSettings) (update : List ℕ) (files : List FileBytes) (before : List PlainTrack) (entry : Entry) (bytes : List ℕ)
    → within_bytes entry.name (bytes_of files entry.number) ≡ Ok bytes → bytes ≡ [] → update_after settings update files before entry ≡ Ok before
update_empty settings update files before entry bytes is none =
    update_said settings update files before entry bytes is ∙ ap (said_behind settings update before entry.name) none

-- they are refused
pub update_refused : {Y : Type 0} (rose : Type 0) (all : Y → List PlainTrack) (settings : PlainSettings) (update : List ℕ) (files : List FileBytes) (before : List PlainTrack) (entry : Entry)
    (bytes : List ℕ) (why : InputError) → within_bytes entry.name (bytes_of files entry.number) ≡ Ok bytes → 0 < length bytes
    → Reads ⊥ plain_track (Err why) (refused_of entry.name (reading (updated_name update entry.name) bytes settings.as_hermite3))
    → Reads rose all (Err why) (update_after settings update files before entry)
update_refused {Y} rose all settings update files before entry bytes why is some here =
    let whole = refused_of entry.name (reading (updated_name update entry.name) bytes settings.as_hermite3) in
    let said = left_said (trims_of settings) whole in
    let left = reads_left ⊥ plain_track why (trims_of settings) whole here in
    let checked = checked_after settings.limits.nodes before entry.name in
    let wide = reads_wider ⊥ rose plain_track plain_track why said (λ none. absurd none) left in
    let one = reads_on rose plain_track plain_track why said checked wide in
    subst (λ (due : Result (List PlainTrack) Status). Reads rose all (Err why) due) (sym (some_said settings update files before entry bytes is some))
    (reads_on rose plain_track all why (said >>= checked) (λ track. Ok (before ++ track ∷ [])) one)

-- it says a track, which may stand behind those before it or not
pub update_taken : (rose : Type 0) (settings : PlainSettings) (update : List ℕ) (files : List FileBytes) (before : List Track) (entry : Entry) (bytes : List ℕ) (track : Track)
    (r : Result Taken InputError) → within_bytes entry.name (bytes_of files entry.number) ≡ Ok bytes → 0 < length bytes
    → left_said (trims_of settings) (refused_of entry.name (reading (updated_name update entry.name) bytes settings.as_hermite3)) ≡ Ok (plain_track track)
    → Reads ⊥ (λ (taken : Taken). plain_track track) r (checked_after settings.limits.nodes (map plain_track before) entry.name (plain_track track))
    → IfOk r (λ taken. taken.tracks.items ≡ before ++ track ∷ []) → Reads rose seen r (update_after settings update files (map plain_track before) entry)
update_taken rose settings update files before entry bytes track (Ok taken) is some said told more =
    let checked = checked_after settings.limits.nodes (map plain_track before) entry.name in
    some_said settings update files (map plain_track before) entry bytes is some
    ∙ ap (λ (r : Result PlainTrack Status). (r >>= checked) >>= λ t. Ok (map plain_track before ++ t ∷ [])) said
    ∙ ap (λ (r : Result PlainTrack Status). r >>= λ t. Ok (map plain_track before ++ t ∷ [])) told
    ∙ ap (λ (ts : List PlainTrack). Ok ts) (sym (map-append plain_track before (track ∷ [])))
    ∙ ap (λ (ts : List Track). Ok (map plain_track ts)) (sym more)
update_taken rose settings update files before entry bytes track (Err why) is some said told more =
    let checked = checked_after settings.limits.nodes (map plain_track before) entry.name in
    let one : Taken → PlainTrack = λ taken. plain_track track in
    let due = some_said settings update files (map plain_track before) entry bytes is some
    ∙ ap (λ (r : Result PlainTrack Status). (r >>= checked) >>= λ t. Ok (map plain_track before ++ t ∷ [])) said in
    let wide = reads_wider ⊥ rose one one why (checked (plain_track track)) (λ none. absurd none) told in
    subst (λ (d : Result (List PlainTrack) Status). Reads rose seen (Err why) d) (sym due)
    (reads_on rose one seen why (checked (plain_track track)) (λ t. Ok (map plain_track before ++ t ∷ [])) wide)

-- ---- one after another

next_update : (updates : List Entry) (i : ℕ) (entry : Entry) → i < length updates → entry ≡ get_or updates i entry → drop i updates ≡ entry ∷ drop (i + 1) updates
next_update updates i entry below is = rw (add-one i) (drop-cons updates i entry below ∙ ap (λ (e : Entry). e ∷ drop (suc i) updates) (sym is))

-- an update that is read leads on
pub update_leads : (settings : PlainSettings) (update : List ℕ) (files : List FileBytes) (before all : List PlainTrack) (updates : List Entry) (i : ℕ) (entry : Entry) → i < length updates
    → entry ≡ get_or updates i entry → update_after settings update files before entry ≡ Ok all
    → updates_after settings update files all (drop (i + 1) updates) ≡ updates_after settings update files before (drop i updates)
update_leads settings update files before all updates i entry below is here =
    sym (ap (updates_after settings update files before) (next_update updates i entry below is)
    ∙ ap (λ (r : Result (List PlainTrack) Status). r >>= λ some. updates_after settings update files some (drop (i + 1) updates)) here)

-- one that is not ends all
pub update_ends : {X Y : Type 0} (rose : Type 0) (view : X → List PlainTrack) (all : Y → List PlainTrack) (settings : PlainSettings) (update : List ℕ) (files : List FileBytes)
    (before : List PlainTrack) (updates : List Entry) (i : ℕ) (entry : Entry) (why : InputError) → i < length updates → entry ≡ get_or updates i entry
    → Reads rose view (Err why) (update_after settings update files before entry) → Reads rose all (Err why) (updates_after settings update files before (drop i updates))
update_ends rose view all settings update files before updates i entry why below is here =
    subst (λ (es : List Entry). Reads rose all (Err why) (updates_after settings update files before es)) (sym (next_update updates i entry below is))
    (reads_on rose view all why (update_after settings update files before entry) (λ some. updates_after settings update files some (drop (i + 1) updates)) here)

-- the names of updates, one after another
pub names_on : (update : List ℕ) (n : Track → List ℕ) (tracks : List Track) (updates : List Entry) (i : ℕ) (entry : Entry) → i < length updates → entry ≡ get_or updates i entry
    → fold (without_first n) (without_first n tracks (updated_name update entry.name)) (updated_names update (drop (i + 1) updates))
    ≡ fold (without_first n) tracks (updated_names update (drop i updates))
names_on update n tracks updates i entry below is =
    ap (λ (es : List Entry). fold (without_first n) tracks (updated_names update es)) (sym (next_update updates i entry below is))

-- ---- what is read as a whole

-- a base file is not read
pub base_fails : {X : Type 0} (rose : Type 0) (view : X → List PlainTrack) (files : List FileBytes) (settings : PlainSettings) (update : List ℕ) (entries updates : List Entry) (why : InputError)
    → Reads rose view (Err why) (readings_of settings files entries) → Stops rose (input_status why) (read_as files settings update entries updates)
unfolding read_as
base_fails rose view files settings update entries updates why here =
    input_stops rose rose view why (readings_of settings files entries)
    (λ base. updates_after settings update files base updates >>= λ all. updated_with files settings update entries updates base) (λ risen. risen) here

read_of_base : (files : List FileBytes) (settings : PlainSettings) (update : List ℕ) (entries updates : List Entry) (base : List PlainTrack) → readings_of settings files entries ≡ Ok base
    → read_as files settings update entries updates ≡ (updates_after settings update files base updates >>= λ all. updated_with files settings update entries updates base)
unfolding read_as
read_of_base files settings update entries updates base is = rw is refl

-- an update is not
pub updates_fail : {X : Type 0} (later rose : Type 0) (view : X → List PlainTrack) (files : List FileBytes) (settings : PlainSettings) (update : List ℕ) (entries updates : List Entry)
    (base : List PlainTrack) (why : InputError) → (later → rose) → readings_of settings files entries ≡ Ok base
    → Reads later view (Err why) (updates_after settings update files base updates) → Stops rose (input_status why) (read_as files settings update entries updates)
updates_fail later rose view files settings update entries updates base why wider is here =
    rw (read_of_base files settings update entries updates base is)
    (input_stops later rose view why (updates_after settings update files base updates) (λ all. updated_with files settings update entries updates base) wider here)

-- both are read
pub read_of_both : (files : List FileBytes) (settings : PlainSettings) (update : List ℕ) (entries updates : List Entry) (base all : List PlainTrack) → readings_of settings files entries ≡ Ok base
    → updates_after settings update files base updates ≡ Ok all → read_as files settings update entries updates ≡ updated_with files settings update entries updates base
read_of_both files settings update entries updates base all is more = read_of_base files settings update entries updates base is ∙ rw more refl

-- the updated files are too many
pub updated_too_many : (files : List FileBytes) (settings : PlainSettings) (update : List ℕ) (entries updates : List Entry) (base : List PlainTrack) (count : ℕ)
    → count ≡ length (updated_of update files entries updates) → settings.limits.objects < count
    → updated_with files settings update entries updates base ≡ Err (status.Limit (Objects count))
updated_too_many files settings update entries updates base count is more =
    let large : nat_le count settings.limits.objects ≡ false = grind (arith, nat_tests) in
    rw (← is, large) refl

-- they are not, and are read
pub updated_made : (files : List FileBytes) (settings : PlainSettings) (update : List ℕ) (entries updates : List Entry) (base all new : List PlainTrack)
    → (says : SaysUpdated settings update files entries updates base all) → length new ≤ settings.limits.objects
    → new ≡ with_others file_name says.others (fold (without_first file_name) base (updated_names update updates))
    → updated_with files settings update entries updates base ≡ Ok (record { base = base; new = new })
updated_made files settings update entries updates base all new says few is =
    let updated = updated_of update files entries updates in
    let made : List PlainTrack → Result PlainUpdated Status = λ some. Ok (record { base = base; new = some }) in
    let fits : length updated ≤ settings.limits.objects = omega (arith, says.long, ap (λ (ts : List PlainTrack). length ts) is, few) in
    ap (λ (r : Result (List Entry) Status). r >>= λ es. readings_of settings files es >>= made) (few_enough settings.limits.objects updated updated refl fits)
    ∙ ap (λ (r : Result (List PlainTrack) Status). r >>= made) says.read
    ∙ ap made (sym is)
