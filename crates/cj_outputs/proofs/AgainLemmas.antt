-- A folder with a file beside its own, whose name is that of no input: the case that is asked of it, and the certificate that this file is.
use Rattle.std.proofs.Common.{◌≡◌, ℕ, suc, ◌+◌, ◌<◌, ◌≤◌, Bool, true, false, not, ◌&&◌, ◌||◌, cond, if◌then◌else◌, nat_le, nat_lt, ◌==◌, bytes_eq}
use Rattle.std.proofs.Common.{List, [], ◌∷◌, ◌++◌, length, map, filter, Option, Some, None, option_map, Result, Ok, Err, refl, sym, ap, ◌∙◌, le-ltb, arith}
use Rattle.std.specs.List.{AllByRecursion, position_from}
use Rattle.std.specs.Cmp.Lexicographic.{slice_cmp}
use Rattle.std.specs.declared.cmp.Ordering.{Ordering}
use Rattle.std.specs.declared.cmp.Ordering.TheVariants.{Less, Equal, Greater}
use Rattle.std.specs.Ordering.{is_lt, nat_cmp, ordering_then}
use Rattle.std.proofs.lemmas.Bool.Decides.{nat_tests}
use Rattle.std.proofs.lemmas.Iterator.Adapters.{position_from-zero}
use Rattle.std.proofs.lemmas.List.{length-map}
use Rattle.std.proofs.lemmas.Slice.Eq.{bytes_eq-Decides}
use Rattle.cj_io.specs.declared.file.FileBytes.{FileBytes}
use Rattle.cj_io.specs.Files.{bytes_of, names_of}
use Rattle.cj_words.specs.Settings.{PlainSettings}
use Rattle.cj_track.specs.PlainTracks.{PlainTrack}
use Rattle.cj_case.specs.PlainProblems.{PlainProblem}
use Rattle.cj_status.specs.declared.status.Status.{Status}
use Rattle.cj_status.specs.declared.status.Status.TheVariants as status
use Rattle.cj_status.specs.declared.status.CertificateCause.TheVariants.{NoFile}
use Rattle.cj_status.specs.declared.status.FileCause.TheVariants.{NoPrimaries, NoSizes}
use Rattle.cj_status.specs.declared.status.LimitFault.TheVariants.{Objects}
use Rattle.cj_status.specs.Steps.{◌>>=◌}
use Rattle.cj_inputs.specs.declared.input_files.Entry.{Entry}
use Rattle.cj_inputs.specs.Cases.{case_asked, case_of_run, within_limits, within_objects}
use Rattle.cj_inputs.specs.CheckInputs.{certificate_at, certificate_named}
use Rattle.cj_inputs.specs.InputFiles.{PlainApart, apart_of, entries_from, entry_cmp, inputs_of, is_apart, is_taken}
use Rattle.cj_inputs.specs.InputFiles as inputs
use Rattle.cj_inputs.specs.ObjectAttributes.{PlainAttributes, attributes_asked}
use Rattle.cj_inputs.specs.ObjectPrimaries.{ids_of, primaries_asked, primaries_at, primaries_of_file}
use Rattle.cj_inputs.specs.ObjectSizes.{first_named, sizes_asked, sizes_at, sizes_of_file}
use Rattle.cj_inputs.specs.Orders.{inserted, sorted}
use Rattle.cj_inputs.specs.Readings.{checked_after, reading_after, reading_of, readings_after, readings_of, within}
use Rattle.cj_inputs.specs.Trims.{left_said, trims_of}
use Rattle.cj_outputs.specs.Again.{HoldAlso, IsNoInput, has_name, without_name}
use Rattle.cj_outputs.specs.Outcome.{output}

-- ---- files that are told by their names

-- what passes is the same where before it is left out what does not pass
passing_without : {X : Type 0} (passes left_out : X → Bool) → ((x : X) → left_out x ≡ true → passes x ≡ false) → (xs : List X)
    → filter passes (filter (λ x. not (left_out x)) xs) ≡ filter passes xs
passing_without passes left_out fails [] = refl
passing_without {X = X} passes left_out fails (x ∷ xs) = chosen (left_out x) (fails x) (passing_without passes left_out fails xs)
  where
    chosen : (b : Bool) → (b ≡ true → passes x ≡ false) → filter passes (filter (λ y. not (left_out y)) xs) ≡ filter passes xs
        → filter passes (cond (not b) (x ∷ filter (λ y. not (left_out y)) xs) (filter (λ y. not (left_out y)) xs)) ≡ filter passes (x ∷ xs)
    chosen true none rest = rest ∙ sym (ap (λ (p : Bool). cond p (x ∷ filter passes xs) (filter passes xs)) (none refl))
    chosen false none rest = ap (λ (ys : List X). cond (passes x) (x ∷ ys) ys) rest

-- the same of files that differ in those of one name, which do not pass
passing_alike : (passes : FileBytes → Bool) (name : List ℕ) (files later : List FileBytes) → ((file : FileBytes) → file.name ≡ name → passes file ≡ false)
    → without_name name later ≡ without_name name files → filter passes later ≡ filter passes files
passing_alike passes name files later fails others =
    let named : (file : FileBytes) → has_name name file ≡ true → passes file ≡ false = λ file has. fails file ((bytes_eq-Decides file.name name).0 has) in
    sym (passing_without passes (has_name name) named later) ∙ ap (filter passes) others ∙ passing_without passes (has_name name) named files

-- ---- files that are told by their numbers

-- these files stand in the folder from a number on
abbrev StandFrom : List FileBytes → ℕ → List FileBytes → Type 0
StandFrom all number files = (k : ℕ) → bytes_of all (number + k) ≡ bytes_of files k

stand_all : (all : List FileBytes) → StandFrom all 0 all
stand_all all k = let same : 0 + k ≡ k = omega arith in ap (bytes_of all) same

stand_behind : (all : List FileBytes) (number : ℕ) (file : FileBytes) (files : List FileBytes) → StandFrom all number (file ∷ files)
    → StandFrom all (number + 1) files
stand_behind all number file files stand k = let same : number + 1 + k ≡ number + suc k = omega arith in ap (bytes_of all) same ∙ stand (suc k)

stands_first : (all : List FileBytes) (number : ℕ) (file : FileBytes) (files : List FileBytes) → StandFrom all number (file ∷ files)
    → bytes_of all number ≡ file.bytes
stands_first all number file files stand = let same : number ≡ number + 0 = omega arith in ap (bytes_of all) same ∙ stand 0

-- ---- the first file with a name

abbrev first_bytes : List FileBytes → Option (List ℕ)
first_bytes [] = None
first_bytes (file ∷ files) = Some file.bytes

first_from : (name : List ℕ) (all : List FileBytes) (number : ℕ) (files : List FileBytes) → StandFrom all number files
    → option_map (bytes_of all) (position_from (λ other. bytes_eq other name) number (names_of files)) ≡ first_bytes (filter (has_name name) files)
first_from name all number [] stand = refl
first_from name all number (file ∷ files) stand =
    chosen (bytes_eq file.name name) (first_from name all (number + 1) files (stand_behind all number file files stand))
  where
    chosen : (b : Bool)
        → option_map (bytes_of all) (position_from (λ other. bytes_eq other name) (number + 1) (names_of files)) ≡ first_bytes (filter (has_name name) files)
        → option_map (bytes_of all) (cond b (Some number) (position_from (λ other. bytes_eq other name) (number + 1) (names_of files)))
        ≡ first_bytes (cond b (file ∷ filter (has_name name) files) (filter (has_name name) files))
    chosen true rest = ap Some (stands_first all number file files stand)
    chosen false rest = rest

-- its bytes are those of the first of the files that have the name
first_found : (name : List ℕ) (files : List FileBytes)
    → option_map (bytes_of files) (first_named name (names_of files)) ≡ first_bytes (filter (has_name name) files)
first_found name files =
    ap (option_map (bytes_of files)) (position_from-zero (λ other. bytes_eq other name) (names_of files)) ∙ first_from name files 0 files (stand_all files)

-- what is read of bytes, where there are some
abbrev read_or : {A : Type 0} → Result A Status → (List ℕ → Result A Status) → Option (List ℕ) → Result A Status
read_or missing read None = missing
read_or missing read (Some bytes) = read bytes

-- ---- the files of sizes and of primaries

sizes_by_bytes : (files : List FileBytes) (name : List ℕ) (number : Option ℕ)
    → sizes_at files name number ≡ read_or (Err (status.BadFile name 0 NoSizes)) (sizes_of_file name) (option_map (bytes_of files) number)
sizes_by_bytes files name None = refl
sizes_by_bytes files name (Some number) = refl

sizes_again : (sizes : Option (List ℕ)) (name : List ℕ) (files later : List FileBytes) → inputs.has_name sizes name ≡ false
    → without_name name later ≡ without_name name files → sizes_asked later sizes ≡ sizes_asked files sizes
unfolding sizes_asked
sizes_again None name files later other others = refl
sizes_again (Some own) name files later other others =
    let fails : (file : FileBytes) → file.name ≡ name → has_name own file ≡ false = λ file is. ap (λ (n : List ℕ). bytes_eq n own) is ∙ other in
    let same : filter (has_name own) later ≡ filter (has_name own) files = passing_alike (has_name own) name files later fails others in
    sizes_by_bytes later own (first_named own (names_of later))
    ∙ ap (read_or (Err (status.BadFile own 0 NoSizes)) (sizes_of_file own)) (first_found own later ∙ ap first_bytes same ∙ sym (first_found own files))
    ∙ sym (sizes_by_bytes files own (first_named own (names_of files)))

primaries_by_bytes : (known : List (List ℕ)) (files : List FileBytes) (name : List ℕ) (number : Option ℕ)
    → primaries_at known files name number ≡ read_or (Err (status.BadFile name 0 NoPrimaries)) (primaries_of_file known name) (option_map (bytes_of files) number)
primaries_by_bytes known files name None = refl
primaries_by_bytes known files name (Some number) = refl

primaries_again : (known : List (List ℕ)) (primaries : Option (List ℕ)) (name : List ℕ) (files later : List FileBytes) → inputs.has_name primaries name ≡ false
    → without_name name later ≡ without_name name files → primaries_asked known later primaries ≡ primaries_asked known files primaries
unfolding primaries_asked
primaries_again known None name files later other others = refl
primaries_again known (Some own) name files later other others =
    let fails : (file : FileBytes) → file.name ≡ name → has_name own file ≡ false = λ file is. ap (λ (n : List ℕ). bytes_eq n own) is ∙ other in
    let same : filter (has_name own) later ≡ filter (has_name own) files = passing_alike (has_name own) name files later fails others in
    let read =
    primaries_by_bytes known later own (first_named own (names_of later))
    ∙ ap (read_or (Err (status.BadFile own 0 NoPrimaries)) (primaries_of_file known own)) (first_found own later ∙ ap first_bytes same ∙ sym (first_found own files))
    ∙ sym (primaries_by_bytes known files own (first_named own (names_of files))) in
    ap (λ (r : Result (List (List ℕ)) Status). r >>= λ ids. Ok (Some ids)) read

-- a name that is none of two
apart_of_both : (a b : Bool) → (a || b) ≡ false → (a ≡ false) × (b ≡ false)
apart_of_both true b is = absurd cc
apart_of_both false b is = (refl, is)

attributes_again : (settings : PlainSettings) (es : List PlainTrack) (name : List ℕ) (files later : List FileBytes) → is_apart (apart_of settings) name ≡ false
    → without_name name later ≡ without_name name files → attributes_asked es [] later settings ≡ attributes_asked es [] files settings
unfolding attributes_asked
attributes_again settings es name files later apart others =
    let both = apart_of_both (inputs.has_name settings.sizes name) (inputs.has_name settings.primaries name) apart in
    let sizes = sizes_again settings.sizes name files later both.0 others in
    let primaries = primaries_again (ids_of es ++ []) settings.primaries name files later both.1 others in
    (λ i. sizes i >>= λ given. primaries i >>= λ named. Ok (record { sizes = given; primaries = named }))

-- ---- the files that are taken

-- the file of an entry
abbrev file_of : List FileBytes → Entry → FileBytes
file_of all entry = output entry.name (bytes_of all entry.number)

abbrev by_name : FileBytes → FileBytes → Ordering
by_name a b = slice_cmp nat_cmp a.name b.name

abbrev takes : List ℕ → PlainApart → FileBytes → Bool
takes suffix apart file = is_taken suffix apart file.name

-- the order of what stands later is that of the first sort alone
tie_stays : (o : Ordering) (m n : ℕ) → n < m → is_lt (ordering_then o (nat_cmp m n)) ≡ is_lt o
tie_stays Less m n more = refl
tie_stays Equal m n more = not_less (nat_lt m n) (m == n) (le-ltb m n (omega arith))
  where
    not_less : (lt eq : Bool) → lt ≡ false → is_lt (cond lt Less (cond eq Equal Greater)) ≡ false
    not_less true eq is = absurd cc
    not_less false true is = refl
    not_less false false is = refl
tie_stays Greater m n more = refl

-- an entry among such with greater numbers stands where its name takes it
inserted_again : (all : List FileBytes) (x : Entry) (ys : List Entry) → AllByRecursion (λ (y : Entry). x.number < y.number) ys
    → map (file_of all) (inserted entry_cmp x ys) ≡ inserted by_name (file_of all x) (map (file_of all) ys)
inserted_again all x [] behind = refl
inserted_again all x (y ∷ ys) behind =
    ap (λ (b : Bool). map (file_of all) (cond b (y ∷ inserted entry_cmp x ys) (x ∷ y ∷ ys)))
    (tie_stays (slice_cmp nat_cmp y.name x.name) y.number x.number behind.0)
    ∙ chosen (is_lt (by_name (file_of all y) (file_of all x))) (inserted_again all x ys behind.1)
  where
    chosen : (b : Bool) → map (file_of all) (inserted entry_cmp x ys) ≡ inserted by_name (file_of all x) (map (file_of all) ys)
        → map (file_of all) (cond b (y ∷ inserted entry_cmp x ys) (x ∷ y ∷ ys))
        ≡ cond b (file_of all y ∷ inserted by_name (file_of all x) (map (file_of all) ys)) (file_of all x ∷ file_of all y ∷ map (file_of all) ys)
    chosen true rest = ap (λ (fs : List FileBytes). file_of all y ∷ fs) rest
    chosen false rest = refl

all_inserted : {K : Type 0} (P : K → Type 0) (R : K → K → Ordering) (x : K) (ys : List K) → P x → AllByRecursion P ys → AllByRecursion P (inserted R x ys)
all_inserted P R x [] here all = (here, tt)
all_inserted P R x (y ∷ ys) here all = chosen (is_lt (R y x)) (all_inserted P R x ys here all.1)
  where
    chosen : (b : Bool) → AllByRecursion P (inserted R x ys) → AllByRecursion P (cond b (y ∷ inserted R x ys) (x ∷ y ∷ ys))
    chosen true later = (all.0, later)
    chosen false later = (here, all)

all_sorted : {K : Type 0} (P : K → Type 0) (R : K → K → Ordering) (xs : List K) → AllByRecursion P xs → AllByRecursion P (sorted R xs)
all_sorted P R [] all = tt
all_sorted P R (x ∷ xs) all = all_inserted P R x (sorted R xs) all.0 (all_sorted P R xs all.1)

-- entries from a number on have greater numbers than one before it
numbers_behind : (suffix : List ℕ) (apart : PlainApart) (before number : ℕ) (names : List (List ℕ)) → before < number
    → AllByRecursion (λ (y : Entry). before < y.number) (entries_from suffix apart number names)
numbers_behind suffix apart before number [] less = tt
numbers_behind suffix apart before number (name ∷ names) less =
    chosen (is_taken suffix apart name) (numbers_behind suffix apart before (number + 1) names (omega arith))
  where
    chosen : (b : Bool) → AllByRecursion (λ (y : Entry). before < y.number) (entries_from suffix apart (number + 1) names)
        → AllByRecursion (λ (y : Entry). before < y.number)
        (cond b (record { name = name; number = number } ∷ entries_from suffix apart (number + 1) names) (entries_from suffix apart (number + 1) names))
    chosen true rest = (less, rest)
    chosen false rest = rest

-- the files of the entries in their order are the files that are taken, by name, ties as they stood
sorted_from : (suffix : List ℕ) (apart : PlainApart) (all : List FileBytes) (number : ℕ) (files : List FileBytes) → StandFrom all number files
    → map (file_of all) (sorted entry_cmp (entries_from suffix apart number (names_of files))) ≡ sorted by_name (filter (takes suffix apart) files)
sorted_from suffix apart all number [] stand = refl
sorted_from suffix apart all number (file ∷ files) stand =
    chosen (takes suffix apart file) (sorted_from suffix apart all (number + 1) files (stand_behind all number file files stand))
  where
    entry : Entry
    entry = record { name = file.name; number = number }

    behind : List Entry
    behind = entries_from suffix apart (number + 1) (names_of files)

    chosen : (b : Bool) → map (file_of all) (sorted entry_cmp behind) ≡ sorted by_name (filter (takes suffix apart) files)
        → map (file_of all) (sorted entry_cmp (cond b (entry ∷ behind) behind))
        ≡ sorted by_name (cond b (file ∷ filter (takes suffix apart) files) (filter (takes suffix apart) files))
    chosen true rest =
        let greater = numbers_behind suffix apart number (number + 1) (names_of files) (omega arith) in
        let here : file_of all entry ≡ file = ap (output file.name) (stands_first all number file files stand) in
        inserted_again all entry (sorted entry_cmp behind) (all_sorted (λ (y : Entry). number < y.number) entry_cmp behind greater)
        ∙ (λ i. inserted by_name (here i) (rest i))
    chosen false rest = rest

files_taken : (suffix : List ℕ) (apart : PlainApart) (files : List FileBytes)
    → map (file_of files) (inputs_of suffix apart (names_of files)) ≡ sorted by_name (filter (takes suffix apart) files)
unfolding inputs_of
files_taken suffix apart files = sorted_from suffix apart files 0 files (stand_all files)

-- a file of a name that is no input's is not taken
none_taken : (settings : PlainSettings) (name : List ℕ) (files later : List FileBytes) → IsNoInput settings name → without_name name later ≡ without_name name files
    → filter (takes settings.suffix (apart_of settings)) later ≡ filter (takes settings.suffix (apart_of settings)) files
none_taken settings name files later apart others = passing_alike (takes settings.suffix (apart_of settings)) name files later fails others
  where
    fails : (file : FileBytes) → file.name ≡ name → takes settings.suffix (apart_of settings) file ≡ false
    fails file is =
        ap (is_taken settings.suffix (apart_of settings)) is ∙ ap (λ (b : Bool). b && not (is_apart (apart_of settings) name)) apart.suffix

-- ---- what they are read as

abbrev files_after : PlainSettings → List PlainTrack → List FileBytes → Result (List PlainTrack) Status
files_after settings before [] = Ok before
files_after settings before (file ∷ files) =
    (left_said (trims_of settings) (reading_of settings.as_hermite3 file.name file.bytes) >>= checked_after settings.limits.nodes before file.name)
    >>= λ e. files_after settings (before ++ e ∷ []) files

readings_by_files : (settings : PlainSettings) (all : List FileBytes) (before : List PlainTrack) (entries : List Entry)
    → readings_after settings all before entries ≡ files_after settings before (map (file_of all) entries)
readings_by_files settings all before [] = refl
readings_by_files settings all before (entry ∷ entries) =
    each (reading_after settings all before entry) (λ e. readings_by_files settings all (before ++ e ∷ []) entries)
  where
    one : PlainTrack → Result (List PlainTrack) Status
    one e = readings_after settings all (before ++ e ∷ []) entries

    other : PlainTrack → Result (List PlainTrack) Status
    other e = files_after settings (before ++ e ∷ []) (map (file_of all) entries)

    each : (r : Result PlainTrack Status) → ((e : PlainTrack) → one e ≡ other e) → (r >>= one) ≡ (r >>= other)
    each (Ok e) same = same e
    each (Err s) same = refl

abbrev within_files : ℕ → List FileBytes → Result (List FileBytes) Status
within_files most files = if nat_le (length files) most then Ok files else Err (status.Limit (Objects (length files)))

-- the case that is made of the files that are taken, in order, and of what is said of their objects
abbrev case_in : {S : Type 0} → (List PlainTrack → S → PlainProblem) → PlainSettings → List FileBytes → (List PlainTrack → Result S Status) → Result PlainProblem Status
case_in made settings taken said =
    within_files settings.limits.objects taken >>= λ files. files_after settings [] files >>= λ es. said es >>= λ given. within_limits settings.limits.object_slots (made es given)

-- as many entries as files are within the limit where these are
within_alike : {A : Type 0} (most : ℕ) (entries : List Entry) (files : List FileBytes) (f : List Entry → Result A Status) (g : List FileBytes → Result A Status)
    → length entries ≡ length files → f entries ≡ g files → (within_objects most entries >>= f) ≡ (within_files most files >>= g)
within_alike most entries files f g many same =
    chosen (nat_le (length entries) most) ∙ ap (λ (n : ℕ). cond (nat_le n most) (Ok files) (Err (status.Limit (Objects n))) >>= g) many
  where
    chosen : (b : Bool) → (cond b (Ok entries) (Err (status.Limit (Objects (length entries)))) >>= f)
        ≡ (cond b (Ok files) (Err (status.Limit (Objects (length entries)))) >>= g)
    chosen true = same
    chosen false = refl

asked_by_files : (settings : PlainSettings) (files : List FileBytes)
    → case_asked files settings
    ≡ case_in (case_of_run settings) settings (sorted by_name (filter (takes settings.suffix (apart_of settings)) files))
    (λ es. attributes_asked es [] files settings)
unfolding case_asked
asked_by_files settings files =
    let entries = inputs_of settings.suffix (apart_of settings) (names_of files) in
    let said : List PlainTrack → Result PlainAttributes Status = λ es. attributes_asked es [] files settings in
    let rest : List PlainTrack → Result PlainProblem Status = λ es. said es >>= λ given. within_limits settings.limits.object_slots (case_of_run settings es given) in
    within_alike settings.limits.objects entries (map (file_of files) entries) (λ es. readings_of settings files es >>= rest)
    (λ fs. files_after settings [] fs >>= rest) (sym (length-map entries (file_of files)))
    (ap (λ (r : Result (List PlainTrack) Status). r >>= rest) (readings_by_files settings files [] entries))
    ∙ ap (λ (taken : List FileBytes). case_in (case_of_run settings) settings taken said) (files_taken settings.suffix (apart_of settings) files)

-- the case that is asked is the same
pub asked_again : (settings : PlainSettings) (name bytes : List ℕ) (files later : List FileBytes) → IsNoInput settings name → HoldAlso name bytes files later
    → case_asked later settings ≡ case_asked files settings
asked_again settings name bytes files later apart hold =
    let taken = none_taken settings name files later apart hold.others in
    let said = λ (es : List PlainTrack). attributes_again settings es name files later apart.apart hold.others in
    asked_by_files settings later
    ∙ (λ i. case_in (case_of_run settings) settings (sorted by_name (taken i)) (λ es. said es i))
    ∙ sym (asked_by_files settings files)

-- ---- the certificate

abbrev no_certificate : Result (List ℕ) Status
no_certificate = Err (status.NotAccepted 0 NoFile)

certificate_by_bytes : (most : ℕ) (files : List FileBytes) (name : List ℕ) (number : Option ℕ)
    → certificate_at most files name number ≡ read_or no_certificate (within most name) (option_map (bytes_of files) number)
certificate_by_bytes most files name None = refl
certificate_by_bytes most files name (Some number) = refl

-- it is what this file holds
pub named_again : (most : ℕ) (name bytes : List ℕ) (files later : List FileBytes) → HoldAlso name bytes files later → length bytes ≤ most
    → certificate_named most later name ≡ Ok bytes
unfolding certificate_named
named_again most name bytes files later hold short =
    let few : nat_le (length bytes) most ≡ true = grind (arith, nat_tests) in
    certificate_by_bytes most later name (first_named name (names_of later))
    ∙ ap (read_or no_certificate (within most name)) (first_found name later ∙ ap first_bytes hold.once) ∙ rw few refl
