-- What is read of a file of primaries.
use Rattle.std.proofs.Common.{◌≡◌, ℕ, List, [], ◌∷◌, ◌++◌, length, Option, Some, true, false, Ok, Err, refl, sym, ap, ◌∙◌, arith, Bor}
use Rattle.std.specs.Prelude.{◌==◌}
use Rattle.std.proofs.lemmas.Bool.{eqb-true, false≢true}
use Rattle.cj_io.specs.declared.file.FileBytes.{FileBytes}
use Rattle.cj_io.specs.Files.{bytes_of, names_of}
use Rattle.cj_sizes.specs.Primaries.{reading}
use Rattle.cj_sizes.specs.Sizes.{Size}
use Rattle.cj_track.specs.PlainTracks.{PlainTrack}
use Rattle.cj_track.specs.declared.track.Track.{Track}
use Rattle.cj_words.specs.Settings.{PlainSettings}
use Rattle.cj_status.specs.Steps.{◌>>=◌}
use Rattle.cj_status.specs.declared.status.Status.TheVariants.{BadFile}
use Rattle.cj_status.specs.declared.status.FileCause.TheVariants.{NoPrimaries}
use Rattle.cj_inputs.specs.declared.reading.InputError.{InputError}
use Rattle.cj_inputs.specs.ObjectAttributes.{PlainAttributes, attributes_asked}
use Rattle.cj_inputs.specs.ObjectPrimaries.{ids_of, primaries_asked, primaries_of_file, refused_primaries}
use Rattle.cj_inputs.specs.ObjectSizes.{first_named, sizes_asked}
use Rattle.cj_inputs.specs.Readings.{Reads, within_bytes}
use Rattle.cj_inputs.proofs.BatchLemmas.{reads_wider}
use Rattle.cj_inputs.proofs.ReadingLemmas.{reads_on}

abbrev pub Ids : Type 0
Ids = List (List ℕ)

abbrev pub lent : Bor (List ℕ) → List ℕ
lent id = id.now

abbrev pub id_of : Track → List ℕ
id_of track = track.id

-- a file that names nobody is refused
pub nobody_named : (name : List ℕ) (ids : Ids) (many : ℕ) → many ≡ length ids → (many == 0) ≡ true → refused_primaries name (Ok ids) ≡ Err (BadFile name 0 NoPrimaries)
nobody_named name [] many long none = refl
nobody_named name (id ∷ ids) many long none = let zero_long : many ≡ 0 = eqb-true many 0 none in absurd (omega (arith, zero_long, long))

-- and one that names somebody is not
pub somebody_named : (name : List ℕ) (ids : Ids) (many : ℕ) → many ≡ length ids → (many == 0) ≡ false → refused_primaries name (Ok ids) ≡ Ok ids
somebody_named name [] many long some = absurd (false≢true (sym some ∙ ap (λ (n : ℕ). n == 0) long))
somebody_named name (id ∷ ids) many long some = refl

-- the file was not read
pub primaries_unread : {X Y : Type 0} (rose : Type 0) (whole : X → List ℕ) (view : Y → Ids) (known : Ids) (name bytes : List ℕ) (why : InputError) → Reads rose whole (Err why) (within_bytes name bytes)
    → Reads rose view (Err why) (primaries_of_file known name bytes)
unfolding primaries_of_file
primaries_unread rose whole view known name bytes why read = reads_on rose whole view why (within_bytes name bytes) (λ all. refused_primaries name (reading known all)) read

-- it was, and says this
pub primaries_read : (known : Ids) (name bytes kept : List ℕ) → within_bytes name bytes ≡ Ok kept → primaries_of_file known name bytes ≡ refused_primaries name (reading known kept)
unfolding primaries_of_file
primaries_read known name bytes kept all = rw all refl

-- ---- the file that is named

-- what the first file of the name says, in a folder that has one
pub asked_at : (known : Ids) (files : List FileBytes) (name : List ℕ) (number : ℕ) → first_named name (names_of files) ≡ Some number
    → primaries_asked known files (Some name) ≡ (primaries_of_file known name (bytes_of files number) >>= λ ids. Ok (Some ids))
unfolding primaries_asked
asked_at known files name number here = rw here refl

-- ---- both files

-- the file of sizes is not read
pub sizes_unread : {X Y : Type 0} (later rose : Type 0) (view : X → List Size) (seen : Y → PlainAttributes) (es others : List PlainTrack) (files : List FileBytes) (settings : PlainSettings) (why : InputError)
    → (later → rose) → Reads later view (Err why) (sizes_asked files settings.sizes) → Reads rose seen (Err why) (attributes_asked es others files settings)
unfolding attributes_asked
sizes_unread later rose view seen es others files settings why wider read =
    reads_on rose view seen why (sizes_asked files settings.sizes)
    (λ sizes. primaries_asked (ids_of es ++ ids_of others) files settings.primaries >>= λ primaries. Ok (record { sizes = sizes; primaries = primaries }))
    (reads_wider later rose view view why (sizes_asked files settings.sizes) wider read)

-- it is, and that of primaries is not
pub named_unread : {X Y : Type 0} (later rose : Type 0) (view : X → Option Ids) (seen : Y → PlainAttributes) (es others : List PlainTrack) (files : List FileBytes) (settings : PlainSettings) (sizes : List Size)
    (why : InputError) → (later → rose) → sizes_asked files settings.sizes ≡ Ok sizes → Reads later view (Err why) (primaries_asked (ids_of es ++ ids_of others) files settings.primaries)
    → Reads rose seen (Err why) (attributes_asked es others files settings)
unfolding attributes_asked
named_unread later rose view seen es others files settings sizes why wider sized read =
    let due = primaries_asked (ids_of es ++ ids_of others) files settings.primaries in
    rw sized (reads_on rose view seen why due (λ primaries. Ok (record { sizes = sizes; primaries = primaries })) (reads_wider later rose view view why due wider read))

-- both are
pub both_read : (es others : List PlainTrack) (files : List FileBytes) (settings : PlainSettings) (sizes : List Size) (primaries : Option Ids) → sizes_asked files settings.sizes ≡ Ok sizes
    → primaries_asked (ids_of es ++ ids_of others) files settings.primaries ≡ Ok primaries → attributes_asked es others files settings ≡ Ok (record { sizes = sizes; primaries = primaries })
unfolding attributes_asked
both_read es others files settings sizes primaries sized named = rw (sized, named) refl
