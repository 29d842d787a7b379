-- The lines of a generated file around its nodes, and where they lead.
use Rattle.std.proofs.Common.{◌≡◌, ℕ, ◌+◌, ◌/◌, ◌%◌, ◌≤◌, List, [], ◌∷◌, ◌++◌, true, false, length, ap, ◌∙◌, refl, arith, Some, None, Ok}
use Rattle.std.specs.Prelude.{◌==◌, codes}
use Rattle.std.specs.List.{list_all}
use Rattle.std.proofs.lemmas.Bool.Decides.{nat_tests}
use Rattle.cj_base.specs.Decimals.{is_huge, is_tiny}
use Rattle.cj_kvn.specs.Decimals.{digit_count, rounded, trailing_zeros, without_trailing_zeros}
use Rattle.cj_kvn.specs.Fields.{fields}
use Rattle.cj_kvn.specs.Lines.{Form, Mark, Pair, Row, form_of, is_blank, is_comment, is_key, line_form, pair_or_row}
use Rattle.cj_kvn.specs.Numbers.{is_number, number, parts_of}
use Rattle.cj_kvn.specs.declared.lines.MarkKind.TheVariants.{MetaStart, MetaStop, CovarianceStart, CovarianceStop}
use Rattle.cj_kvn.proofs.ListLemmas.{all_append}
use Rattle.cj_track.specs.declared.frame.Frame.TheVariants as frames
use Rattle.cj_track.specs.Labels.{is_visible}
use Rattle.cj_oem.specs.CovarianceRows.{NO_COVARIANCES, closed, with_matrix_pair, with_matrix_row}
use Rattle.cj_oem.specs.Metadata.{EMPTY, Metadata, MetadataDraft, Object, epoch_or, key_of, metadata_of, parse_label, with_pair, with_value}
use Rattle.cj_oem.specs.Stages.{After, Body, Cov, Data, Meta, NO_BODY, OpenSegment, Start, follows, with_segment}
use Rattle.cj_oem.specs.Words.{is_word}
use Rattle.cj_oem.proofs.MetadataAgainLemmas.{IsNeat}
use Rattle.cj_oem.proofs.PrintedLineLemmas.{Says, Tells, told_append, told_line}
use Rattle.cj_oem.proofs.PrintedPairLemmas.{covariance_start, covariance_stop, meta_start, meta_stop, pair_line, pair_text}
use Rattle.cj_oem.proofs.PrintedRowLemmas.{field_ends, field_starts, field_visible}
use Rattle.cj_oem.proofs.PrintedTextLemmas.{Ends, Starts, all_kept}
use Rattle.cj_oem.proofs.WalkLemmas.{walk, walk_append, walk_step}
use Rattle.cj_kvn.specs.Entries.{line}
use Rattle.cj_gen.specs.Texts.{covariance_text, ending_text, five, head_text, naming_text, stamp}
use Rattle.cj_gen.specs.MadeTracks.{covariance, tick_at}
use Rattle.cj_gen.proofs.StampLemmas.{stamp_field, stamp_read, start_read}

-- ---- the object

pub last_visible : (n : ℕ) → is_visible (48 + n % 10) ≡ true
last_visible n = grind (arith, nat_tests)

five_visible : (n : ℕ) → list_all is_visible (five n) ≡ true
five_visible n = rw (last_visible (n / 100 / 100), last_visible (n / 100 / 10), last_visible (n / 100), last_visible (n / 10), last_visible n) refl

five_ends : (n : ℕ) → is_blank (48 + n % 10) ≡ false
five_ends n = grind (arith, nat_tests)

abbrev pub object : ℕ → Object
object number = record { name = codes "GEN " ++ five number; id = codes "GEN-" ++ five number; frame = frames.Eme2000 }

name_neat : (n : ℕ) → IsNeat (codes "GEN " ++ five n)
name_neat n = record { some = omega arith; visible = all_append is_visible (codes "GEN ") (five n) refl (five_visible n); starts = refl; ends = five_ends n }

id_neat : (n : ℕ) → IsNeat (codes "GEN-" ++ five n)
id_neat n = record { some = omega arith; visible = all_append is_visible (codes "GEN-") (five n) refl (five_visible n); starts = refl; ends = five_ends n }

label_read : (text : List ℕ) → IsNeat text → parse_label None text ≡ Ok text
label_read text is =
    let long : (length text == 0) ≡ false = grind (arith, nat_tests, is.some) in
    rw long (ap (λ (t : List ℕ). Ok t) (all_kept text is.visible))

-- ---- what the lines say

told_pair : (key value : List ℕ) → is_key key ≡ true → is_comment (pair_text key value) ≡ false → list_all is_visible value ≡ true → Starts value → Ends value
    → Tells (line (pair_text key value)) (Pair key value ∷ [])
told_pair key value named plain visible starts ends = told_line (pair_text key value) (Pair key value) (pair_line key value named plain visible starts ends)

abbrev pub header_forms : List Form
header_forms =
    Pair (codes "CCSDS_OEM_VERS") (codes "2.0") ∷ Pair (codes "CREATION_DATE") (codes "2025-01-01T00:00:00") ∷ Pair (codes "ORIGINATOR") (codes "CONJ") ∷ Mark MetaStart ∷ []

abbrev frame_forms : List Form
frame_forms =
    Pair (codes "CENTER_NAME") (codes "EARTH") ∷ Pair (codes "REF_FRAME") (codes "EME2000") ∷ Pair (codes "TIME_SYSTEM") (codes "UTC")
    ∷ Pair (codes "START_TIME") (codes "2025-01-01T00:00:00") ∷ []

abbrev naming_forms : ℕ → List Form
naming_forms number =
    (header_forms ++ Pair (codes "OBJECT_NAME") (codes "GEN " ++ five number) ∷ [])
    ++ Pair (codes "OBJECT_ID") (codes "GEN-" ++ five number) ∷ [] ++ frame_forms

abbrev ending_forms : List Form
ending_forms = Pair (codes "INTERPOLATION") (codes "HERMITE") ∷ Pair (codes "INTERPOLATION_DEGREE") (codes "3") ∷ Mark MetaStop ∷ []

abbrev pub head_forms : ℕ → ℕ → List Form
head_forms number minutes = naming_forms number ++ Pair (codes "STOP_TIME") (stamp minutes) ∷ [] ++ ending_forms

naming_told : (number : ℕ) → Tells (naming_text number) (naming_forms number)
naming_told number =
    let name = name_neat number in
    let id = id_neat number in
    let t0 = told_pair (codes "CCSDS_OEM_VERS") (codes "2.0") refl refl refl refl refl in
    let t1 = told_append _ _ _ _ t0 (told_pair (codes "CREATION_DATE") (codes "2025-01-01T00:00:00") refl refl refl refl refl) in
    let t2 = told_append _ _ _ _ t1 (told_pair (codes "ORIGINATOR") (codes "CONJ") refl refl refl refl refl) in
    let t3 = told_append _ _ _ _ t2 (told_line (codes "META_START") (Mark MetaStart) meta_start) in
    let t4 = told_append _ _ _ _ t3 (told_pair (codes "OBJECT_NAME") (codes "GEN " ++ five number) refl refl name.visible name.starts name.ends) in
    let t5 = told_append _ _ _ _ t4 (told_pair (codes "OBJECT_ID") (codes "GEN-" ++ five number) refl refl id.visible id.starts id.ends) in
    let t6 = told_append _ _ _ _ t5 (told_pair (codes "CENTER_NAME") (codes "EARTH") refl refl refl refl refl) in
    let t7 = told_append _ _ _ _ t6 (told_pair (codes "REF_FRAME") (codes "EME2000") refl refl refl refl refl) in
    let t8 = told_append _ _ _ _ t7 (told_pair (codes "TIME_SYSTEM") (codes "UTC") refl refl refl refl refl) in
    told_append _ _ _ _ t8 (told_pair (codes "START_TIME") (codes "2025-01-01T00:00:00") refl refl refl refl refl)

stop_told : (minutes : ℕ) → Tells (line (codes "STOP_TIME = " ++ stamp minutes)) (Pair (codes "STOP_TIME") (stamp minutes) ∷ [])
stop_told minutes =
    let field = stamp_field minutes in
    told_pair (codes "STOP_TIME") (stamp minutes) refl refl (field_visible (stamp minutes) field) (field_starts (stamp minutes) field) (field_ends (stamp minutes) field)

ending_told : Tells ending_text ending_forms
ending_told =
    told_append _ _ _ _
    (told_append _ _ _ _ (told_pair (codes "INTERPOLATION") (codes "HERMITE") refl refl refl refl refl) (told_pair (codes "INTERPOLATION_DEGREE") (codes "3") refl refl refl refl refl))
    (told_line (codes "META_STOP") (Mark MetaStop) meta_stop)

pub head_told : (number minutes : ℕ) → Tells (head_text number minutes) (head_forms number minutes)
unfolding head_text
head_told number minutes = told_append _ _ _ _ (told_append _ _ _ _ (naming_told number) (stop_told minutes)) ending_told

-- ---- the covariance

abbrev pub matrix_forms : List Form
matrix_forms =
    Pair (codes "EPOCH") (codes "2025-01-01T00:00:00") ∷ Pair (codes "COV_REF_FRAME") (codes "RTN")
    ∷ Row (codes "1E-4") ∷ Row (codes "0 1E-4") ∷ Row (codes "0 0 1E-4") ∷ Row (codes "0 0 0 1E-10")
    ∷ Row (codes "0 0 0 0 1E-10") ∷ Row (codes "0 0 0 0 0 1E-10") ∷ Mark CovarianceStop ∷ []

abbrev pub covariance_forms : List Form
covariance_forms = Mark CovarianceStart ∷ matrix_forms

row_told : (text : List ℕ) → Says text (Row text) → Tells (line text) (Row text ∷ [])
row_told text says = told_line text (Row text) says

says_1 : Says (codes "1E-4") (Row (codes "1E-4"))
unfolding line_form form_of pair_or_row
says_1 = record { visible = refl; said = λ number. refl }

says_2 : Says (codes "0 1E-4") (Row (codes "0 1E-4"))
unfolding line_form form_of pair_or_row
says_2 = record { visible = refl; said = λ number. refl }

says_3 : Says (codes "0 0 1E-4") (Row (codes "0 0 1E-4"))
unfolding line_form form_of pair_or_row
says_3 = record { visible = refl; said = λ number. refl }

says_4 : Says (codes "0 0 0 1E-10") (Row (codes "0 0 0 1E-10"))
unfolding line_form form_of pair_or_row
says_4 = record { visible = refl; said = λ number. refl }

says_5 : Says (codes "0 0 0 0 1E-10") (Row (codes "0 0 0 0 1E-10"))
unfolding line_form form_of pair_or_row
says_5 = record { visible = refl; said = λ number. refl }

says_6 : Says (codes "0 0 0 0 0 1E-10") (Row (codes "0 0 0 0 0 1E-10"))
unfolding line_form form_of pair_or_row
says_6 = record { visible = refl; said = λ number. refl }

pub covariance_told : Tells covariance_text covariance_forms
covariance_told =
    let t1 = told_append _ _ _ _ (told_line (codes "COVARIANCE_START") (Mark CovarianceStart) covariance_start) (told_pair (codes "EPOCH") (codes "2025-01-01T00:00:00") refl refl refl refl refl) in
    let t2 = told_append _ _ _ _ t1 (told_pair (codes "COV_REF_FRAME") (codes "RTN") refl refl refl refl refl) in
    let t3 = told_append _ _ _ _ t2 (row_told (codes "1E-4") says_1) in
    let t4 = told_append _ _ _ _ t3 (row_told (codes "0 1E-4") says_2) in
    let t5 = told_append _ _ _ _ t4 (row_told (codes "0 0 1E-4") says_3) in
    let t6 = told_append _ _ _ _ t5 (row_told (codes "0 0 0 1E-10") says_4) in
    let t7 = told_append _ _ _ _ t6 (row_told (codes "0 0 0 0 1E-10") says_5) in
    let t8 = told_append _ _ _ _ t7 (row_told (codes "0 0 0 0 0 1E-10") says_6) in
    told_append _ _ _ _ t8 (told_line (codes "COVARIANCE_STOP") (Mark CovarianceStop) covariance_stop)

-- ---- where they lead

header_walk : walk Start header_forms ≡ Ok (Meta NO_BODY EMPTY)
unfolding follows
header_walk = refl

name_follows : (name : List ℕ) → IsNeat name → follows false (Meta NO_BODY EMPTY) (Pair (codes "OBJECT_NAME") name) ≡ Ok (Meta NO_BODY (record EMPTY { name = Some name }))
unfolding follows with_pair key_of with_value
name_follows name is = rw (label_read name is) refl

id_follows : (name id : List ℕ) → IsNeat id
    → follows false (Meta NO_BODY (record EMPTY { name = Some name })) (Pair (codes "OBJECT_ID") id) ≡ Ok (Meta NO_BODY (record EMPTY { name = Some name; id = Some id }))
unfolding follows with_pair key_of with_value
id_follows name id is = rw (label_read id is) refl

-- the draft with the object, and the first epoch
abbrev begun : List ℕ → List ℕ → MetadataDraft
begun name id = record EMPTY { name = Some name; id = Some id; center = true; frame = Some frames.Eme2000; time_system = true; start = Some 1_735_689_600_000_000 }

frame_walk : (name id : List ℕ) → walk (Meta NO_BODY (record EMPTY { name = Some name; id = Some id })) frame_forms ≡ Ok (Meta NO_BODY (begun name id))
unfolding follows with_pair key_of with_value is_word
frame_walk name id = rw start_read refl

stop_follows : (name id : List ℕ) (minutes : ℕ) → minutes ≤ 1440
    → follows false (Meta NO_BODY (begun name id)) (Pair (codes "STOP_TIME") (stamp minutes)) ≡ Ok (Meta NO_BODY (record (begun name id) { stop = Some (tick_at minutes) }))
unfolding follows with_pair key_of with_value
stop_follows name id minutes few = rw (ap epoch_or (stamp_read minutes few)) refl

abbrev pub metadata : ℕ → ℕ → Metadata
metadata number minutes = record { object = object number; first = 1_735_689_600_000_000; last = tick_at minutes }

ending_walk : (number minutes : ℕ)
    → walk (Meta NO_BODY (record (begun (object number).name (object number).id) { stop = Some (tick_at minutes) })) ending_forms
    ≡ Ok (Data NO_BODY (record { metadata = metadata number minutes; nodes = [] }))
unfolding follows with_pair key_of with_value metadata_of is_word
ending_walk number minutes = refl

pub head_walk : (number minutes : ℕ) → minutes ≤ 1440 → walk Start (head_forms number minutes) ≡ Ok (Data NO_BODY (record { metadata = metadata number minutes; nodes = [] }))
head_walk number minutes few =
    let o = object number in
    let r4 = Pair (codes "STOP_TIME") (stamp minutes) ∷ ending_forms in
    let r3 = frame_forms ++ r4 in
    let r2 = Pair (codes "OBJECT_ID") o.id ∷ r3 in
    let r1 = Pair (codes "OBJECT_NAME") o.name ∷ r2 in
    walk_append Start (Meta NO_BODY EMPTY) header_forms r1 header_walk
    ∙ walk_step _ _ _ r2 (name_follows o.name (name_neat number))
    ∙ walk_step _ _ _ r3 (id_follows o.name o.id (id_neat number))
    ∙ walk_append _ (Meta NO_BODY (begun o.name o.id)) frame_forms r4 (frame_walk o.name o.id)
    ∙ walk_step _ _ _ ending_forms (stop_follows o.name o.id minutes few)
    ∙ ending_walk number minutes

-- ---- the covariance leads behind the segment

pub matrix_walk : (b : Body) (s : OpenSegment) → walk (Cov b s NO_COVARIANCES) matrix_forms ≡ Ok (After (with_segment b s (covariance ∷ [])))
unfolding follows with_matrix_pair with_matrix_row closed fields is_word is_number number parts_of is_tiny is_huge rounded without_trailing_zeros digit_count trailing_zeros
matrix_walk b s = rw start_read refl
