-- Printed headers and metadata are read again.
use Rattle.std.proofs.Common.{◌≡◌, ℕ, ◌-◌, ◌<◌, List, [], ◌∷◌, true, false, length, ap, ◌∙◌, refl, arith, Option, Some, None, Ok}
use Rattle.std.specs.Prelude.{◌==◌, ◌&&◌, not, nat_eq, nat_le, codes, slice_index_or}
use Rattle.std.specs.Cmp.Lexicographic.{bytes_decides, pointwise}
use Rattle.std.specs.List.{list_all}
use Rattle.std.proofs.lemmas.Bool.{and_parts}
use Rattle.std.proofs.lemmas.Bool.Decides.{nat_tests}
use Rattle.cj_kvn.specs.Lines.{Form, Mark, Pair, is_blank, is_comment, is_key}
use Rattle.cj_kvn.specs.declared.lines.MarkKind.TheVariants.{MetaStart, MetaStop}
use Rattle.cj_base.specs.Ticks.{IsTick}
use Rattle.cj_epoch.specs.Written.{epoch_of}
use Rattle.cj_kvn.specs.Entries.{entry}
use Rattle.cj_track.specs.Frames.{frame_text}
use Rattle.cj_oem.specs.Canonical.{header_text, metadata_text}
use Rattle.cj_track.specs.declared.frame.Frame.{Frame}
use Rattle.cj_track.specs.declared.frame.Frame.TheVariants as frames
use Rattle.cj_track.specs.PlainTracks.{PlainSegment, PlainTrack}
use Rattle.cj_track.specs.Labels.{is_label, is_visible}
use Rattle.cj_oem.specs.Words.{is_word}
use Rattle.cj_oem.specs.Metadata.{EMPTY, Object, Metadata, MetadataDraft, frame_kept, frame_named, frame_of, id_of, key_of, parse_label, name_of, metadata_of, text_differs, with_pair, with_value}
use Rattle.cj_oem.specs.Stages.{Body, Data, Head, Header, Meta, Start, follows}
use Rattle.cj_oem.proofs.PrintedLineLemmas.{Tells, told_append, told_line}
use Rattle.cj_oem.proofs.PrintedPairLemmas.{meta_start, meta_stop, pair_line, pair_text}
use Rattle.cj_oem.proofs.PrintedTextLemmas.{Ends, Starts, all_at, all_kept}
use Rattle.cj_oem.proofs.StateAgainLemmas.{epoch_again, epoch_line}
use Rattle.cj_oem.proofs.WalkLemmas.{walk, walk_step}

-- ---- the header

abbrev pub header_forms : List Form
header_forms =
    Pair (codes "CCSDS_OEM_VERS") (codes "2.0") ∷ Pair (codes "CREATION_DATE") (codes "1972-01-01T00:00:00.000000") ∷ Pair (codes "ORIGINATOR") (codes "CONJ") ∷ []

fixed_told : (key value : List ℕ) → is_key key ≡ true → is_comment (pair_text key value) ≡ false → list_all is_visible value ≡ true → Starts value → Ends value
    → Tells (entry key value) (Pair key value ∷ [])
fixed_told key value named plain visible starts ends = told_line (pair_text key value) (Pair key value) (pair_line key value named plain visible starts ends)

pub header_told : Tells header_text header_forms
unfolding header_text
header_told =
    told_append _ _ _ _
    (told_append _ _ _ _
    (fixed_told (codes "CCSDS_OEM_VERS") (codes "2.0") refl refl refl refl refl)
    (fixed_told (codes "CREATION_DATE") (codes "1972-01-01T00:00:00.000000") refl refl refl refl refl))
    (fixed_told (codes "ORIGINATOR") (codes "CONJ") refl refl refl refl refl)

-- the date and the originator were given
abbrev pub WHOLE_HEAD : Head
WHOLE_HEAD = record { date = true; originator = true; classification = false; message = false }

pub header_walk : walk Start header_forms ≡ Ok (Header WHOLE_HEAD)
unfolding follows
header_walk = refl

-- ---- labels

pub record IsNeat (text : List ℕ) : Type 0 where
  pub some : 0 < length text
  pub visible : list_all is_visible text ≡ true
  pub starts : Starts text
  pub ends : Ends text

no_tab : (b : ℕ) → not (b == 32) ≡ true → is_visible b ≡ true → is_blank b ≡ false
no_tab b h visible = grind (arith, nat_tests)

pub label_neat : (text : List ℕ) → is_label text ≡ true → IsNeat text
unfolding is_label
label_neat text h =
    let first = slice_index_or text 0 32 in
    let last = slice_index_or text (length text - 1) 32 in
    let all = list_all is_visible text in
    let outer = and_parts (nat_le 1 (length text) && all && not (first == 32)) (not (last == 32)) h in
    let inner = and_parts (nat_le 1 (length text) && all) (not (first == 32)) outer.0 in
    let core = and_parts (nat_le 1 (length text)) all inner.0 in
    let some : 0 < length text = grind (arith, nat_tests, core.0) in
    record {
      some = some;
      visible = core.1;
      starts = no_tab first inner.1 (all_at is_visible text 0 32 core.1 some);
      ends = no_tab last outer.1 (all_at is_visible text (length text - 1) 32 core.1 (omega (arith, some)));
    }

same_text : (text : List ℕ) → pointwise nat_eq text text ≡ true
same_text text = (bytes_decides text text).1 refl

label_again : (first : Option (List ℕ)) (text : List ℕ) → IsNeat text → text_differs first text ≡ false → parse_label first text ≡ Ok text
label_again first text is same =
    let long : (length text == 0) ≡ false = grind (arith, nat_tests, is.some) in
    let kept = all_kept text is.visible in
    rw long (rw (ap (text_differs first) kept ∙ same) (ap (λ t. Ok t) kept))

-- ---- the object of the segments before is this one, if there is one

pub record IsKnown (first : Option Object) (o : Object) : Type 0 where
  pub name : text_differs (name_of first) o.name ≡ false
  pub id : text_differs (id_of first) o.id ≡ false
  pub frame : frame_kept (frame_of first) (Some o.frame) ≡ Ok o.frame

pub known_none : (o : Object) → IsKnown None o
known_none o = record { name = refl; id = refl; frame = refl }

frame_same : (f : Frame) → frame_kept (Some f) (Some f) ≡ Ok f
frame_same frames.Eme2000 = refl
frame_same frames.Gcrf = refl

pub known_same : (o : Object) → IsKnown (Some o) o
known_same o = record { name = ap not (same_text o.name); id = ap not (same_text o.id); frame = frame_same o.frame }

-- ---- metadata

frame_again : (f : Frame) → frame_named (frame_text f) ≡ Some f
unfolding is_word
frame_again frames.Eme2000 = refl
frame_again frames.Gcrf = refl

frame_line : (f : Frame) → Tells (entry (codes "REF_FRAME") (frame_text f)) (Pair (codes "REF_FRAME") (frame_text f) ∷ [])
frame_line frames.Eme2000 = fixed_told (codes "REF_FRAME") (codes "EME2000") refl refl refl refl refl
frame_line frames.Gcrf = fixed_told (codes "REF_FRAME") (codes "GCRF") refl refl refl refl refl

-- the metadata of an object's segment with this span
abbrev pub meta_pairs : Object → ℕ → ℕ → List Form
meta_pairs o first last =
    Pair (codes "OBJECT_NAME") o.name ∷ Pair (codes "OBJECT_ID") o.id ∷ Pair (codes "CENTER_NAME") (codes "EARTH") ∷ Pair (codes "REF_FRAME") (frame_text o.frame)
    ∷ Pair (codes "TIME_SYSTEM") (codes "UTC") ∷ Pair (codes "START_TIME") (epoch_of first) ∷ Pair (codes "STOP_TIME") (epoch_of last)
    ∷ Pair (codes "INTERPOLATION") (codes "HERMITE") ∷ Pair (codes "INTERPOLATION_DEGREE") (codes "3") ∷ Mark MetaStop ∷ []

abbrev pub meta_forms : Object → ℕ → ℕ → List Form
meta_forms o first last = Mark MetaStart ∷ meta_pairs o first last

abbrev pub object_of : PlainTrack → Object
object_of e = record { name = e.name; id = e.id; frame = e.frame }

pub metadata_told : (e : PlainTrack) (segment : PlainSegment) → IsNeat e.name → IsNeat e.id → Tells (metadata_text e segment) (meta_forms (object_of e) segment.first segment.last)
unfolding metadata_text
metadata_told e segment name id =
    let t0 = told_line (codes "META_START") (Mark MetaStart) meta_start in
    let t1 = told_append _ _ _ _ t0 (fixed_told (codes "OBJECT_NAME") e.name refl refl name.visible name.starts name.ends) in
    let t2 = told_append _ _ _ _ t1 (fixed_told (codes "OBJECT_ID") e.id refl refl id.visible id.starts id.ends) in
    let t3 = told_append _ _ _ _ t2 (fixed_told (codes "CENTER_NAME") (codes "EARTH") refl refl refl refl refl) in
    let t4 = told_append _ _ _ _ t3 (frame_line e.frame) in
    let t5 = told_append _ _ _ _ t4 (fixed_told (codes "TIME_SYSTEM") (codes "UTC") refl refl refl refl refl) in
    let t6 = told_append _ _ _ _ t5 (told_line (pair_text (codes "START_TIME") (epoch_of segment.first)) (Pair (codes "START_TIME") (epoch_of segment.first)) (epoch_line (codes "START_TIME") segment.first refl refl)) in
    let t7 = told_append _ _ _ _ t6 (told_line (pair_text (codes "STOP_TIME") (epoch_of segment.last)) (Pair (codes "STOP_TIME") (epoch_of segment.last)) (epoch_line (codes "STOP_TIME") segment.last refl refl)) in
    let t8 = told_append _ _ _ _ t7 (fixed_told (codes "INTERPOLATION") (codes "HERMITE") refl refl refl refl refl) in
    let t9 = told_append _ _ _ _ t8 (fixed_told (codes "INTERPOLATION_DEGREE") (codes "3") refl refl refl refl refl) in
    told_append _ _ _ _ t9 (told_line (codes "META_STOP") (Mark MetaStop) meta_stop)

abbrev pub metadata : Object → ℕ → ℕ → Metadata
metadata o first last = record { object = o; first = first; last = last }

-- the draft with the object
abbrev named : Object → MetadataDraft
named o = record EMPTY { name = Some o.name; id = Some o.id; center = true; frame = Some o.frame; time_system = true }

abbrev filled : Object → ℕ → ℕ → MetadataDraft
filled o first last = record (named o) { start = Some first; stop = Some last; hermite = Some true; cubic = Some true }

name_follows : (b : Body) (o : Object) → IsKnown b.object o → IsNeat o.name → follows false (Meta b EMPTY) (Pair (codes "OBJECT_NAME") o.name) ≡ Ok (Meta b (record EMPTY { name = Some o.name }))
unfolding follows with_pair key_of with_value
name_follows b o known neat = rw (label_again (name_of b.object) o.name neat known.name) refl

id_follows : (b : Body) (o : Object) → IsKnown b.object o → IsNeat o.id
    → follows false (Meta b (record EMPTY { name = Some o.name })) (Pair (codes "OBJECT_ID") o.id) ≡ Ok (Meta b (record EMPTY { name = Some o.name; id = Some o.id }))
unfolding follows with_pair key_of with_value
id_follows b o known neat = rw (label_again (id_of b.object) o.id neat known.id) refl

center_follows : (b : Body) (o : Object)
    → follows false (Meta b (record EMPTY { name = Some o.name; id = Some o.id })) (Pair (codes "CENTER_NAME") (codes "EARTH")) ≡ Ok (Meta b (record EMPTY { name = Some o.name; id = Some o.id; center = true }))
unfolding follows with_pair key_of with_value is_word
center_follows b o = refl

frame_follows : (b : Body) (o : Object) → IsKnown b.object o
    → follows false (Meta b (record EMPTY { name = Some o.name; id = Some o.id; center = true })) (Pair (codes "REF_FRAME") (frame_text o.frame))
    ≡ Ok (Meta b (record EMPTY { name = Some o.name; id = Some o.id; center = true; frame = Some o.frame }))
unfolding follows with_pair key_of with_value
frame_follows b o known = rw (ap (frame_kept (frame_of b.object)) (frame_again o.frame) ∙ known.frame) refl

system_follows : (b : Body) (o : Object)
    → follows false (Meta b (record EMPTY { name = Some o.name; id = Some o.id; center = true; frame = Some o.frame })) (Pair (codes "TIME_SYSTEM") (codes "UTC")) ≡ Ok (Meta b (named o))
unfolding follows with_pair key_of with_value is_word
system_follows b o = refl

start_follows : (b : Body) (o : Object) (first : ℕ) → IsTick first
    → follows false (Meta b (named o)) (Pair (codes "START_TIME") (epoch_of first)) ≡ Ok (Meta b (record (named o) { start = Some first }))
unfolding follows with_pair key_of with_value
start_follows b o first tick = rw (epoch_again first tick) refl

stop_follows : (b : Body) (o : Object) (first last : ℕ) → IsTick last
    → follows false (Meta b (record (named o) { start = Some first })) (Pair (codes "STOP_TIME") (epoch_of last)) ≡ Ok (Meta b (record (named o) { start = Some first; stop = Some last }))
unfolding follows with_pair key_of with_value
stop_follows b o first last tick = rw (epoch_again last tick) refl

cubic_walk : (b : Body) (o : Object) (first last : ℕ)
    → walk (Meta b (record (named o) { start = Some first; stop = Some last })) (Pair (codes "INTERPOLATION") (codes "HERMITE") ∷ Pair (codes "INTERPOLATION_DEGREE") (codes "3") ∷ Mark MetaStop ∷ [])
    ≡ Ok (Data b (record { metadata = metadata o first last; nodes = [] }))
unfolding follows with_pair key_of with_value metadata_of is_word
cubic_walk b o first last = refl

pub meta_walk : (b : Body) (o : Object) (first last : ℕ) → IsKnown b.object o → IsNeat o.name → IsNeat o.id → IsTick first → IsTick last
    → walk (Meta b EMPTY) (meta_pairs o first last) ≡ Ok (Data b (record { metadata = metadata o first last; nodes = [] }))
meta_walk b o first last known name id start stop =
    let cubic = Pair (codes "INTERPOLATION") (codes "HERMITE") ∷ Pair (codes "INTERPOLATION_DEGREE") (codes "3") ∷ Mark MetaStop ∷ [] in
    let r7 = Pair (codes "STOP_TIME") (epoch_of last) ∷ cubic in
    let r6 = Pair (codes "START_TIME") (epoch_of first) ∷ r7 in
    let r5 = Pair (codes "TIME_SYSTEM") (codes "UTC") ∷ r6 in
    let r4 = Pair (codes "REF_FRAME") (frame_text o.frame) ∷ r5 in
    let r3 = Pair (codes "CENTER_NAME") (codes "EARTH") ∷ r4 in
    let r2 = Pair (codes "OBJECT_ID") o.id ∷ r3 in
    walk_step _ _ _ r2 (name_follows b o known name)
    ∙ walk_step _ _ _ r3 (id_follows b o known id)
    ∙ walk_step _ _ _ r4 (center_follows b o)
    ∙ walk_step _ _ _ r5 (frame_follows b o known)
    ∙ walk_step _ _ _ r6 (system_follows b o)
    ∙ walk_step _ _ _ r7 (start_follows b o first start)
    ∙ walk_step _ _ _ cubic (stop_follows b o first last stop)
    ∙ cubic_walk b o first last
