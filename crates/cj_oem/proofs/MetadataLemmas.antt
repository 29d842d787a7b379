-- The metadata of a segment: reading its keys one after another asks for just what the grammar says of them.
use Rattle.std.proofs.Common.{◌≡◌, ◌≢◌, ℕ, List, [], ◌∷◌, map, length, Bool, true, false, All, AllPairs, Contains, IfSome, get_or, Option, Some, None, ◌⊎◌, inl, inr, ⊎_elim, Result, Ok, Err, arith, ap, sym, ◌∙◌, refl, subst, true≢false}
use Rattle.std.specs.Prelude.{if◌then◌else◌, ◌&&◌, ◌||◌, ◌==◌, not, codes, is_some, unwrap_or}
use Rattle.std.proofs.lemmas.Bool.{not-false, false_from_ne_true}
use Rattle.std.proofs.lemmas.Bool.Decides.{nat_tests}
use Rattle.std.proofs.lemmas.List.Elements.{All-cons, All-head, All-nil, All-tail, All-weaker, All-contains_itself}
use Rattle.std.proofs.lemmas.List.Kept.{AllPairs-cons}
use Rattle.cj_base.specs.Bytes.{spaced}
use Rattle.cj_base.proofs.LogicLemmas.{some_is}
use Rattle.cj_epoch.specs.Reading.{reading_of}
use Rattle.cj_epoch.specs.declared.fault.EpochFault.{EpochFault}
use Rattle.cj_formats.specs.declared.oem_cause.OemCause.{OemCause}
use Rattle.cj_formats.specs.declared.oem_cause.OemCause.TheVariants as causes
use Rattle.cj_track.specs.declared.frame.Frame.{Frame}
use Rattle.cj_track.specs.declared.frame.Frame.TheVariants as frames
use Rattle.cj_oem.specs.declared.key.Key.{Key}
use Rattle.cj_oem.specs.declared.key.Key.TheVariants as keys
use Rattle.cj_oem.specs.Grammar.{AreCubic, Entry, Has, HasEpoch, SaysText, IsMetadata, IsWord, Lacks, HasEpochOr, METADATA_KEYS}
use Rattle.cj_oem.specs.Words.{is_text, is_word}
use Rattle.cj_kvn.specs.Faults.{◌>>=◌}
use Rattle.cj_oem.specs.Metadata.{EMPTY, Object, Metadata, MetadataDraft, epoch_or, parse_epoch, frame_kept, frame_named, frame_of, id_of, is_cubic, is_given, key_of, parse_label, name_of, needed, metadata_of, same_frame, text_differs, unless, with_key, with_pair, with_value}
use Rattle.cj_oem.proofs.ElementLemmas.{any_all, any_at, any_cases, any_here, any_later, any_none, any_weaker, contains_cases, contains_none, pairs_head, pairs_tail}
use Rattle.cj_kvn.proofs.FaultLemmas.{bind_ok}
use Rattle.cj_oem.proofs.StepLemmas.{ok_is, text_is, text_self, unless_not, unwanted, wanted}

-- ---- the keys

abbrev key_text : Key → List ℕ
key_text keys.ObjectName = codes "OBJECT_NAME"
key_text keys.ObjectId = codes "OBJECT_ID"
key_text keys.CenterName = codes "CENTER_NAME"
key_text keys.RefFrame = codes "REF_FRAME"
key_text keys.RefFrameEpoch = codes "REF_FRAME_EPOCH"
key_text keys.TimeSystem = codes "TIME_SYSTEM"
key_text keys.StartTime = codes "START_TIME"
key_text keys.StopTime = codes "STOP_TIME"
key_text keys.UseableStartTime = codes "USEABLE_START_TIME"
key_text keys.UseableStopTime = codes "USEABLE_STOP_TIME"
key_text keys.Interpolation = codes "INTERPOLATION"
key_text keys.InterpolationDegree = codes "INTERPOLATION_DEGREE"

key_if : (text : List ℕ) (k key : Key) (b : Bool) (others : Option Key) → is_text (key_text k) text ≡ b → (others ≡ Some key → text ≡ key_text key)
    → (if b then Some k else others) ≡ Some key → text ≡ key_text key
key_if text k key true others test rest e = let same : k ≡ key = cc in text_is (key_text k) text test ∙ ap key_text same
key_if text k key false others test rest e = rest e

-- a key that a text is has that text
key_is : (text : List ℕ) (key : Key) → key_of text ≡ Some key → text ≡ key_text key
unfolding key_of
key_is text key =
    key_if text keys.ObjectName key (is_text (codes "OBJECT_NAME") text) _ refl (
    key_if text keys.ObjectId key (is_text (codes "OBJECT_ID") text) _ refl (
    key_if text keys.CenterName key (is_text (codes "CENTER_NAME") text) _ refl (
    key_if text keys.RefFrame key (is_text (codes "REF_FRAME") text) _ refl (
    key_if text keys.RefFrameEpoch key (is_text (codes "REF_FRAME_EPOCH") text) _ refl (
    key_if text keys.TimeSystem key (is_text (codes "TIME_SYSTEM") text) _ refl (
    key_if text keys.StartTime key (is_text (codes "START_TIME") text) _ refl (
    key_if text keys.StopTime key (is_text (codes "STOP_TIME") text) _ refl (
    key_if text keys.UseableStartTime key (is_text (codes "USEABLE_START_TIME") text) _ refl (
    key_if text keys.UseableStopTime key (is_text (codes "USEABLE_STOP_TIME") text) _ refl (
    key_if text keys.Interpolation key (is_text (codes "INTERPOLATION") text) _ refl (
    key_if text keys.InterpolationDegree key (is_text (codes "INTERPOLATION_DEGREE") text) _ refl (
    λ none. absurd cc))))))))))))

key_again : (key : Key) → key_of (key_text key) ≡ Some key
unfolding key_of
key_again keys.ObjectName = refl
key_again keys.ObjectId = refl
key_again keys.CenterName = refl
key_again keys.RefFrame = refl
key_again keys.RefFrameEpoch = refl
key_again keys.TimeSystem = refl
key_again keys.StartTime = refl
key_again keys.StopTime = refl
key_again keys.UseableStartTime = refl
key_again keys.UseableStopTime = refl
key_again keys.Interpolation = refl
key_again keys.InterpolationDegree = refl

-- two keys have two texts
same_key : (j k : Key) → key_text j ≡ key_text k → j ≡ k
same_key j k same = let both : Some j ≡ Some k = sym (key_again j) ∙ ap key_of same ∙ key_again k in cc

known_key : (key : Key) → Contains METADATA_KEYS (key_text key)
known_key keys.ObjectName = (0, omega arith, refl)
known_key keys.ObjectId = (1, omega arith, refl)
known_key keys.CenterName = (2, omega arith, refl)
known_key keys.RefFrame = (3, omega arith, refl)
known_key keys.RefFrameEpoch = (4, omega arith, refl)
known_key keys.TimeSystem = (5, omega arith, refl)
known_key keys.StartTime = (6, omega arith, refl)
known_key keys.StopTime = (7, omega arith, refl)
known_key keys.UseableStartTime = (8, omega arith, refl)
known_key keys.UseableStopTime = (9, omega arith, refl)
known_key keys.Interpolation = (10, omega arith, refl)
known_key keys.InterpolationDegree = (11, omega arith, refl)

-- a text is that of a key
abbrev IsKey : List ℕ → Type 0
IsKey text = (key : Key) × (text ≡ key_text key)

known_from : (all : List Key) (text : List ℕ) → Contains (map key_text all) text → IsKey text
known_from [] text among = absurd (contains_none text among)
known_from (key ∷ all) text among = ⊎_elim (λ same. (key, sym same)) (λ later. known_from all text later) (contains_cases (key_text key) (map key_text all) text among)

abbrev KEYS : List Key
KEYS =
    keys.ObjectName ∷ keys.ObjectId ∷ keys.CenterName ∷ keys.RefFrame ∷ keys.RefFrameEpoch ∷ keys.TimeSystem ∷ keys.StartTime ∷ keys.StopTime ∷ keys.UseableStartTime
    ∷ keys.UseableStopTime ∷ keys.Interpolation ∷ keys.InterpolationDegree ∷ []

known_as : (text : List ℕ) → Contains METADATA_KEYS text → IsKey text
known_as text among = known_from KEYS text among

-- ---- what a key gives

-- what a draft takes from the line of a key
data Value : Type 0 where
  Name : List ℕ → Value
  Id : List ℕ → Value
  Center : Value
  InFrame : Frame → Value
  FrameEpoch : Value
  TimeSystem : Value
  Start : ℕ → Value
  Stop : ℕ → Value
  UseableStart : ℕ → Value
  UseableStop : ℕ → Value
  Hermite : Bool → Value
  Cubic : Bool → Value

abbrev key_at : Value → Key
key_at (Name name) = keys.ObjectName
key_at (Id id) = keys.ObjectId
key_at Center = keys.CenterName
key_at (InFrame frame) = keys.RefFrame
key_at FrameEpoch = keys.RefFrameEpoch
key_at TimeSystem = keys.TimeSystem
key_at (Start at) = keys.StartTime
key_at (Stop at) = keys.StopTime
key_at (UseableStart at) = keys.UseableStartTime
key_at (UseableStop at) = keys.UseableStopTime
key_at (Hermite is) = keys.Interpolation
key_at (Cubic is) = keys.InterpolationDegree

-- the draft with this value
abbrev put : MetadataDraft → Value → MetadataDraft
put s (Name name) = record s { name = Some name }
put s (Id id) = record s { id = Some id }
put s Center = record s { center = true }
put s (InFrame frame) = record s { frame = Some frame }
put s FrameEpoch = record s { frame_epoch = true }
put s TimeSystem = record s { time_system = true }
put s (Start at) = record s { start = Some at }
put s (Stop at) = record s { stop = Some at }
put s (UseableStart at) = record s { useable_start = Some at }
put s (UseableStop at) = record s { useable_stop = Some at }
put s (Hermite is) = record s { hermite = Some is }
put s (Cubic is) = record s { cubic = Some is }

-- the draft has this value
abbrev Holds : MetadataDraft → Value → Type 0
Holds s (Name name) = s.name ≡ Some name
Holds s (Id id) = s.id ≡ Some id
Holds s Center = s.center ≡ true
Holds s (InFrame frame) = s.frame ≡ Some frame
Holds s FrameEpoch = s.frame_epoch ≡ true
Holds s TimeSystem = s.time_system ≡ true
Holds s (Start at) = s.start ≡ Some at
Holds s (Stop at) = s.stop ≡ Some at
Holds s (UseableStart at) = s.useable_start ≡ Some at
Holds s (UseableStop at) = s.useable_stop ≡ Some at
Holds s (Hermite is) = s.hermite ≡ Some is
Holds s (Cubic is) = s.cubic ≡ Some is

-- the text behind the key says this value
abbrev IsSaid : Option Object → Value → List ℕ → Type 0
IsSaid first (Name name) text = parse_label (name_of first) text ≡ Ok name
IsSaid first (Id id) text = parse_label (id_of first) text ≡ Ok id
IsSaid first Center text = is_word (codes "EARTH") text ≡ true
IsSaid first (InFrame frame) text = frame_kept (frame_of first) (frame_named text) ≡ Ok frame
IsSaid first FrameEpoch text = Unit {0}
IsSaid first TimeSystem text = is_word (codes "UTC") text ≡ true
IsSaid first (Start at) text = parse_epoch text ≡ Ok at
IsSaid first (Stop at) text = parse_epoch text ≡ Ok at
IsSaid first (UseableStart at) text = parse_epoch text ≡ Ok at
IsSaid first (UseableStop at) text = parse_epoch text ≡ Ok at
IsSaid first (Hermite is) text = is_word (codes "HERMITE") text ≡ is
IsSaid first (Cubic is) text = is_text (codes "3") text ≡ is

holds_itself : (s : MetadataDraft) (v : Value) → Holds (put s v) v
holds_itself s (Name name) = refl
holds_itself s (Id id) = refl
holds_itself s Center = refl
holds_itself s (InFrame frame) = refl
holds_itself s FrameEpoch = refl
holds_itself s TimeSystem = refl
holds_itself s (Start at) = refl
holds_itself s (Stop at) = refl
holds_itself s (UseableStart at) = refl
holds_itself s (UseableStop at) = refl
holds_itself s (Hermite is) = refl
holds_itself s (Cubic is) = refl

holds_given : (s : MetadataDraft) (v : Value) → Holds s v → is_given (key_at v) s ≡ true
holds_given s (Name name) e = ap is_some e
holds_given s (Id id) e = ap is_some e
holds_given s Center e = e
holds_given s (InFrame frame) e = ap is_some e
holds_given s FrameEpoch e = e
holds_given s TimeSystem e = e
holds_given s (Start at) e = ap is_some e
holds_given s (Stop at) e = ap is_some e
holds_given s (UseableStart at) e = ap is_some e
holds_given s (UseableStop at) e = ap is_some e
holds_given s (Hermite is) e = ap is_some e
holds_given s (Cubic is) e = ap is_some e

-- a value that is there is there in a slot
given_some : {A : Type 0} (o : Option A) → is_some o ≡ true → (x : A) × (o ≡ Some x)
given_some None e = absurd cc
given_some (Some x) e = (x, refl)

given_holds : (s : MetadataDraft) (k : Key) → is_given k s ≡ true → (v : Value) × (key_at v ≡ k) × Holds s v
given_holds s keys.ObjectName e = let x = given_some s.name e in (Name x.0, refl, x.1)
given_holds s keys.ObjectId e = let x = given_some s.id e in (Id x.0, refl, x.1)
given_holds s keys.CenterName e = (Center, refl, e)
given_holds s keys.RefFrame e = let x = given_some s.frame e in (InFrame x.0, refl, x.1)
given_holds s keys.RefFrameEpoch e = (FrameEpoch, refl, e)
given_holds s keys.TimeSystem e = (TimeSystem, refl, e)
given_holds s keys.StartTime e = let x = given_some s.start e in (Start x.0, refl, x.1)
given_holds s keys.StopTime e = let x = given_some s.stop e in (Stop x.0, refl, x.1)
given_holds s keys.UseableStartTime e = let x = given_some s.useable_start e in (UseableStart x.0, refl, x.1)
given_holds s keys.UseableStopTime e = let x = given_some s.useable_stop e in (UseableStop x.0, refl, x.1)
given_holds s keys.Interpolation e = let x = given_some s.hermite e in (Hermite x.0, refl, x.1)
given_holds s keys.InterpolationDegree e = let x = given_some s.cubic e in (Cubic x.0, refl, x.1)

not_given : {A : Type 0} (o : Option A) (x : A) → o ≡ Some x → is_some o ≡ false → ⊥
not_given o x e lacks = true≢false (sym (ap is_some e) ∙ lacks)

-- it stays, where another key gives another
holds_more : (s : MetadataDraft) (u v : Value) → is_given (key_at u) s ≡ false → Holds s v → Holds (put s u) v
holds_more s (Name a) (Name b) lacks e = absurd (not_given s.name b e lacks)
holds_more s (Id a) (Id b) lacks e = absurd (not_given s.id b e lacks)
holds_more s Center Center lacks e = refl
holds_more s (InFrame a) (InFrame b) lacks e = absurd (not_given s.frame b e lacks)
holds_more s FrameEpoch FrameEpoch lacks e = refl
holds_more s TimeSystem TimeSystem lacks e = refl
holds_more s (Start a) (Start b) lacks e = absurd (not_given s.start b e lacks)
holds_more s (Stop a) (Stop b) lacks e = absurd (not_given s.stop b e lacks)
holds_more s (UseableStart a) (UseableStart b) lacks e = absurd (not_given s.useable_start b e lacks)
holds_more s (UseableStop a) (UseableStop b) lacks e = absurd (not_given s.useable_stop b e lacks)
holds_more s (Hermite a) (Hermite b) lacks e = absurd (not_given s.hermite b e lacks)
holds_more s (Cubic a) (Cubic b) lacks e = absurd (not_given s.cubic b e lacks)
holds_more s u v lacks e = e

-- what the draft has is new, or it had it
held : (s : MetadataDraft) (u v : Value) → Holds (put s u) v → (u ≡ v) ⊎ Holds s v
held s (Name a) (Name b) e = inl (ap (λ x. Name x) (some_is a b e))
held s (Id a) (Id b) e = inl (ap (λ x. Id x) (some_is a b e))
held s Center Center e = inl refl
held s (InFrame a) (InFrame b) e = inl (ap (λ x. InFrame x) (some_is a b e))
held s FrameEpoch FrameEpoch e = inl refl
held s TimeSystem TimeSystem e = inl refl
held s (Start a) (Start b) e = inl (ap (λ x. Start x) (some_is a b e))
held s (Stop a) (Stop b) e = inl (ap (λ x. Stop x) (some_is a b e))
held s (UseableStart a) (UseableStart b) e = inl (ap (λ x. UseableStart x) (some_is a b e))
held s (UseableStop a) (UseableStop b) e = inl (ap (λ x. UseableStop x) (some_is a b e))
held s (Hermite a) (Hermite b) e = inl (ap (λ x. Hermite x) (some_is a b e))
held s (Cubic a) (Cubic b) e = inl (ap (λ x. Cubic x) (some_is a b e))
held s u v e = inr e

ok_one : {A E : Type 0} (r : Result A E) (a b : A) → r ≡ Ok a → r ≡ Ok b → a ≡ b
ok_one {A = A} {E = E} r a b e f = let both : ◌≡◌ {A = Result A E} (Ok a) (Ok b) = sym e ∙ f in cc

-- a text says one value at most
same_value : (first : Option Object) (u v : Value) (text : List ℕ) → key_at u ≡ key_at v → IsSaid first u text → IsSaid first v text → u ≡ v
same_value first (Name a) (Name b) text k e f = ap (λ x. Name x) (ok_one (parse_label (name_of first) text) a b e f)
same_value first (Id a) (Id b) text k e f = ap (λ x. Id x) (ok_one (parse_label (id_of first) text) a b e f)
same_value first Center Center text k e f = refl
same_value first (InFrame a) (InFrame b) text k e f = ap (λ x. InFrame x) (ok_one (frame_kept (frame_of first) (frame_named text)) a b e f)
same_value first FrameEpoch FrameEpoch text k e f = refl
same_value first TimeSystem TimeSystem text k e f = refl
same_value first (Start a) (Start b) text k e f = ap (λ x. Start x) (ok_one (parse_epoch text) a b e f)
same_value first (Stop a) (Stop b) text k e f = ap (λ x. Stop x) (ok_one (parse_epoch text) a b e f)
same_value first (UseableStart a) (UseableStart b) text k e f = ap (λ x. UseableStart x) (ok_one (parse_epoch text) a b e f)
same_value first (UseableStop a) (UseableStop b) text k e f = ap (λ x. UseableStop x) (ok_one (parse_epoch text) a b e f)
same_value first (Hermite a) (Hermite b) text k e f = ap (λ x. Hermite x) (sym e ∙ f)
same_value first (Cubic a) (Cubic b) text k e f = ap (λ x. Cubic x) (sym e ∙ f)
same_value first u v text k e f = absurd cc

-- a line of the key with this value is taken
value_put : (first : Option Object) (s : MetadataDraft) (v : Value) (text : List ℕ) → IsSaid first v text → with_value first s (key_at v) text ≡ Ok (put s v)
unfolding with_value
value_put first s (Name name) text e = rw e refl
value_put first s (Id id) text e = rw e refl
value_put first s Center text e = rw e refl
value_put first s (InFrame frame) text e = rw e refl
value_put first s FrameEpoch text e = refl
value_put first s TimeSystem text e = rw e refl
value_put first s (Start at) text e = rw e refl
value_put first s (Stop at) text e = rw e refl
value_put first s (UseableStart at) text e = rw e refl
value_put first s (UseableStop at) text e = rw e refl
value_put first s (Hermite is) text e = rw e refl
value_put first s (Cubic is) text e = rw e refl

-- a value that the text says, and the draft with it
record IsTaken (first : Option Object) (s : MetadataDraft) (k : Key) (text : List ℕ) (next : MetadataDraft) : Type 0 where
  value : Value
  key : key_at value ≡ k
  said : IsSaid first value text
  after : put s value ≡ next

taken : (first : Option Object) (s : MetadataDraft) (k : Key) (text : List ℕ) (next : MetadataDraft) → with_value first s k text ≡ Ok next → IsTaken first s k text next
unfolding with_value
taken first s keys.ObjectName text next e =
    let x = bind_ok (parse_label (name_of first) text) (λ name. Ok (record s { name = Some name })) next e in
    record { value = Name x.0; key = refl; said = x.1; after = ok_is _ next x.2 }
taken first s keys.ObjectId text next e =
    let x = bind_ok (parse_label (id_of first) text) (λ id. Ok (record s { id = Some id })) next e in
    record { value = Id x.0; key = refl; said = x.1; after = ok_is _ next x.2 }
taken first s keys.CenterName text next e =
    let x = wanted (is_word (codes "EARTH") text) (Ok (record s { center = true })) causes.Center next e in
    record { value = Center; key = refl; said = x.0; after = ok_is _ next x.1 }
taken first s keys.RefFrame text next e =
    let x = bind_ok (frame_kept (frame_of first) (frame_named text)) (λ frame. Ok (record s { frame = Some frame })) next e in
    record { value = InFrame x.0; key = refl; said = x.1; after = ok_is _ next x.2 }
taken first s keys.RefFrameEpoch text next e = record { value = FrameEpoch; key = refl; said = tt; after = ok_is _ next e }
taken first s keys.TimeSystem text next e =
    let x = wanted (is_word (codes "UTC") text) (Ok (record s { time_system = true })) causes.TimeSystem next e in
    record { value = TimeSystem; key = refl; said = x.0; after = ok_is _ next x.1 }
taken first s keys.StartTime text next e =
    let x = bind_ok (parse_epoch text) (λ at. Ok (record s { start = Some at })) next e in
    record { value = Start x.0; key = refl; said = x.1; after = ok_is _ next x.2 }
taken first s keys.StopTime text next e =
    let x = bind_ok (parse_epoch text) (λ at. Ok (record s { stop = Some at })) next e in
    record { value = Stop x.0; key = refl; said = x.1; after = ok_is _ next x.2 }
taken first s keys.UseableStartTime text next e =
    let x = bind_ok (parse_epoch text) (λ at. Ok (record s { useable_start = Some at })) next e in
    record { value = UseableStart x.0; key = refl; said = x.1; after = ok_is _ next x.2 }
taken first s keys.UseableStopTime text next e =
    let x = bind_ok (parse_epoch text) (λ at. Ok (record s { useable_stop = Some at })) next e in
    record { value = UseableStop x.0; key = refl; said = x.1; after = ok_is _ next x.2 }
taken first s keys.Interpolation text next e = record { value = Hermite (is_word (codes "HERMITE") text); key = refl; said = refl; after = ok_is _ next e }
taken first s keys.InterpolationDegree text next e = record { value = Cubic (is_text (codes "3") text); key = refl; said = refl; after = ok_is _ next e }

-- ---- one line

-- the line has a key that was not given, and a value for it
record IsLine (first : Option Object) (s : MetadataDraft) (entry : Entry) (next : MetadataDraft) : Type 0 where
  value : Value
  key : entry.key ≡ key_text (key_at value)
  said : IsSaid first value entry.value
  fresh : is_given (key_at value) s ≡ false
  after : put s value ≡ next

line_with : (first : Option Object) (s : MetadataDraft) (entry : Entry) (o : Option Key) (next : MetadataDraft) → key_of entry.key ≡ o → with_key first s o entry.value ≡ Ok next → IsLine first s entry next
line_with first s entry None next is e = absurd cc
line_with first s entry (Some k) next is e =
    let x = unwanted (is_given k s) (with_value first s k entry.value) causes.Twice next e in
    let t = taken first s k entry.value next x.1 in
    record {
      value = t.value;
      key = key_is entry.key k is ∙ ap key_text (sym t.key);
      said = t.said;
      fresh = ap (λ (j : Key). is_given j s) t.key ∙ x.0;
      after = t.after;
    }

line_is : (first : Option Object) (s : MetadataDraft) (entry : Entry) (next : MetadataDraft) → with_pair first s entry.key entry.value ≡ Ok next → IsLine first s entry next
unfolding with_pair
line_is first s entry next e = line_with first s entry (key_of entry.key) next refl e

line_again : (first : Option Object) (s : MetadataDraft) (entry : Entry) (v : Value) → entry.key ≡ key_text (key_at v) → IsSaid first v entry.value → is_given (key_at v) s ≡ false
    → with_pair first s entry.key entry.value ≡ Ok (put s v)
unfolding with_pair
line_again first s entry v key said fresh =
    ap (λ (k : List ℕ). with_key first s (key_of k) entry.value) key
    ∙ ap (λ (o : Option Key). with_key first s o entry.value) (key_again (key_at v))
    ∙ ap (λ (b : Bool). if b then Err causes.Twice else with_value first s (key_at v) entry.value) fresh
    ∙ value_put first s v entry.value said

-- ---- all lines

-- the line says some value of its key
abbrev IsSayable : Option Object → Entry → Type 0
IsSayable first entry = (v : Value) × (entry.key ≡ key_text (key_at v)) × IsSaid first v entry.value

-- a key is not given and lacking
line_fresh : (s : MetadataDraft) (u v : Value) → is_given (key_at u) s ≡ false → Holds s v → key_text (key_at u) ≡ key_text (key_at v) → ⊥
line_fresh s u v lacks h same =
    let key : key_at u ≡ key_at v = same_key (key_at u) (key_at v) same in
    true≢false (sym (holds_given s v h) ∙ ap (λ (k : Key). is_given k s) (sym key) ∙ lacks)

lacking : (s : MetadataDraft) (k : Key) → (is_given k s ≡ true → ⊥) → is_given k s ≡ false
lacking s k not = false_from_ne_true (is_given k s) not

-- what the keys of a block say, one after another
abbrev pub sheet_from : Option Object → MetadataDraft → List Entry → Result MetadataDraft OemCause
sheet_from first draft [] = Ok draft
sheet_from first draft (entry ∷ entries) = with_pair first draft entry.key entry.value >>= λ next. sheet_from first next entries

-- reading the keys ends at a draft that holds just what they say
record IsSheeted (first : Option Object) (s : MetadataDraft) (entries : List Entry) (end : MetadataDraft) : Type 0 where
  lines : All (IsSayable first) entries
  once : AllPairs (λ a b. a.key ≢ b.key) entries
  fresh : (v : Value) → Holds s v → Lacks entries (key_text (key_at v))
  found : (v : Value) → Holds end v → Holds s v ⊎ Has entries (key_text (key_at v)) (IsSaid first v)
  kept : (v : Value) → Holds s v → Holds end v
  there : (v : Value) → Has entries (key_text (key_at v)) (IsSaid first v) → Holds end v

sheeted_step : (first : Option Object) (s : MetadataDraft) (entry : Entry) (entries : List Entry) (next end : MetadataDraft) → IsLine first s entry next → IsSheeted first next entries end
    → IsSheeted first s (entry ∷ entries) end
sheeted_step first s entry entries next end t rest =
    let u = t.value in
    let itself : Holds next u = subst (λ (n : MetadataDraft). Holds n u) t.after (holds_itself s u) in
    let more = λ (v : Value) (h : Holds s v). subst (λ (n : MetadataDraft). Holds n v) t.after (holds_more s u v t.fresh h) in
    record {
      lines = All-cons (IsSayable first) entry entries (u, t.key, t.said) rest.lines;
      once = AllPairs-cons (λ a b. a.key ≢ b.key) entry entries (
          All-weaker (λ e. e.key ≢ key_text (key_at u)) (λ e. entry.key ≢ e.key) (λ e other same. other (sym same ∙ t.key)) entries (rest.fresh u itself)
          ) rest.once;
      fresh = λ v h.
          All-cons (λ e. e.key ≢ key_text (key_at v)) entry entries (λ same. line_fresh s u v t.fresh h (sym t.key ∙ same)) (rest.fresh v (more v h));
      found = λ v h. ⊎_elim
          (λ there. ⊎_elim
          (λ same. inr (any_here (IsOf v) entry entries (subst (λ (w : Value). IsOf w entry) same (t.key, t.said))))
          (λ before. inl before)
          (held s u v (subst (λ (n : MetadataDraft). Holds n v) (sym t.after) there)))
          (λ later. inr (any_later (IsOf v) entry entries later))
          (rest.found v h);
      kept = λ v h. rest.kept v (more v h);
      there = λ v has. ⊎_elim
          (λ here. rest.kept v (subst (Holds next) (same_value first u v entry.value (same_key _ _ (sym t.key ∙ here.0)) t.said here.1) itself))
          (λ later. rest.there v later)
          (any_cases (IsOf v) entry entries has);
    }
  where
    IsOf : Value → Entry → Type 0
    IsOf v e = (e.key ≡ key_text (key_at v)) × IsSaid first v e.value

sheeted : (first : Option Object) (entries : List Entry) (s end : MetadataDraft) → sheet_from first s entries ≡ Ok end → IsSheeted first s entries end
sheeted first [] s end e =
    let same : s ≡ end = cc in
    record {
      lines = All-nil (IsSayable first);
      once = λ i j d below within. absurd (omega arith);
      fresh = λ v h. All-nil (λ entry. entry.key ≢ key_text (key_at v));
      found = λ v h. inl (subst (λ (n : MetadataDraft). Holds n v) (sym same) h);
      kept = λ v h. subst (λ (n : MetadataDraft). Holds n v) same h;
      there = λ v has. absurd (any_none (λ entry. (entry.key ≡ key_text (key_at v)) × IsSaid first v entry.value) has);
    }
sheeted first (entry ∷ entries) s end e =
    let step = bind_ok (with_pair first s entry.key entry.value) (λ next. sheet_from first next entries) end e in
    sheeted_step first s entry entries step.0 end (line_is first s entry step.0 step.1) (sheeted first entries step.0 end step.2)

-- what each line says can be read
read_again : (first : Option Object) (entries : List Entry) (s : MetadataDraft) → All (IsSayable first) entries → AllPairs (λ a b. a.key ≢ b.key) entries
    → ((v : Value) → Holds s v → Lacks entries (key_text (key_at v))) → (end : MetadataDraft) × (sheet_from first s entries ≡ Ok end)
read_again first [] s lines once fresh = (s, refl)
read_again first (entry ∷ entries) s lines once fresh =
    let line = All-head (IsSayable first) entry entries lines in
    let u = line.0 in
    let lacks = lacking s (key_at u) (λ g.
    let h = given_holds s (key_at u) g in
    All-head (λ e. e.key ≢ key_text (key_at h.0)) entry entries (fresh h.0 h.2) (line.1 ∙ ap key_text (sym h.1))) in
    let others = pairs_head (λ a b. a.key ≢ b.key) entry entries once in
    let rest = read_again first entries (put s u) (All-tail (IsSayable first) entry entries lines) (pairs_tail (λ a b. a.key ≢ b.key) entry entries once) (λ v h. ⊎_elim
    (λ same. All-weaker (λ e. entry.key ≢ e.key) (λ e. e.key ≢ key_text (key_at v)) (λ e other at. other (line.1 ∙ ap (λ (w : Value). key_text (key_at w)) same ∙ sym at)) entries others)
    (λ before. All-tail (λ e. e.key ≢ key_text (key_at v)) entry entries (fresh v before))
    (held s u v h)) in
    (rest.0, ap (λ (r : Result MetadataDraft OemCause). r >>= λ next. sheet_from first next entries) (line_again first s entry u line.1 line.2 lacks) ∙ rest.1)

-- ---- what single values say

label_is : (first : Option (List ℕ)) (name value : List ℕ) → parse_label first value ≡ Ok name → SaysText name value
label_is first name [] e = absurd cc
label_is first name (c ∷ cs) e =
    let sized = unwanted (length (c ∷ cs) == 0) _ causes.Missing name e in
    let said = unwanted (text_differs first (map spaced (c ∷ cs))) (Ok (map spaced (c ∷ cs))) causes.ObjectChanged name sized.1 in
    (λ none. absurd cc, ok_is (map spaced (c ∷ cs)) name said.1)

differs_not : (first : Option (List ℕ)) (text : List ℕ) → IfSome first (λ f. f ≡ text) → text_differs first text ≡ false
differs_not None text h = refl
differs_not (Some f) text h = ap not (ap (λ w. is_text w text) h ∙ text_self text)

label_again : (first : Option (List ℕ)) (name value : List ℕ) → IfSome first (λ f. f ≡ name) → SaysText name value → parse_label first value ≡ Ok name
label_again first name [] same label = absurd (label.0 refl)
label_again first name (c ∷ cs) same label =
    let differs = differs_not first (map spaced (c ∷ cs)) (subst (λ n. IfSome first (λ f. f ≡ n)) (sym label.1) same) in
    let sized : (length (c ∷ cs) == 0) ≡ false = grind (arith, nat_tests) in
    rw (sized, differs) (ap (λ (text : List ℕ). Ok text) label.1)

frame_is : (first named : Option Frame) (frame : Frame) → frame_kept first named ≡ Ok frame → named ≡ Some frame
frame_is first None frame e = absurd cc
frame_is None (Some f) frame e = ap (λ x. Some x) (ok_is f frame e)
frame_is (Some g) (Some f) frame e = ap (λ x. Some x) (ok_is f frame (wanted (same_frame g f) (Ok f) causes.Frame frame e).1)

pub frame_itself : (frame : Frame) → same_frame frame frame ≡ true
frame_itself frames.Eme2000 = refl
frame_itself frames.Gcrf = refl

frame_again : (first named : Option Frame) (frame : Frame) → IfSome first (λ f. f ≡ frame) → named ≡ Some frame → frame_kept first named ≡ Ok frame
frame_again first named frame same e = ap (frame_kept first) e ∙ alone first same
  where
    alone : (first : Option Frame) → IfSome first (λ f. f ≡ frame) → frame_kept first (Some frame) ≡ Ok frame
    alone None h = refl
    alone (Some f) h = rw (ap (λ x. same_frame x frame) h ∙ frame_itself frame) refl

pub epoch_is : (r : Result ℕ EpochFault) (tick : ℕ) → epoch_or r ≡ Ok tick → r ≡ Ok tick
epoch_is (Ok t) tick e = ap (λ x. Ok x) (ok_is t tick e)
epoch_is (Err fault) tick e = absurd cc

-- ---- lines with a key

has_weaker : (entries : List Entry) (key : List ℕ) (P Q : List ℕ → Type 0) → ((value : List ℕ) → P value → Q value) → Has entries key P → Has entries key Q
has_weaker entries key P Q h has = any_weaker (λ e. (e.key ≡ key) × P e.value) (λ e. (e.key ≡ key) × Q e.value) entries (λ e there. (there.0, h e.value there.1)) has

lacks_has : (entries : List Entry) (key : List ℕ) (P : List ℕ → Type 0) → Lacks entries key → Has entries key P → ⊥
lacks_has entries key P lacks has =
    any_all (λ e. (e.key ≡ key) × P e.value) entries (All-weaker (λ e. e.key ≢ key) (λ e. (e.key ≡ key) × P e.value → ⊥) (λ e not there. not there.0) entries lacks) has

clash : (entry : Entry) (entries : List Entry) (key : List ℕ) (P : List ℕ → Type 0) → AllPairs (λ a b. a.key ≢ b.key) (entry ∷ entries) → entry.key ≡ key → Has entries key P → ⊥
clash entry entries key P once here later =
    lacks_has entries key P (
    All-weaker (λ e. entry.key ≢ e.key) (λ e. e.key ≢ key) (λ e other same. other (here ∙ sym same)) entries (pairs_head (λ a b. a.key ≢ b.key) entry entries once)
    ) later

-- of keys that stand once, what holds of one line with a key holds of each
has_value : (entries : List Entry) (key value : List ℕ) (P : List ℕ → Type 0) → AllPairs (λ a b. a.key ≢ b.key) entries → Has entries key P → Has entries key (λ v. v ≡ value) → P value
has_value [] key value P once has line = absurd (any_none (λ e. (e.key ≡ key) × P e.value) has)
has_value (entry ∷ entries) key value P once has line = ⊎_elim
    (λ here. ⊎_elim
    (λ also. subst P also.1 here.1)
    (λ later. absurd (clash entry entries key (λ v. v ≡ value) once here.0 later))
    (any_cases (λ e. (e.key ≡ key) × (e.value ≡ value)) entry entries line))
    (λ later. ⊎_elim
    (λ here. absurd (clash entry entries key P once here.0 later))
    (λ also. has_value entries key value P (pairs_tail (λ a b. a.key ≢ b.key) entry entries once) later also)
    (any_cases (λ e. (e.key ≡ key) × (e.value ≡ value)) entry entries line))
    (any_cases (λ e. (e.key ≡ key) × P e.value) entry entries has)

-- ---- a whole draft

-- what a draft with all that is needed says
record IsWhole (as_hermite3 : Bool) (s : MetadataDraft) (object : Object) (first last : ℕ) : Type 0 where
  name : s.name ≡ Some object.name
  id : s.id ≡ Some object.id
  center : s.center ≡ true
  frame : s.frame ≡ Some object.frame
  time_system : s.time_system ≡ true
  start : ℕ
  stop : ℕ
  start_time : s.start ≡ Some start
  stop_time : s.stop ≡ Some stop
  cubic : (as_hermite3 || is_cubic s) ≡ true
  useable_start : unwrap_or s.useable_start start ≡ first
  useable_stop : unwrap_or s.useable_stop stop ≡ last

needed_some : {A : Type 0} (o : Option A) (x : A) → needed o ≡ Ok x → o ≡ Some x
needed_some None x e = absurd cc
needed_some (Some y) x e = ap (λ z. Some z) (ok_is y x e)

whole_is : (as_hermite3 : Bool) (s : MetadataDraft) (metadata : Metadata) → metadata_of as_hermite3 s ≡ Ok metadata → IsWhole as_hermite3 s metadata.object metadata.first metadata.last
unfolding metadata_of
whole_is as_hermite3 s metadata e =
    let name = bind_ok (needed s.name) _ metadata e in
    let id = bind_ok (needed s.id) _ metadata name.2 in
    let center = bind_ok (unless (not s.center) causes.Missing) _ metadata id.2 in
    let frame = bind_ok (needed s.frame) _ metadata center.2 in
    let time_system = bind_ok (unless (not s.time_system) causes.Missing) _ metadata frame.2 in
    let start = bind_ok (needed s.start) _ metadata time_system.2 in
    let stop = bind_ok (needed s.stop) _ metadata start.2 in
    let cubic = bind_ok (unless (not (as_hermite3 || is_cubic s)) causes.Interpolation) _ metadata stop.2 in
    subst (λ (p : Metadata). IsWhole as_hermite3 s p.object p.first p.last) (ok_is _ metadata cubic.2) (record {
      name = needed_some s.name name.0 name.1;
      id = needed_some s.id id.0 id.1;
      center = unless_not s.center causes.Missing center.0 center.1;
      frame = needed_some s.frame frame.0 frame.1;
      time_system = unless_not s.time_system causes.Missing time_system.0 time_system.1;
      start = start.0;
      stop = stop.0;
      start_time = needed_some s.start start.0 start.1;
      stop_time = needed_some s.stop stop.0 stop.1;
      cubic = unless_not (as_hermite3 || is_cubic s) causes.Interpolation cubic.0 cubic.1;
      useable_start = refl;
      useable_stop = refl;
    })

whole_again : (as_hermite3 : Bool) (s : MetadataDraft) (object : Object) (first last : ℕ) → IsWhole as_hermite3 s object first last
    → metadata_of as_hermite3 s ≡ Ok (record { object = object; first = first; last = last })
unfolding metadata_of
whole_again as_hermite3 s object first last w =
    rw (w.name, w.id, w.center, w.frame, w.time_system, w.start_time, w.stop_time, w.cubic, w.useable_start, w.useable_stop) refl

-- ---- the metadata of a segment

holds_none : (v : Value) → Holds EMPTY v → ⊥
holds_none (Name name) e = absurd cc
holds_none (Id id) e = absurd cc
holds_none Center e = absurd cc
holds_none (InFrame frame) e = absurd cc
holds_none FrameEpoch e = absurd cc
holds_none TimeSystem e = absurd cc
holds_none (Start at) e = absurd cc
holds_none (Stop at) e = absurd cc
holds_none (UseableStart at) e = absurd cc
holds_none (UseableStop at) e = absurd cc
holds_none (Hermite is) e = absurd cc
holds_none (Cubic is) e = absurd cc

-- what a draft holds is what a line says
said_by : (first : Option Object) (entries : List Entry) (end : MetadataDraft) → IsSheeted first EMPTY entries end → (v : Value) → Holds end v → Has entries (key_text (key_at v)) (IsSaid first v)
said_by first entries end h v e = ⊎_elim (λ before. absurd (holds_none v before)) (λ has. has) (h.found v e)

-- no line has a key that was not given
lost : (first : Option Object) (entries : List Entry) (s end : MetadataDraft) → IsSheeted first s entries end → (k : Key) → is_given k end ≡ false → Lacks entries (key_text k)
lost first entries s end h k none i d within same =
    let line = h.lines i d within in
    let v = line.0 in
    let key : key_at v ≡ k = same_key (key_at v) k (sym line.1 ∙ same) in
    let holds = h.there v (any_at (λ e. (e.key ≡ key_text (key_at v)) × IsSaid first v e.value) entries (get_or entries i d) (All-contains_itself entries i d within) (line.1, line.2)) in
    true≢false (sym (holds_given end v holds) ∙ ap (λ (j : Key). is_given j end) key ∙ none)

useable_is : (entries : List Entry) (key : List ℕ) (o : Option ℕ) (other tick : ℕ) → unwrap_or o other ≡ tick → (is_some o ≡ false → Lacks entries key)
    → ((at : ℕ) → o ≡ Some at → HasEpoch entries key at) → HasEpochOr entries key other tick
useable_is entries key None other tick e lacks has = inr (lacks refl, sym e)
useable_is entries key (Some at) other tick e lacks has = inl (subst (HasEpoch entries key) e (has at refl))

cubic_by : (a b : Option Bool) → (unwrap_or a false && unwrap_or b false) ≡ true → (a ≡ Some true) × (b ≡ Some true)
cubic_by (Some true) (Some true) e = (refl, refl)
cubic_by a b e = absurd cc

cubic_is : (as_hermite3 : Bool) (first : Option Object) (entries : List Entry) (end : MetadataDraft) → IsSheeted first EMPTY entries end → (as_hermite3 || is_cubic end) ≡ true
    → (as_hermite3 ≡ true) ⊎ AreCubic entries
cubic_is true first entries end h e = inl refl
cubic_is false first entries end h e =
    let both = cubic_by end.hermite end.cubic e in
    inr (record {
      hermite = said_by first entries end h (Hermite true) both.0;
      degree = has_weaker entries (codes "INTERPOLATION_DEGREE") (λ value. is_text (codes "3") value ≡ true) (λ value. value ≡ codes "3") (λ value is. text_is (codes "3") value is)
          (said_by first entries end h (Cubic true) both.1);
    })

-- keys that are read from the start, with all that is needed, are the metadata that they say
pub metadata_is : (as_hermite3 : Bool) (first : Option Object) (entries : List Entry) (draft : MetadataDraft) (metadata : Metadata) → sheet_from first EMPTY entries ≡ Ok draft
    → metadata_of as_hermite3 draft ≡ Ok metadata → IsMetadata as_hermite3 entries metadata.object metadata.first metadata.last
metadata_is as_hermite3 first entries draft metadata read whole =
    let h = sheeted first entries EMPTY draft read in
    let w = whole_is as_hermite3 draft metadata whole in
    let o = metadata.object in
    let epoch = λ (key : List ℕ) (at : ℕ). has_weaker entries key (λ value. parse_epoch value ≡ Ok at) (λ value. reading_of value ≡ Ok at) (λ value e. epoch_is (reading_of value) at e) in
    record {
      known = All-weaker (IsSayable first) (λ e. Contains METADATA_KEYS e.key) (λ e line. subst (Contains METADATA_KEYS) (sym line.1) (known_key (key_at line.0))) entries h.lines;
      once = h.once;
      name = has_weaker entries (codes "OBJECT_NAME") (IsSaid first (Name o.name)) (SaysText o.name) (λ value e. label_is (name_of first) o.name value e)
          (said_by first entries draft h (Name o.name) w.name);
      id = has_weaker entries (codes "OBJECT_ID") (IsSaid first (Id o.id)) (SaysText o.id) (λ value e. label_is (id_of first) o.id value e)
          (said_by first entries draft h (Id o.id) w.id);
      center = said_by first entries draft h Center w.center;
      frame = has_weaker entries (codes "REF_FRAME") (IsSaid first (InFrame o.frame)) (λ value. frame_named value ≡ Some o.frame) (λ value e. frame_is (frame_of first) (frame_named value) o.frame e)
          (said_by first entries draft h (InFrame o.frame) w.frame);
      time_system = said_by first entries draft h TimeSystem w.time_system;
      start = w.start;
      stop = w.stop;
      start_time = epoch (codes "START_TIME") w.start (said_by first entries draft h (Start w.start) w.start_time);
      stop_time = epoch (codes "STOP_TIME") w.stop (said_by first entries draft h (Stop w.stop) w.stop_time);
      useable_start = useable_is entries (codes "USEABLE_START_TIME") draft.useable_start w.start metadata.first w.useable_start (lost first entries EMPTY draft h keys.UseableStartTime)
          (λ at e. epoch (codes "USEABLE_START_TIME") at (said_by first entries draft h (UseableStart at) e));
      useable_stop = useable_is entries (codes "USEABLE_STOP_TIME") draft.useable_stop w.stop metadata.last w.useable_stop (lost first entries EMPTY draft h keys.UseableStopTime)
          (λ at e. epoch (codes "USEABLE_STOP_TIME") at (said_by first entries draft h (UseableStop at) e));
      interpolation = cubic_is as_hermite3 first entries draft h w.cubic;
    }

-- ---- the first segment's object

-- the object is the first segment's, where there is one
abbrev pub Suits : Option Object → Object → Type 0
Suits first object = IfSome first (λ o. o ≡ object)

label_kept : (first name value : List ℕ) → parse_label (Some first) value ≡ Ok name → name ≡ first
label_kept first name value e =
    let sized = unwanted (length value == 0) _ causes.Missing name e in
    let said = unwanted (not (is_text first (map spaced value))) (Ok (map spaced value)) causes.ObjectChanged name sized.1 in
    sym (ok_is (map spaced value) name said.1) ∙ text_is first (map spaced value) (not-false _ said.0)

same_is : (first frame : Frame) → same_frame first frame ≡ true → frame ≡ first
same_is frames.Eme2000 frames.Eme2000 e = refl
same_is frames.Eme2000 frames.Gcrf e = absurd cc
same_is frames.Gcrf frames.Eme2000 e = absurd cc
same_is frames.Gcrf frames.Gcrf e = refl

frame_same : (first : Frame) (named : Option Frame) (frame : Frame) → frame_kept (Some first) named ≡ Ok frame → frame ≡ first
frame_same first None frame e = absurd cc
frame_same first (Some f) frame e = let said = wanted (same_frame first f) (Ok f) causes.Frame frame e in sym (ok_is f frame said.1) ∙ same_is first f said.0

-- what follows from the value of a line, whichever it is
has_then : {A : Type 0} (entries : List Entry) (key : List ℕ) (P : List ℕ → Type 0) → Has entries key P → ((value : List ℕ) → P value → A) → A
has_then entries key P (k, entry, within, at, there) h = h entry.value there.1

one_object : (o : Object) (name id : List ℕ) (frame : Frame) → name ≡ o.name → id ≡ o.id → frame ≡ o.frame → o ≡ record { name = name; id = id; frame = frame }
one_object o name id frame a b c = rw (a, b, c) refl

object_kept : (as_hermite3 : Bool) (o object : Object) (entries : List Entry) (draft : MetadataDraft) (first last : ℕ) → IsSheeted (Some o) EMPTY entries draft
    → IsWhole as_hermite3 draft object first last → o ≡ object
object_kept as_hermite3 o object entries draft first last h w =
    one_object o object.name object.id object.frame
    (has_then entries (codes "OBJECT_NAME") (IsSaid (Some o) (Name object.name)) (said_by (Some o) entries draft h (Name object.name) w.name) (label_kept o.name object.name))
    (has_then entries (codes "OBJECT_ID") (IsSaid (Some o) (Id object.id)) (said_by (Some o) entries draft h (Id object.id) w.id) (label_kept o.id object.id))
    (has_then entries (codes "REF_FRAME") (IsSaid (Some o) (InFrame object.frame)) (said_by (Some o) entries draft h (InFrame object.frame) w.frame)
    (λ value e. frame_same o.frame (frame_named value) object.frame e))

-- what is read behind the first segment is of its object
pub metadata_suits : (as_hermite3 : Bool) (first : Option Object) (entries : List Entry) (draft : MetadataDraft) (metadata : Metadata) → sheet_from first EMPTY entries ≡ Ok draft
    → metadata_of as_hermite3 draft ≡ Ok metadata → Suits first metadata.object
metadata_suits as_hermite3 None entries draft metadata read whole = tt
metadata_suits as_hermite3 (Some o) entries draft metadata read whole =
    object_kept as_hermite3 o metadata.object entries draft metadata.first metadata.last (sheeted (Some o) entries EMPTY draft read) (whole_is as_hermite3 draft metadata whole)

-- ---- and back again

name_suits : (first : Option Object) (object : Object) → Suits first object → IfSome (name_of first) (λ name. name ≡ object.name)
name_suits None object h = tt
name_suits (Some o) object h = ap (λ (x : Object). x.name) h

id_suits : (first : Option Object) (object : Object) → Suits first object → IfSome (id_of first) (λ id. id ≡ object.id)
id_suits None object h = tt
id_suits (Some o) object h = ap (λ (x : Object). x.id) h

frame_suits : (first : Option Object) (object : Object) → Suits first object → IfSome (frame_of first) (λ frame. frame ≡ object.frame)
frame_suits None object h = tt
frame_suits (Some o) object h = ap (λ (x : Object). x.frame) h

-- a value of the key that the text says
abbrev SaysValue : Option Object → Key → List ℕ → Type 0
SaysValue first k value = (v : Value) × (key_at v ≡ k) × IsSaid first v value

epoch_value : (entries : List Entry) (key value : List ℕ) (other tick : ℕ) → AllPairs (λ a b. a.key ≢ b.key) entries → HasEpochOr entries key other tick → Has entries key (λ v. v ≡ value)
    → parse_epoch value ≡ Ok tick
epoch_value entries key value other tick once (inl has) line = ap epoch_or (has_value entries key value (λ v. reading_of v ≡ Ok tick) once has line)
epoch_value entries key value other tick once (inr none) line = absurd (lacks_has entries key (λ v. v ≡ value) none.0 line)

value_said : (as_hermite3 : Bool) (first : Option Object) (entries : List Entry) (object : Object) (a b : ℕ) → Suits first object → IsMetadata as_hermite3 entries object a b
    → (k : Key) (value : List ℕ) → Has entries (key_text k) (λ v. v ≡ value) → SaysValue first k value
value_said as_hermite3 first entries object a b suits m keys.ObjectName value line =
    (Name object.name, refl, label_again (name_of first) object.name value (name_suits first object suits) (has_value entries (codes "OBJECT_NAME") value (SaysText object.name) m.once m.name line))
value_said as_hermite3 first entries object a b suits m keys.ObjectId value line =
    (Id object.id, refl, label_again (id_of first) object.id value (id_suits first object suits) (has_value entries (codes "OBJECT_ID") value (SaysText object.id) m.once m.id line))
value_said as_hermite3 first entries object a b suits m keys.CenterName value line =
    (Center, refl, has_value entries (codes "CENTER_NAME") value (IsWord (codes "EARTH")) m.once m.center line)
value_said as_hermite3 first entries object a b suits m keys.RefFrame value line = (
  InFrame object.frame,
  refl,
  frame_again (frame_of first) (frame_named value) object.frame (frame_suits first object suits)
      (has_value entries (codes "REF_FRAME") value (λ v. frame_named v ≡ Some object.frame) m.once m.frame line),
)
value_said as_hermite3 first entries object a b suits m keys.RefFrameEpoch value line = (FrameEpoch, refl, tt)
value_said as_hermite3 first entries object a b suits m keys.TimeSystem value line =
    (TimeSystem, refl, has_value entries (codes "TIME_SYSTEM") value (IsWord (codes "UTC")) m.once m.time_system line)
value_said as_hermite3 first entries object a b suits m keys.StartTime value line =
    (Start m.start, refl, ap epoch_or (has_value entries (codes "START_TIME") value (λ v. reading_of v ≡ Ok m.start) m.once m.start_time line))
value_said as_hermite3 first entries object a b suits m keys.StopTime value line =
    (Stop m.stop, refl, ap epoch_or (has_value entries (codes "STOP_TIME") value (λ v. reading_of v ≡ Ok m.stop) m.once m.stop_time line))
value_said as_hermite3 first entries object a b suits m keys.UseableStartTime value line =
    (UseableStart a, refl, epoch_value entries (codes "USEABLE_START_TIME") value m.start a m.once m.useable_start line)
value_said as_hermite3 first entries object a b suits m keys.UseableStopTime value line =
    (UseableStop b, refl, epoch_value entries (codes "USEABLE_STOP_TIME") value m.stop b m.once m.useable_stop line)
value_said as_hermite3 first entries object a b suits m keys.Interpolation value line = (Hermite (is_word (codes "HERMITE") value), refl, refl)
value_said as_hermite3 first entries object a b suits m keys.InterpolationDegree value line = (Cubic (is_text (codes "3") value), refl, refl)

lines_sayable : (as_hermite3 : Bool) (first : Option Object) (entries : List Entry) (object : Object) (a b : ℕ) → Suits first object → IsMetadata as_hermite3 entries object a b
    → All (IsSayable first) entries
lines_sayable as_hermite3 first entries object a b suits m i d within =
    let entry = get_or entries i d in
    let k = known_as entry.key (m.known i d within) in
    let line = any_at (λ e. (e.key ≡ key_text k.0) × (e.value ≡ entry.value)) entries entry (All-contains_itself entries i d within) (k.1, refl) in
    let v = value_said as_hermite3 first entries object a b suits m k.0 entry.value line in
    (v.0, k.1 ∙ ap key_text (sym v.1), v.2)

none_there : {A : Type 0} (o : Option A) → ((x : A) → o ≡ Some x → ⊥) → o ≡ None
none_there None h = refl
none_there (Some x) h = absurd (h x refl)

useable_again : (entries : List Entry) (key : List ℕ) (o : Option ℕ) (other tick : ℕ) → HasEpochOr entries key other tick
    → ((at : ℕ) → HasEpoch entries key at → o ≡ Some at) → ((at : ℕ) → o ≡ Some at → HasEpoch entries key at) → unwrap_or o other ≡ tick
useable_again entries key o other tick (inl has) there back = ap (λ (x : Option ℕ). unwrap_or x other) (there tick has)
useable_again entries key o other tick (inr none) there back =
    ap (λ (x : Option ℕ). unwrap_or x other) (none_there o (λ at e. lacks_has entries key (λ value. reading_of value ≡ Ok at) none.0 (back at e))) ∙ sym none.1

or_true : (a : Bool) → (a || true) ≡ true
or_true true = refl
or_true false = refl

cubic_again : (as_hermite3 : Bool) (first : Option Object) (entries : List Entry) (end : MetadataDraft) → IsSheeted first EMPTY entries end → (as_hermite3 ≡ true) ⊎ AreCubic entries
    → (as_hermite3 || is_cubic end) ≡ true
cubic_again as_hermite3 first entries end h (inl e) = ap (λ (b : Bool). b || is_cubic end) e
cubic_again as_hermite3 first entries end h (inr c) =
    let hermite = h.there (Hermite true) c.hermite in
    let degree = has_weaker entries (codes "INTERPOLATION_DEGREE") (λ value. value ≡ codes "3") (λ value. is_text (codes "3") value ≡ true)
    (λ value is. ap (is_text (codes "3")) is) c.degree in
    let cubic = h.there (Cubic true) degree in
    rw (hermite, cubic) (or_true as_hermite3)

-- the metadata of an object, the first segment's where there is one, are read from the start, with all that is needed
pub metadata_again : (as_hermite3 : Bool) (first : Option Object) (entries : List Entry) (object : Object) (a b : ℕ) → Suits first object → IsMetadata as_hermite3 entries object a b
    → (draft : MetadataDraft) × (sheet_from first EMPTY entries ≡ Ok draft) × (metadata_of as_hermite3 draft ≡ Ok (record { object = object; first = a; last = b }))
metadata_again as_hermite3 first entries object a b suits m =
    let read = read_again first entries EMPTY (lines_sayable as_hermite3 first entries object a b suits m) m.once (λ v h. absurd (holds_none v h)) in
    let draft = read.0 in
    let h = sheeted first entries EMPTY draft read.1 in
    let said = λ (key : List ℕ) (at : ℕ). has_weaker entries key (λ value. reading_of value ≡ Ok at) (λ value. parse_epoch value ≡ Ok at) (λ value e. ap epoch_or e) in
    let epoch = λ (key : List ℕ) (at : ℕ). has_weaker entries key (λ value. parse_epoch value ≡ Ok at) (λ value. reading_of value ≡ Ok at) (λ value e. epoch_is (reading_of value) at e) in (
      draft,
      read.1,
      whole_again as_hermite3 draft object a b (record {
        name = h.there (Name object.name) (has_weaker entries (codes "OBJECT_NAME") (SaysText object.name) (IsSaid first (Name object.name))
            (λ value l. label_again (name_of first) object.name value (name_suits first object suits) l) m.name);
        id = h.there (Id object.id) (has_weaker entries (codes "OBJECT_ID") (SaysText object.id) (IsSaid first (Id object.id))
            (λ value l. label_again (id_of first) object.id value (id_suits first object suits) l) m.id);
        center = h.there Center m.center;
        frame = h.there (InFrame object.frame) (has_weaker entries (codes "REF_FRAME") (λ value. frame_named value ≡ Some object.frame) (IsSaid first (InFrame object.frame))
            (λ value e. frame_again (frame_of first) (frame_named value) object.frame (frame_suits first object suits) e) m.frame);
        time_system = h.there TimeSystem m.time_system;
        start = m.start;
        stop = m.stop;
        start_time = h.there (Start m.start) (said (codes "START_TIME") m.start m.start_time);
        stop_time = h.there (Stop m.stop) (said (codes "STOP_TIME") m.stop m.stop_time);
        cubic = cubic_again as_hermite3 first entries draft h m.interpolation;
        useable_start = useable_again entries (codes "USEABLE_START_TIME") draft.useable_start m.start a m.useable_start
            (λ at has. h.there (UseableStart at) (said (codes "USEABLE_START_TIME") at has))
            (λ at e. epoch (codes "USEABLE_START_TIME") at (said_by first entries draft h (UseableStart at) e));
        useable_stop = useable_again entries (codes "USEABLE_STOP_TIME") draft.useable_stop m.stop b m.useable_stop
            (λ at has. h.there (UseableStop at) (said (codes "USEABLE_STOP_TIME") at has))
            (λ at e. epoch (codes "USEABLE_STOP_TIME") at (said_by first entries draft h (UseableStop at) e));
      }),
    )
