-- The metadata of a segment, key by key.
use Rattle.std.specs.Prelude.{ℕ, Bool, true, false, ◌&&◌, ◌||◌, not, ◌==◌, if◌then◌else◌, List, length, map, Option, Some, None, is_some, unwrap_or, Result, Ok, Err, codes}
use Rattle.cj_base.specs.Bytes.{spaced}
use Rattle.cj_kvn.specs.Faults.{◌>>=◌}
use Rattle.cj_epoch.specs.Reading.{reading_of}
use Rattle.cj_epoch.specs.declared.fault.EpochFault.{EpochFault}
use Rattle.cj_track.specs.declared.frame.Frame.{Frame}
use Rattle.cj_track.specs.declared.frame.Frame.TheVariants as frames
use Rattle.cj_oem.specs.declared.key.Key.{Key}
use Rattle.cj_oem.specs.declared.key.Key.TheVariants as keys
use Rattle.cj_formats.specs.declared.oem_cause.OemCause.{OemCause}
use Rattle.cj_formats.specs.declared.oem_cause.OemCause.TheVariants as causes
use Rattle.cj_oem.specs.Words.{is_text, is_word}

-- only where the test holds
abbrev pub unless : Bool → OemCause → Result (Unit {0}) OemCause
unless test cause = if test then Err cause else Ok tt

-- the object of a file: its name, its designator, its frame
pub record Object : Type 0 where
  pub name : List ℕ
  pub id : List ℕ
  pub frame : Frame

-- what the keys of a block have said so far
pub record MetadataDraft : Type 0 where
  pub name : Option (List ℕ)
  pub id : Option (List ℕ)
  pub center : Bool
  pub frame : Option Frame
  pub frame_epoch : Bool
  pub time_system : Bool
  pub start : Option ℕ
  pub stop : Option ℕ
  pub useable_start : Option ℕ
  pub useable_stop : Option ℕ
  -- whether the interpolation is HERMITE, and whether its degree is 3
  pub hermite : Option Bool
  pub cubic : Option Bool

-- no key was given
abbrev pub EMPTY : MetadataDraft
EMPTY = record {
  name = None;
  id = None;
  center = false;
  frame = None;
  frame_epoch = false;
  time_system = false;
  start = None;
  stop = None;
  useable_start = None;
  useable_stop = None;
  hermite = None;
  cubic = None;
}

-- the key that a text is
unfoldable pub key_of : List ℕ → Option Key
key_of text =
    if is_text (codes "OBJECT_NAME") text then Some keys.ObjectName
    else if is_text (codes "OBJECT_ID") text then Some keys.ObjectId
    else if is_text (codes "CENTER_NAME") text then Some keys.CenterName
    else if is_text (codes "REF_FRAME") text then Some keys.RefFrame
    else if is_text (codes "REF_FRAME_EPOCH") text then Some keys.RefFrameEpoch
    else if is_text (codes "TIME_SYSTEM") text then Some keys.TimeSystem
    else if is_text (codes "START_TIME") text then Some keys.StartTime
    else if is_text (codes "STOP_TIME") text then Some keys.StopTime
    else if is_text (codes "USEABLE_START_TIME") text then Some keys.UseableStartTime
    else if is_text (codes "USEABLE_STOP_TIME") text then Some keys.UseableStopTime
    else if is_text (codes "INTERPOLATION") text then Some keys.Interpolation
    else if is_text (codes "INTERPOLATION_DEGREE") text then Some keys.InterpolationDegree
    else None

-- the key was given
abbrev pub is_given : Key → MetadataDraft → Bool
is_given keys.ObjectName s = is_some s.name
is_given keys.ObjectId s = is_some s.id
is_given keys.CenterName s = s.center
is_given keys.RefFrame s = is_some s.frame
is_given keys.RefFrameEpoch s = s.frame_epoch
is_given keys.TimeSystem s = s.time_system
is_given keys.StartTime s = is_some s.start
is_given keys.StopTime s = is_some s.stop
is_given keys.UseableStartTime s = is_some s.useable_start
is_given keys.UseableStopTime s = is_some s.useable_stop
is_given keys.Interpolation s = is_some s.hermite
is_given keys.InterpolationDegree s = is_some s.cubic

-- the text differs from that of the first segment, if there is one
abbrev pub text_differs : Option (List ℕ) → List ℕ → Bool
text_differs None text = false
text_differs (Some first) text = not (is_text first text)

-- what a name or a designator says: the first segment's, if there is one
abbrev pub parse_label : Option (List ℕ) → List ℕ → Result (List ℕ) OemCause
parse_label first value =
    if length value == 0 then Err causes.Missing
    else if text_differs first (map spaced value) then Err causes.ObjectChanged
    else Ok (map spaced value)

-- the frame that a value names
abbrev pub frame_named : List ℕ → Option Frame
frame_named value =
    if is_word (codes "EME2000") value then Some frames.Eme2000
    else if is_word (codes "GCRF") value then Some frames.Gcrf
    else None

abbrev pub same_frame : Frame → Frame → Bool
same_frame frames.Eme2000 frames.Eme2000 = true
same_frame frames.Eme2000 frames.Gcrf = false
same_frame frames.Gcrf frames.Eme2000 = false
same_frame frames.Gcrf frames.Gcrf = true

-- the frame, where it is the first segment's or there is none
abbrev pub frame_kept : Option Frame → Option Frame → Result Frame OemCause
frame_kept first None = Err causes.Frame
frame_kept None (Some frame) = Ok frame
frame_kept (Some first) (Some frame) = if same_frame first frame then Ok frame else Err causes.Frame

-- the tick that an epoch says
abbrev pub epoch_or : Result ℕ EpochFault → Result ℕ OemCause
epoch_or (Ok tick) = Ok tick
epoch_or (Err fault) = Err (causes.Epoch fault)

abbrev pub parse_epoch : List ℕ → Result ℕ OemCause
parse_epoch text = epoch_or (reading_of text)

-- what the first segment gives for later ones
abbrev pub name_of : Option Object → Option (List ℕ)
name_of None = None
name_of (Some object) = Some object.name

abbrev pub id_of : Option Object → Option (List ℕ)
id_of None = None
id_of (Some object) = Some object.id

abbrev pub frame_of : Option Object → Option Frame
frame_of None = None
frame_of (Some object) = Some object.frame

-- the draft with what a key says that was not given
unfoldable pub with_value : Option Object → MetadataDraft → Key → List ℕ → Result MetadataDraft OemCause
with_value first s keys.ObjectName value = parse_label (name_of first) value >>= λ name. Ok (record s { name = Some name })
with_value first s keys.ObjectId value = parse_label (id_of first) value >>= λ id. Ok (record s { id = Some id })
with_value first s keys.CenterName value = if is_word (codes "EARTH") value then Ok (record s { center = true }) else Err causes.Center
with_value first s keys.RefFrame value = frame_kept (frame_of first) (frame_named value) >>= λ frame. Ok (record s { frame = Some frame })
with_value first s keys.RefFrameEpoch value = Ok (record s { frame_epoch = true })
with_value first s keys.TimeSystem value = if is_word (codes "UTC") value then Ok (record s { time_system = true }) else Err causes.TimeSystem
with_value first s keys.StartTime value = parse_epoch value >>= λ at. Ok (record s { start = Some at })
with_value first s keys.StopTime value = parse_epoch value >>= λ at. Ok (record s { stop = Some at })
with_value first s keys.UseableStartTime value = parse_epoch value >>= λ at. Ok (record s { useable_start = Some at })
with_value first s keys.UseableStopTime value = parse_epoch value >>= λ at. Ok (record s { useable_stop = Some at })
with_value first s keys.Interpolation value = Ok (record s { hermite = Some (is_word (codes "HERMITE") value) })
with_value first s keys.InterpolationDegree value = Ok (record s { cubic = Some (is_text (codes "3") value) })

-- the draft with a further pair
abbrev pub with_key : Option Object → MetadataDraft → Option Key → List ℕ → Result MetadataDraft OemCause
with_key first s None value = Err causes.Unknown
with_key first s (Some key) value = if is_given key s then Err causes.Twice else with_value first s key value

unfoldable pub with_pair : Option Object → MetadataDraft → List ℕ → List ℕ → Result MetadataDraft OemCause
with_pair first s key value = with_key first s (key_of key) value

-- what the metadata of a segment says: its object, and its useable span
pub record Metadata : Type 0 where
  pub object : Object
  pub first : ℕ
  pub last : ℕ

-- what is there, and else the key is missing
abbrev pub needed : {A : Type 0} → Option A → Result A OemCause
needed None = Err causes.Missing
needed (Some x) = Ok x

-- the file declares the cubic between two nodes
abbrev pub is_cubic : MetadataDraft → Bool
is_cubic s = unwrap_or s.hermite false && unwrap_or s.cubic false

-- what a whole draft says; the cubic may be taken where the file declares another interpolation or none
unfoldable pub metadata_of : Bool → MetadataDraft → Result Metadata OemCause
metadata_of as_hermite3 s = do
  name ← needed s.name
  id ← needed s.id
  _ ← unless (not s.center) causes.Missing
  frame ← needed s.frame
  _ ← unless (not s.time_system) causes.Missing
  start ← needed s.start
  stop ← needed s.stop
  _ ← unless (not (as_hermite3 || is_cubic s)) causes.Interpolation
  Ok (record {
    object = record { name = name; id = id; frame = frame };
    first = unwrap_or s.useable_start start;
    last = unwrap_or s.useable_stop stop;
  })
