-- How a message is read: line by line, each with the key in its place.
use Rattle.std.specs.Prelude.{ℕ, ◌+◌, Bool, true, false, nat_eq, if◌then◌else◌, List, [], ◌∷◌, ◌++◌, codes, Option, Some, None, option_map, Result, Ok, Err}
use Rattle.std.specs.List.{after_first, before_first, list_any, starts_with}
use Rattle.cj_base.specs.Bytes.{is_feed}
use Rattle.cj_base.specs.Numbers.{Number}
use Rattle.cj_kvn.specs.Faults.{◌>>=◌ as and_then}
use Rattle.cj_kvn.specs.declared.text_fault.LineFault.{LineFault}
use Rattle.cj_track.specs.declared.frame.Frame.{Frame}
use Rattle.cj_cdm.specs.declared.fault.CdmCause.{CdmCause}
use Rattle.cj_cdm.specs.declared.fault.CdmCause.TheVariants as causes
use Rattle.cj_rtn.specs.declared.relative.AxisValues.{AxisValues}
use Rattle.cj_rtn.specs.declared.relative.Rtn.{Rtn}
use Rattle.cj_rtn.specs.declared.vector.Vector.{Vector}
use Rattle.cj_cdm.specs.Messages.{PlainSide, PlainStamp, PlainMessage}
use Rattle.cj_cdm.specs.Texts.{elements}
use Rattle.cj_cdm.specs.Values.{axis_value_said, behind_front, constant_said, designator_said, element_said, epoch_said, frame_said, id_said, kilometres_said, label_said, miss_said, only_if, originator_said}

-- what is left of a message, and the number of its next line
pub record Rest : Type 0 where
  pub text : List ℕ
  pub line : ℕ

-- a fault of a message at its line
abbrev pub Fault : Type 0
Fault = LineFault CdmCause

abbrev pub fault_at : {A : Type 0} → ℕ → CdmCause → Result A Fault
fault_at line cause = Err (record { line = line; cause = cause })

-- a reader takes what it reads off the front of the rest
abbrev pub Reading : Type 0 → Type 0
Reading A = Rest → Result (A × Rest) Fault

infixl 10 ◌>>=◌
abbrev pub ◌>>=◌ : {A B : Type 0} → Reading A → (A → Reading B) → Reading B
(p >>= f) rest = and_then (p rest) (λ x. f x.0 x.1)

-- nothing more is taken
abbrev pub give : {A : Type 0} → A → Reading A
give x rest = Ok (x, rest)

abbrev pub is_none_left : List ℕ → Bool
is_none_left [] = true
is_none_left (b ∷ bs) = false

abbrev pub or_fault : {A : Type 0} → ℕ → CdmCause → Option A → Result A Fault
or_fault line cause (Some x) = Ok x
or_fault line cause None = fault_at line cause

-- what stands behind this front in the next line
unfoldable pub value_in : List ℕ → Rest → Result (List ℕ) Fault
value_in front rest =
    if is_none_left rest.text then fault_at rest.line causes.End
    else or_fault rest.line causes.Key (behind_front front (before_first is_feed rest.text))

-- what stands behind the first line of a text, where that has an end
abbrev pub behind_feed : List ℕ → Option (List ℕ)
behind_feed text = only_if (list_any is_feed text) (after_first is_feed text)

-- the rest behind the next line
unfoldable pub behind_line : Rest → Result Rest Fault
behind_line rest = or_fault (rest.line + 1) causes.End (option_map (λ text. record { text = text; line = rest.line + 1 }) (behind_feed rest.text))

-- what was read of the next line, where that is something, and what follows the line
unfoldable pub taken : {A : Type 0} → Rest → Option A → Result (A × Rest) Fault
taken rest said = and_then (or_fault rest.line causes.Value said) (λ x. and_then (behind_line rest) (λ behind. Ok (x, behind)))

-- a line with this front, whose value is read so
unfoldable pub line_said : {A : Type 0} → List ℕ → (List ℕ → Option A) → Reading A
line_said front said rest = and_then (value_in front rest) (λ value. taken rest (said value))

-- a key with its value
abbrev pub entry_said : {A : Type 0} → List ℕ → (List ℕ → Option A) → Reading A
entry_said key said = line_said (key ++ codes " = ") said

unfoldable pub stamp_said : Reading PlainStamp
stamp_said = do
  version ← entry_said (codes "CCSDS_CDM_VERS") (constant_said (codes "1.0"))
  created ← entry_said (codes "CREATION_DATE") epoch_said
  originator ← entry_said (codes "ORIGINATOR") originator_said
  number ← entry_said (codes "MESSAGE_ID") (id_said originator)
  give (record { created = created; originator = originator; number = number })

-- what the lines up to the miss distance say
pub record Front : Type 0 where
  pub stamp : PlainStamp
  pub tca : ℕ
  pub miss : ℕ

unfoldable pub front_said : Reading Front
front_said = do
  stamp ← stamp_said
  tca ← entry_said (codes "TCA") epoch_said
  miss ← entry_said (codes "MISS_DISTANCE") miss_said
  give (record { stamp = stamp; tca = tca; miss = miss })

-- the first tick of the screened window, and the last
pub record Period : Type 0 where
  pub start : ℕ
  pub stop : ℕ

unfoldable pub period_said : Reading Period
period_said = do
  start ← entry_said (codes "START_SCREEN_PERIOD") epoch_said
  stop ← entry_said (codes "STOP_SCREEN_PERIOD") epoch_said
  give (record { start = start; stop = stop })

-- what the lines before the objects say
pub record Heading : Type 0 where
  pub stamp : PlainStamp
  pub tca : ℕ
  pub miss : ℕ
  pub start : ℕ
  pub stop : ℕ

-- what both say
abbrev pub heading_by : Front → Period → Heading
heading_by front period = record { stamp = front.stamp; tca = front.tca; miss = front.miss; start = period.start; stop = period.stop }

unfoldable pub heading_said : Reading Heading
heading_said = do
  front ← front_said
  period ← period_said
  give (heading_by front period)

-- what an object is
pub record Object : Type 0 where
  pub id : List ℕ
  pub name : List ℕ
  pub designator : List ℕ
  pub file : List ℕ
  pub frame : Frame

-- where the ephemeris of an object with this number and name comes from, and what it says
unfoldable pub source_said : List ℕ → List ℕ → Reading Object
source_said id name = do
  designator ← entry_said (codes "INTERNATIONAL_DESIGNATOR") designator_said
  file ← entry_said (codes "EPHEMERIS_NAME") label_said
  method ← entry_said (codes "COVARIANCE_METHOD") (constant_said (codes "CALCULATED"))
  maneuverable ← entry_said (codes "MANEUVERABLE") (constant_said (codes "N/A"))
  frame ← entry_said (codes "REF_FRAME") frame_said
  give (record { id = id; name = name; designator = designator; file = file; frame = frame })

-- an object that is called by this word
unfoldable pub object_said : List ℕ → Reading Object
object_said called = do
  object ← entry_said (codes "OBJECT") (constant_said called)
  id ← entry_said (codes "OBJECT_DESIGNATOR") label_said
  catalog ← entry_said (codes "CATALOG_NAME") (constant_said (codes "OEM"))
  name ← entry_said (codes "OBJECT_NAME") label_said
  source_said id name

-- three coordinates in this unit, each with its key
unfoldable pub vector_said : List ℕ → List ℕ → List ℕ → List ℕ → Reading Vector
vector_said x_key y_key z_key unit = do
  x ← entry_said x_key (kilometres_said unit)
  y ← entry_said y_key (kilometres_said unit)
  z ← entry_said z_key (kilometres_said unit)
  give (record { x = x; y = y; z = z })

-- a place, in km
abbrev pub place_said : Reading Vector
place_said = vector_said (codes "X") (codes "Y") (codes "Z") (codes "km")

-- a rate, in km/s
abbrev pub rate_said : Reading Vector
rate_said = vector_said (codes "X_DOT") (codes "Y_DOT") (codes "Z_DOT") (codes "km/s")

-- elements of a covariance with these keys and units
unfoldable pub elements_said : List (List ℕ × List ℕ) → Reading (List Number)
elements_said [] = give []
elements_said (element ∷ more) = do
  value ← entry_said element.0 (element_said element.1)
  values ← elements_said more
  give (value ∷ values)

-- one object of a message, which is called by this word
unfoldable pub side_said : List ℕ → Reading PlainSide
side_said called = do
  object ← object_said called
  place ← place_said
  rate ← rate_said
  epoch ← line_said (codes "COMMENT COVARIANCE EPOCH ") epoch_said
  values ← elements_said elements
  give (record {
    id = object.id;
    name = object.name;
    designator = object.designator;
    file = object.file;
    frame = object.frame;
    place = place;
    rate = rate;
    epoch = epoch;
    values = values;
  })

-- all lines of a message
unfoldable pub message_said : Reading PlainMessage
message_said = do
  heading ← heading_said
  object1 ← side_said (codes "OBJECT1")
  object2 ← side_said (codes "OBJECT2")
  give (record {
    stamp = heading.stamp;
    tca = heading.tca;
    miss = heading.miss;
    start = heading.start;
    stop = heading.stop;
    object1 = object1;
    object2 = object2;
  })

-- nothing is left
abbrev pub ended : {A : Type 0} → A × Rest → Result A Fault
ended x = if is_none_left x.1.text then Ok x.0 else fault_at x.1.line causes.End

-- the message that a text is, or its first fault
unfoldable pub reading : List ℕ → Result PlainMessage Fault
reading text = and_then (message_said (record { text = text; line = 1 })) ended

-- what p reads where the next line begins with this front, and else nothing, and nothing is taken
unfoldable pub perhaps : {A : Type 0} → List ℕ → Reading A → Reading (Option A)
perhaps front p rest = if starts_with nat_eq rest.text front then and_then (p rest) (λ x. Ok (Some x.0, x.1)) else Ok (None, rest)

-- three values along axes in this unit, each with its key
unfoldable pub axis_values_said : List ℕ → List ℕ → List ℕ → List ℕ → Reading AxisValues
axis_values_said r_key t_key n_key unit = do
  r ← entry_said r_key (axis_value_said unit)
  t ← entry_said t_key (axis_value_said unit)
  n ← entry_said n_key (axis_value_said unit)
  give (record { r = r; t = t; n = n })

-- the state of the second object relative to the first
unfoldable pub relative_said : Reading Rtn
relative_said = do
  place ← axis_values_said (codes "RELATIVE_POSITION_R") (codes "RELATIVE_POSITION_T") (codes "RELATIVE_POSITION_N") (codes "m")
  rate ← axis_values_said (codes "RELATIVE_VELOCITY_R") (codes "RELATIVE_VELOCITY_T") (codes "RELATIVE_VELOCITY_N") (codes "m/s")
  give (record { place = place; rate = rate })

-- all lines of a message, and those of the relative state behind the miss distance, where they are there
unfoldable pub message_with_said : Reading (PlainMessage × Option Rtn)
message_with_said = do
  front ← front_said
  relative ← perhaps (codes "RELATIVE_POSITION_R = ") relative_said
  period ← period_said
  object1 ← side_said (codes "OBJECT1")
  object2 ← side_said (codes "OBJECT2")
  give (
    record {
      stamp = front.stamp;
      tca = front.tca;
      miss = front.miss;
      start = period.start;
      stop = period.stop;
      object1 = object1;
      object2 = object2;
    },
    relative,
  )

-- the message and the relative state that a text is, or its first fault
unfoldable pub reading_with : List ℕ → Result (PlainMessage × Option Rtn) Fault
reading_with text = and_then (message_with_said (record { text = text; line = 1 })) ended
