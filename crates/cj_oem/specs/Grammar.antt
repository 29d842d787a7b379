-- A file as a whole: a header, then blocks of metadata, nodes and covariances. Segment k is what block k says.
use Rattle.std.specs.Prelude.{◌≡◌, ◌≢◌, ℕ, ◌+◌, ◌<◌, ◌≤◌, ◌⊎◌, Bool, true, false, List, [], ◌∷◌, ◌++◌}
use Rattle.std.specs.Prelude.{map, flat_map, drop, length, All, AllPairs, Any, Contains, ℤ, Option, Some, None, Ok, IsSomeAnd, IsOk, codes}
use Rattle.cj_base.specs.Bytes.{spaced}
use Rattle.cj_kvn.specs.Lines.{Form, Mark, Pair, Row, Numbered, telling}
use Rattle.cj_kvn.specs.Lines as kvn
use Rattle.cj_kvn.specs.declared.lines.MarkKind.TheVariants.{MetaStart, MetaStop, CovarianceStart, CovarianceStop}
use Rattle.cj_kvn.specs.Fields.{fields}
use Rattle.cj_kvn.specs.Numbers.{scaled_of}
use Rattle.cj_kvn.specs.Decimals.{decimal_of}
use Rattle.cj_epoch.specs.Reading.{reading_of}
use Rattle.cj_base.specs.LeapSeconds.{leap_lies_between}
use Rattle.cj_track.specs.PlainTracks.{PlainNode, PlainMatrix, PlainSegment, PlainTrack, first_state, last_state}
use Rattle.cj_track.specs.Labels.{is_file_name}
use Rattle.cj_oem.specs.Words.{is_word}
use Rattle.cj_track.specs.Limits.{IsWithin, MAX_COORDINATE, MAX_RATE, MAX_STEP}
use Rattle.cj_oem.specs.Metadata.{Object, frame_named}
use Rattle.cj_oem.specs.NodeRows.{field_in}

-- a key with its value
pub record Entry : Type 0 where
  pub key : List ℕ
  pub value : List ℕ

-- lines of keys with their values
abbrev pub pair_lines : List Entry → List Form
pair_lines entries = map (λ entry. Pair entry.key entry.value) entries

-- lines of rows
abbrev pub row_lines : List (List ℕ) → List Form
row_lines rows = map (λ row. Row row) rows

-- ---- the header

-- a version that is read
abbrev pub IsVersion : List ℕ → Type 0
IsVersion value = (value ≡ codes "1.0") ⊎ (value ≡ codes "2.0") ⊎ (value ≡ codes "3.0")

-- a key that may stand in the header
abbrev pub IsHeaderKey : List ℕ → Type 0
IsHeaderKey key = (key ≡ codes "CREATION_DATE") ⊎ (key ≡ codes "ORIGINATOR") ⊎ (key ≡ codes "CLASSIFICATION") ⊎ (key ≡ codes "MESSAGE_ID")

-- these keys, each at most once, a date and an originator among them
pub record IsHeader (entries : List Entry) : Type 0 where
  pub known : All (λ entry. IsHeaderKey entry.key) entries
  pub once : AllPairs (λ a b. a.key ≢ b.key) entries
  pub date : Any (λ entry. entry.key ≡ codes "CREATION_DATE") entries
  pub originator : Any (λ entry. entry.key ≡ codes "ORIGINATOR") entries

-- ---- metadata

-- the keys that may stand in the metadata of a segment
abbrev pub METADATA_KEYS : List (List ℕ)
METADATA_KEYS =
    codes "OBJECT_NAME" ∷ codes "OBJECT_ID" ∷ codes "CENTER_NAME" ∷ codes "REF_FRAME" ∷ codes "REF_FRAME_EPOCH" ∷ codes "TIME_SYSTEM"
    ∷ codes "START_TIME" ∷ codes "STOP_TIME" ∷ codes "USEABLE_START_TIME" ∷ codes "USEABLE_STOP_TIME"
    ∷ codes "INTERPOLATION" ∷ codes "INTERPOLATION_DEGREE" ∷ []

-- a line with this key has a value of which P holds
abbrev pub Has : List Entry → List ℕ → (List ℕ → Type 0) → Type 0
Has entries key P = Any (λ entry. (entry.key ≡ key) × P entry.value) entries

-- no line has this key
abbrev pub Lacks : List Entry → List ℕ → Type 0
Lacks entries key = All (λ entry. entry.key ≢ key) entries

-- the value is this word, in letters of either case
abbrev pub IsWord : List ℕ → List ℕ → Type 0
IsWord word value = is_word word value ≡ true

-- the value is not empty, and is this text once its tabs are spaces
abbrev pub SaysText : List ℕ → List ℕ → Type 0
SaysText text value = (value ≢ []) × (map spaced value ≡ text)

-- the line with this key says the epoch of this tick
abbrev pub HasEpoch : List Entry → List ℕ → ℕ → Type 0
HasEpoch entries key tick = Has entries key (λ value. reading_of value ≡ Ok tick)

-- so does the line with this key, or there is none and the tick is the other one
abbrev pub HasEpochOr : List Entry → List ℕ → ℕ → ℕ → Type 0
HasEpochOr entries key other tick = HasEpoch entries key tick ⊎ (Lacks entries key × (tick ≡ other))

-- the lines declare the cubic between two nodes
pub record AreCubic (entries : List Entry) : Type 0 where
  pub hermite : Has entries (codes "INTERPOLATION") (IsWord (codes "HERMITE"))
  pub degree : Has entries (codes "INTERPOLATION_DEGREE") (λ value. value ≡ codes "3")

-- metadata of a segment of the object, useable from the first tick to the last: known keys, each at most once, and what the line of each says
pub record IsMetadata (as_hermite3 : Bool) (entries : List Entry) (object : Object) (first last : ℕ) : Type 0 where
  pub known : All (λ entry. Contains METADATA_KEYS entry.key) entries
  pub once : AllPairs (λ a b. a.key ≢ b.key) entries
  pub name : Has entries (codes "OBJECT_NAME") (SaysText object.name)
  pub id : Has entries (codes "OBJECT_ID") (SaysText object.id)
  pub center : Has entries (codes "CENTER_NAME") (IsWord (codes "EARTH"))
  pub frame : Has entries (codes "REF_FRAME") (λ value. frame_named value ≡ Some object.frame)
  pub time_system : Has entries (codes "TIME_SYSTEM") (IsWord (codes "UTC"))
  pub start : ℕ
  pub stop : ℕ
  pub start_time : HasEpoch entries (codes "START_TIME") start
  pub stop_time : HasEpoch entries (codes "STOP_TIME") stop
  pub useable_start : HasEpochOr entries (codes "USEABLE_START_TIME") start first
  pub useable_stop : HasEpochOr entries (codes "USEABLE_STOP_TIME") stop last
  pub interpolation : (as_hermite3 ≡ true) ⊎ AreCubic entries

-- ---- nodes

-- the field with this index says this number, in units of 10 ^ -12 and at most so large in size
abbrev pub IsFigure : List (List ℕ) → ℕ → ℕ → ℤ → Type 0
IsFigure row i limit z = (scaled_of 12 (field_in row i) ≡ Ok z) × IsWithin limit z

-- the fields of a row say a node: an epoch, a place in km, a rate in km/s; three accelerations may follow
pub record IsNodeRow (row : List (List ℕ)) (state : PlainNode) : Type 0 where
  pub count : (length row ≡ 7) ⊎ (length row ≡ 10)
  pub epoch : reading_of (field_in row 0) ≡ Ok state.at
  pub x : IsFigure row 1 MAX_COORDINATE state.p.x
  pub y : IsFigure row 2 MAX_COORDINATE state.p.y
  pub z : IsFigure row 3 MAX_COORDINATE state.p.z
  pub x_dot : IsFigure row 4 MAX_RATE state.v.x
  pub y_dot : IsFigure row 5 MAX_RATE state.v.y
  pub z_dot : IsFigure row 6 MAX_RATE state.v.z
  pub accelerations : All (λ text. IsOk (decimal_of text)) (drop 7 row)

-- each row says its node
abbrev pub SayNodes : List (List ℕ) → List PlainNode → Type 0
SayNodes [] [] = Unit {0}
SayNodes [] (state ∷ nodes) = ⊥
SayNodes (row ∷ rows) [] = ⊥
SayNodes (row ∷ rows) (state ∷ nodes) = IsNodeRow (fields row) state × SayNodes rows nodes

-- the second node comes after the first, at most an hour later, with no leap second between
pub record IsNodeStep (a b : PlainNode) : Type 0 where
  pub rises : a.at < b.at
  pub short : b.at ≤ a.at + MAX_STEP
  pub steady : leap_lies_between a.at b.at ≡ false

-- each node is a step from the one before
abbrev pub AreNodeSteps : List PlainNode → Type 0
AreNodeSteps [] = Unit {0}
AreNodeSteps (a ∷ []) = Unit {0}
AreNodeSteps (a ∷ b ∷ nodes) = IsNodeStep a b × AreNodeSteps (b ∷ nodes)

-- the useable span is not empty, and lies from the first node to the last
pub record IsUseable (first last : ℕ) (nodes : List PlainNode) : Type 0 where
  pub some : first ≤ last
  pub after : IsSomeAnd (first_state nodes) (λ state. state.at ≤ first)
  pub before : IsSomeAnd (last_state nodes) (λ state. last ≤ state.at)

-- ---- covariances

-- the line of a matrix's frame, if there is one
abbrev pub frame_lines : Option (List ℕ) → List Form
frame_lines None = []
frame_lines (Some frame) = Pair (codes "COV_REF_FRAME") frame ∷ []

-- the frame of a matrix is RTN, in letters of either case; without its line it is not
abbrev pub IsRtn : Option (List ℕ) → Type 0
IsRtn frame = IsSomeAnd frame (IsWord (codes "RTN"))

-- the lines of a matrix: its epoch, perhaps its frame, six rows of one to six fields, each field a number
pub record IsMatrix (lines : List Form) (frame : Option (List ℕ)) (covariance : PlainMatrix) : Type 0 where
  pub epoch : List ℕ
  pub rows : List (List ℕ)
  pub shape : lines ≡ Pair (codes "EPOCH") epoch ∷ frame_lines frame ++ row_lines rows
  pub at : reading_of epoch ≡ Ok covariance.at
  pub triangle : map (λ row. length (fields row)) rows ≡ 1 ∷ 2 ∷ 3 ∷ 4 ∷ 5 ∷ 6 ∷ []
  pub numbers : map decimal_of (flat_map fields rows) ≡ map Ok covariance.values

-- matrices one after another: those in RTN are kept, others are not used
pub data AreMatrices : List Form → List PlainMatrix → Type 0 where
  none : AreMatrices [] []
  kept : (lines rest : List Form) (frame : Option (List ℕ)) (covariance : PlainMatrix) (covariances : List PlainMatrix) →
      IsMatrix lines frame covariance → IsRtn frame → AreMatrices rest covariances → AreMatrices (lines ++ rest) (covariance ∷ covariances)
  unused : (lines rest : List Form) (frame : Option (List ℕ)) (covariance : PlainMatrix) (covariances : List PlainMatrix) →
      IsMatrix lines frame covariance → (IsRtn frame → ⊥) → AreMatrices rest covariances → AreMatrices (lines ++ rest) covariances

-- the covariances of a block, between their marks
pub record AreCovariances (lines : List Form) (covariances : List PlainMatrix) : Type 0 where
  pub inner : List Form
  pub marks : lines ≡ Mark CovarianceStart ∷ inner ++ Mark CovarianceStop ∷ []
  pub matrices : AreMatrices inner covariances

-- no line, and no covariance
pub record HasNoCovariances (lines : List Form) (covariances : List PlainMatrix) : Type 0 where
  pub no_line : lines ≡ []
  pub none : covariances ≡ []

-- ---- blocks

-- a block says a segment of the object, useable from this tick on: metadata between marks, rows of nodes, perhaps covariances
pub record IsBlock (as_hermite3 : Bool) (object : Object) (from : ℕ) (lines : List Form) (segment : PlainSegment) : Type 0 where
  pub entries : List Entry
  pub rows : List (List ℕ)
  pub rest : List Form
  pub shape : lines ≡ Mark MetaStart ∷ pair_lines entries ++ Mark MetaStop ∷ row_lines rows ++ rest
  pub metadata : IsMetadata as_hermite3 entries object segment.first segment.last
  pub nodes : SayNodes rows segment.nodes
  pub steps : AreNodeSteps segment.nodes
  pub enough : 2 ≤ length segment.nodes
  pub useable : IsUseable segment.first segment.last segment.nodes
  pub later : from ≤ segment.first
  pub covariances : AreCovariances rest segment.covariances ⊎ HasNoCovariances rest segment.covariances

-- blocks of one object, each useable from where the one before ends
pub data AreBlocks (as_hermite3 : Bool) (object : Object) : ℕ → List Form → List PlainSegment → Type 0 where
  last : (from : ℕ) (lines : List Form) (segment : PlainSegment) → IsBlock as_hermite3 object from lines segment → AreBlocks as_hermite3 object from lines (segment ∷ [])
  more : (from : ℕ) (lines rest : List Form) (segment : PlainSegment) (segments : List PlainSegment) → IsBlock as_hermite3 object from lines segment →
      AreBlocks as_hermite3 object segment.last rest segments → AreBlocks as_hermite3 object from (lines ++ rest) (segment ∷ segments)

-- ---- files

-- the lines of a file say the ephemeris
pub record IsFile (as_hermite3 : Bool) (lines : List Form) (e : PlainTrack) : Type 0 where
  pub version : List ℕ
  pub entries : List Entry
  pub blocks : List Form
  pub shape : lines ≡ Pair (codes "CCSDS_OEM_VERS") version ∷ pair_lines entries ++ blocks
  pub known : IsVersion version
  pub header : IsHeader entries
  pub segments : AreBlocks as_hermite3 (record { name = e.name; id = e.id; frame = e.frame }) 0 blocks e.segments

-- the bytes of the file with this name say the ephemeris
pub record Says (as_hermite3 : Bool) (file bytes : List ℕ) (e : PlainTrack) : Type 0 where
  pub name : is_file_name file ≡ true
  pub lines : List Numbered
  pub named : e.file ≡ file
  pub readable : kvn.reading bytes ≡ Ok lines
  pub whole : IsFile as_hermite3 (telling lines) e
