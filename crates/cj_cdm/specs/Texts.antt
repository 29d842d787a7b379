-- The text of a conjunction data message.
use Rattle.std.specs.Prelude.{ℕ, zero, suc, ◌+◌, ◌/◌, ◌%◌, ◌^◌, nat_lt, if◌then◌else◌, List, [], ◌∷◌, ◌++◌, flat_map, ℤ, pos, unsigned_abs, int_lt, decimal, codes}
use Rattle.std.specs.List.{zip}
use Rattle.cj_epoch.specs.Written.{epoch_of}
use Rattle.cj_base.specs.Numbers.{Number}
use Rattle.cj_kvn.specs.Decimals.{decimal_text_of}
use Rattle.cj_kvn.specs.Entries.{entry, line}
use Rattle.cj_track.specs.Frames.{frame_text}
use Rattle.cj_cdm.specs.Messages.{PlainSide, PlainMessage}
use Rattle.cj_rtn.specs.declared.vector.Vector.{Vector}

-- a key with its value in this unit
abbrev pub quantity : List ℕ → List ℕ → List ℕ → List ℕ
quantity key value unit = entry key (value ++ codes " [" ++ unit ++ codes "]")

-- the last so many digits of a number
unfoldable pub last_digits : ℕ → ℕ → List ℕ
last_digits zero n = []
last_digits (suc k) n = last_digits k (n / 10) ++ (48 + n % 10) ∷ []

-- a whole number of units of 10 ^ -places, as a decimal fraction with so many decimals
unfoldable pub fixed_text : ℕ → ℤ → List ℕ
fixed_text places z =
    let size = unsigned_abs z in
    (if int_lt z (pos 0) then 45 ∷ [] else []) ++ decimal (size / 10 ^ places) ++ 46 ∷ [] ++ last_digits places size

-- nm in metres, or nm/s in metres per second
abbrev pub metres : ℤ → List ℕ
metres nm = fixed_text 9 nm

-- nm in kilometres
abbrev pub kilometres : ℤ → List ℕ
kilometres nm = fixed_text 12 nm

-- the number of a message, with six digits or more
abbrev pub number_text : ℕ → List ℕ
number_text n = if nat_lt n 1_000_000 then last_digits 6 n else decimal n

-- the lines of a message up to its miss distance
unfoldable pub front_text : PlainMessage → List ℕ
front_text m =
    entry (codes "CCSDS_CDM_VERS") (codes "1.0")
    ++ entry (codes "CREATION_DATE") (epoch_of m.stamp.created)
    ++ entry (codes "ORIGINATOR") m.stamp.originator
    ++ entry (codes "MESSAGE_ID") (m.stamp.originator ++ codes "_" ++ number_text m.stamp.number)
    ++ entry (codes "TCA") (epoch_of m.tca)
    ++ quantity (codes "MISS_DISTANCE") (metres (pos m.miss)) (codes "m")

-- the lines of the screened window
unfoldable pub period_text : PlainMessage → List ℕ
period_text m = entry (codes "START_SCREEN_PERIOD") (epoch_of m.start) ++ entry (codes "STOP_SCREEN_PERIOD") (epoch_of m.stop)

-- the lines of a message that stand before its objects
unfoldable pub heading_text : PlainMessage → List ℕ
heading_text m = front_text m ++ period_text m

-- what an object is, and where its ephemeris comes from
unfoldable pub object_text : List ℕ → PlainSide → List ℕ
object_text object s =
    entry (codes "OBJECT") object
    ++ entry (codes "OBJECT_DESIGNATOR") s.id
    ++ entry (codes "CATALOG_NAME") (codes "OEM")
    ++ entry (codes "OBJECT_NAME") s.name
    ++ entry (codes "INTERNATIONAL_DESIGNATOR") s.designator
    ++ entry (codes "EPHEMERIS_NAME") s.file
    ++ entry (codes "COVARIANCE_METHOD") (codes "CALCULATED")
    ++ entry (codes "MANEUVERABLE") (codes "N/A")
    ++ entry (codes "REF_FRAME") (frame_text s.frame)

-- the state of an object
unfoldable pub state_text : Vector → Vector → List ℕ
state_text place rate =
    quantity (codes "X") (kilometres place.x) (codes "km")
    ++ quantity (codes "Y") (kilometres place.y) (codes "km")
    ++ quantity (codes "Z") (kilometres place.z) (codes "km")
    ++ quantity (codes "X_DOT") (kilometres rate.x) (codes "km/s")
    ++ quantity (codes "Y_DOT") (kilometres rate.y) (codes "km/s")
    ++ quantity (codes "Z_DOT") (kilometres rate.z) (codes "km/s")

-- the units of products of places and rates
abbrev pub square : List ℕ
square = codes "m**2"

abbrev pub square_per_second : List ℕ
square_per_second = codes "m**2/s"

abbrev pub square_per_square_second : List ℕ
square_per_square_second = codes "m**2/s**2"

-- the elements of the lower triangle, row by row: the key of each, and its unit
abbrev pub elements : List (List ℕ × List ℕ)
elements =
    (codes "CR_R", square)
    ∷ (codes "CT_R", square) ∷ (codes "CT_T", square)
    ∷ (codes "CN_R", square) ∷ (codes "CN_T", square) ∷ (codes "CN_N", square)
    ∷ (codes "CRDOT_R", square_per_second) ∷ (codes "CRDOT_T", square_per_second) ∷ (codes "CRDOT_N", square_per_second)
    ∷ (codes "CRDOT_RDOT", square_per_square_second)
    ∷ (codes "CTDOT_R", square_per_second) ∷ (codes "CTDOT_T", square_per_second) ∷ (codes "CTDOT_N", square_per_second)
    ∷ (codes "CTDOT_RDOT", square_per_square_second) ∷ (codes "CTDOT_TDOT", square_per_square_second)
    ∷ (codes "CNDOT_R", square_per_second) ∷ (codes "CNDOT_T", square_per_second) ∷ (codes "CNDOT_N", square_per_second)
    ∷ (codes "CNDOT_RDOT", square_per_square_second) ∷ (codes "CNDOT_TDOT", square_per_square_second) ∷ (codes "CNDOT_NDOT", square_per_square_second)
    ∷ []

-- an element with its value
abbrev pub element_text : List ℕ × List ℕ → Number → List ℕ
element_text element value = quantity element.0 (decimal_text_of value) element.1

-- these elements with their values
abbrev pub elements_text : List (List ℕ × List ℕ) → List Number → List ℕ
elements_text some values = flat_map (λ e. element_text e.0 e.1) (zip some values)

-- a covariance behind the comment with its epoch
unfoldable pub covariance_text : ℕ → List Number → List ℕ
covariance_text epoch values = line (codes "COMMENT COVARIANCE EPOCH " ++ epoch_of epoch) ++ elements_text elements values

-- one object, which is called by this word
unfoldable pub side_text : List ℕ → PlainSide → List ℕ
side_text object s = object_text object s ++ state_text s.place s.rate ++ covariance_text s.epoch s.values

-- the whole message: 82 lines
unfoldable pub text_of : PlainMessage → List ℕ
text_of m = heading_text m ++ side_text (codes "OBJECT1") m.object1 ++ side_text (codes "OBJECT2") m.object2
