-- The canonical text of an ephemeris.
use Rattle.std.specs.Prelude.{ℕ, ◌-◌, ◌/◌, ◌%◌, ◌^◌, if◌then◌else◌, List, [], ◌∷◌, ◌++◌, length, take, drop, ℤ, pos, unsigned_abs, int_lt, decimal, codes}
use Rattle.std.specs.List.{flat_map, repeat}
use Rattle.cj_base.specs.Numbers.{Number}
use Rattle.cj_kvn.specs.Decimals.{decimal_text_of}
use Rattle.cj_kvn.specs.Entries.{entry, line}
use Rattle.cj_epoch.specs.Written.{epoch_of}
use Rattle.cj_track.specs.declared.vec3.Vec3.{Vec3}
use Rattle.cj_track.specs.Frames.{frame_text}
use Rattle.cj_track.specs.PlainTracks.{PlainNode, PlainMatrix, PlainSegment, PlainTrack}

-- twelve digits
abbrev pub twelve : ℕ → List ℕ
twelve n = let ds = decimal n in repeat (12 - length ds) (48 ∷ []) ++ ds

-- a number of units of 10 ^ -12, with twelve decimals
unfoldable pub figure_text : ℤ → List ℕ
figure_text z =
    let size = unsigned_abs z in
    (if int_lt z (pos 0) then 45 ∷ [] else []) ++ decimal (size / 10 ^ 12) ++ 46 ∷ [] ++ twelve (size % 10 ^ 12)

abbrev pub vector_text : Vec3 → List ℕ
vector_text v = figure_text v.x ++ 32 ∷ [] ++ figure_text v.y ++ 32 ∷ [] ++ figure_text v.z

-- the row of a node, one space between its fields
unfoldable pub row_text : PlainNode → List ℕ
row_text s = line (epoch_of s.at ++ 32 ∷ [] ++ vector_text s.p ++ 32 ∷ [] ++ vector_text s.v)

-- numbers with one space between
abbrev pub numbers_text : List Number → List ℕ
numbers_text [] = []
numbers_text (n ∷ []) = decimal_text_of n
numbers_text (n ∷ m ∷ ns) = decimal_text_of n ++ 32 ∷ [] ++ numbers_text (m ∷ ns)

-- the first so many of a matrix's numbers are its next row
abbrev pub matrix_row : ℕ → ℕ → List Number → List ℕ
matrix_row start count values = line (numbers_text (take count (drop start values)))

-- a covariance: its epoch, its frame, its six rows
unfoldable pub covariance_text : PlainMatrix → List ℕ
covariance_text c =
    entry (codes "EPOCH") (epoch_of c.at) ++ entry (codes "COV_REF_FRAME") (codes "RTN")
    ++ matrix_row 0 1 c.values ++ matrix_row 1 2 c.values ++ matrix_row 3 3 c.values ++ matrix_row 6 4 c.values
    ++ matrix_row 10 5 c.values ++ matrix_row 15 6 c.values

-- the covariances of a segment between their marks, where there are any
abbrev pub covariances_text : List PlainMatrix → List ℕ
covariances_text [] = []
covariances_text (c ∷ cs) = line (codes "COVARIANCE_START") ++ flat_map covariance_text (c ∷ cs) ++ line (codes "COVARIANCE_STOP")

-- the metadata of a segment
unfoldable pub metadata_text : PlainTrack → PlainSegment → List ℕ
metadata_text e segment =
    line (codes "META_START") ++ entry (codes "OBJECT_NAME") e.name ++ entry (codes "OBJECT_ID") e.id
    ++ entry (codes "CENTER_NAME") (codes "EARTH") ++ entry (codes "REF_FRAME") (frame_text e.frame) ++ entry (codes "TIME_SYSTEM") (codes "UTC")
    ++ entry (codes "START_TIME") (epoch_of segment.first) ++ entry (codes "STOP_TIME") (epoch_of segment.last)
    ++ entry (codes "INTERPOLATION") (codes "HERMITE") ++ entry (codes "INTERPOLATION_DEGREE") (codes "3") ++ line (codes "META_STOP")

-- a segment: its metadata, its nodes, its covariances
unfoldable pub segment_text : PlainTrack → PlainSegment → List ℕ
segment_text e segment = metadata_text e segment ++ flat_map row_text segment.nodes ++ covariances_text segment.covariances

-- the header
unfoldable pub header_text : List ℕ
header_text =
    entry (codes "CCSDS_OEM_VERS") (codes "2.0") ++ entry (codes "CREATION_DATE") (codes "1972-01-01T00:00:00.000000") ++ entry (codes "ORIGINATOR") (codes "CONJ")

-- the whole text
unfoldable pub text_of : PlainTrack → List ℕ
text_of e = header_text ++ flat_map (segment_text e) e.segments
