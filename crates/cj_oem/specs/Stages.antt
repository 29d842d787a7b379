-- The grammar of a file line by line: where a reader stands, and what each line leads to.
use Rattle.std.specs.Prelude.{ℕ, Bool, true, false, ◌&&◌, ◌||◌, not, nat_lt, nat_le, if◌then◌else◌, List, [], ◌∷◌, ◌++◌, length, map, Option, Some, None, unwrap_or, Result, Ok, Err, codes}
use Rattle.std.specs.List.{last_or}
use Rattle.cj_kvn.specs.Lines.{Form, Blank, Comment, Mark, Pair, Row}
use Rattle.cj_kvn.specs.declared.lines.MarkKind.TheVariants.{MetaStart, MetaStop, CovarianceStart, CovarianceStop}
use Rattle.cj_formats.specs.declared.oem_cause.OemCause.{OemCause}
use Rattle.cj_formats.specs.declared.oem_cause.OemCause.TheVariants as causes
use Rattle.cj_oem.specs.Words.{is_text}
use Rattle.cj_track.specs.PlainTracks.{PlainNode, PlainSegment, PlainMatrix}
pub use Rattle.cj_track.specs.PlainTracks.{first_state, last_of, last_state}
use Rattle.cj_kvn.specs.Faults.{◌>>=◌}
use Rattle.cj_oem.specs.Metadata.{unless, Object, MetadataDraft, EMPTY, Metadata, with_pair, metadata_of}
use Rattle.cj_oem.specs.NodeRows.{state_of_row}
use Rattle.cj_oem.specs.CovarianceRows.{Covariances, NO_COVARIANCES, closed, with_matrix_pair, with_matrix_row}

-- which keys the header has given
pub record Head : Type 0 where
  pub date : Bool
  pub originator : Bool
  pub classification : Bool
  pub message : Bool

abbrev pub NO_HEAD : Head
NO_HEAD = record { date = false; originator = false; classification = false; message = false }

-- the object, where a segment has named it, and the segments that are whole
pub record Body : Type 0 where
  pub object : Option Object
  pub segments : List PlainSegment

abbrev pub NO_BODY : Body
NO_BODY = record { object = None; segments = [] }

-- a segment so far: what its metadata says, and its nodes
pub record OpenSegment : Type 0 where
  pub metadata : Metadata
  pub nodes : List PlainNode

-- where a reader stands
pub data Stage : Type 0 where
  Start : Stage
  Header : Head → Stage
  Meta : Body → MetadataDraft → Stage
  Data : Body → OpenSegment → Stage
  Cov : Body → OpenSegment → Covariances → Stage
  After : Body → Stage

-- ---- the header

-- the versions that are read
abbrev pub is_version : List ℕ → Bool
is_version value = is_text (codes "1.0") value || is_text (codes "2.0") value || is_text (codes "3.0") value

-- the first line
abbrev pub begun : Form → Result Stage OemCause
begun (Pair key value) =
    if is_text (codes "CCSDS_OEM_VERS") key then (if is_version value then Ok (Header NO_HEAD) else Err causes.Version)
    else Err causes.Order
begun form = Err causes.Order

-- a flag that is set once
abbrev pub once : Bool → Head → Result Head OemCause
once given head = if given then Err causes.Twice else Ok head

-- the header with a further key
abbrev pub with_head_key : Head → List ℕ → Result Head OemCause
with_head_key h key =
    if is_text (codes "CREATION_DATE") key then once h.date (record h { date = true })
    else if is_text (codes "ORIGINATOR") key then once h.originator (record h { originator = true })
    else if is_text (codes "CLASSIFICATION") key then once h.classification (record h { classification = true })
    else if is_text (codes "MESSAGE_ID") key then once h.message (record h { message = true })
    else if is_text (codes "CCSDS_OEM_VERS") key then Err causes.Twice
    else Err causes.Unknown

abbrev pub in_header : Head → Form → Result Stage OemCause
in_header h (Pair key value) = with_head_key h key >>= λ head. Ok (Header head)
in_header h (Mark MetaStart) = if h.date && h.originator then Ok (Meta NO_BODY EMPTY) else Err causes.Missing
in_header h form = Err causes.Order

-- ---- metadata

abbrev pub in_meta : Bool → Body → MetadataDraft → Form → Result Stage OemCause
in_meta as_hermite3 b s (Pair key value) = with_pair b.object s key value >>= λ draft. Ok (Meta b draft)
in_meta as_hermite3 b s (Mark MetaStop) = metadata_of as_hermite3 s >>= λ metadata. Ok (Data b (record { metadata = metadata; nodes = [] }))
in_meta as_hermite3 b s form = Err causes.Order

-- ---- nodes

-- the useable span is not empty, and lies from the first node to the last
abbrev pub is_useable : ℕ → ℕ → Option PlainNode → Option PlainNode → Bool
is_useable first last None z = false
is_useable first last (Some a) None = false
is_useable first last (Some a) (Some z) = nat_le first last && nat_le a.at first && nat_le last z.at

-- the tick up to which the segments before are useable
abbrev pub end_of : List PlainSegment → ℕ
end_of segments = unwrap_or (last_or None (map last_of segments)) 0

-- the nodes of a segment are closed
unfoldable pub close_nodes : Body → OpenSegment → Result (Unit {0}) OemCause
close_nodes b s = do
  _ ← unless (nat_lt (length s.nodes) 2) causes.TooFewNodes
  _ ← unless (not (is_useable s.metadata.first s.metadata.last (first_state s.nodes) (last_state s.nodes))) causes.UseableSpan
  unless (nat_lt s.metadata.first (end_of b.segments)) causes.SegmentsOverlap

-- the segments with a further one
abbrev pub with_segment : Body → OpenSegment → List PlainMatrix → Body
with_segment b s covariances = record {
  object = Some s.metadata.object;
  segments = b.segments ++ record { first = s.metadata.first; last = s.metadata.last; nodes = s.nodes; covariances = covariances } ∷ [];
}

abbrev pub in_data : Body → OpenSegment → Form → Result Stage OemCause
in_data b s (Row text) = state_of_row (last_state s.nodes) text >>= λ state. Ok (Data b (record s { nodes = s.nodes ++ state ∷ [] }))
in_data b s (Mark MetaStart) = close_nodes b s >>= λ _. Ok (Meta (with_segment b s []) EMPTY)
in_data b s (Mark CovarianceStart) = close_nodes b s >>= λ _. Ok (Cov b s NO_COVARIANCES)
in_data b s form = Err causes.Order

-- ---- covariances

abbrev pub in_cov : Body → OpenSegment → Covariances → Form → Result Stage OemCause
in_cov b s m (Pair key value) = with_matrix_pair m key value >>= λ m. Ok (Cov b s m)
in_cov b s m (Row text) = with_matrix_row m text >>= λ m. Ok (Cov b s m)
in_cov b s m (Mark CovarianceStop) = closed m >>= λ covariances. Ok (After (with_segment b s covariances))
in_cov b s m form = Err causes.Order

abbrev pub in_after : Body → Form → Result Stage OemCause
in_after b (Mark MetaStart) = Ok (Meta b EMPTY)
in_after b form = Err causes.Order

-- ---- all lines

-- what a line that is neither blank nor a comment leads to
abbrev pub led : Bool → Stage → Form → Result Stage OemCause
led as_hermite3 Start form = begun form
led as_hermite3 (Header h) form = in_header h form
led as_hermite3 (Meta b s) form = in_meta as_hermite3 b s form
led as_hermite3 (Data b s) form = in_data b s form
led as_hermite3 (Cov b s m) form = in_cov b s m form
led as_hermite3 (After b) form = in_after b form

-- what a line leads to: blank lines and comments change nothing
unfoldable pub follows : Bool → Stage → Form → Result Stage OemCause
follows as_hermite3 stage Blank = Ok stage
follows as_hermite3 stage Comment = Ok stage
follows as_hermite3 stage (Mark mark) = led as_hermite3 stage (Mark mark)
follows as_hermite3 stage (Pair key value) = led as_hermite3 stage (Pair key value)
follows as_hermite3 stage (Row text) = led as_hermite3 stage (Row text)

-- what the end of the file leads to
unfoldable pub finished : Stage → Result Body OemCause
finished Start = Err causes.Missing
finished (Header h) = Err causes.Missing
finished (Meta b s) = Err causes.Missing
finished (Data b s) = close_nodes b s >>= λ _. Ok (with_segment b s [])
finished (Cov b s m) = Err causes.Missing
finished (After b) = Ok b
