-- Which covariance of an ephemeris is told at a tick.
use Rattle.std.specs.Prelude.{ℕ, ◌-◌, nat_le, nat_lt, if◌then◌else◌, List, [], ◌∷◌, length, filter, fold, Option, Some, None, option_and_then}
use Rattle.std.specs.Option.{option_or}
use Rattle.cj_track.specs.PlainTracks.{PlainMatrix, PlainSegment, PlainTrack}
use Rattle.cj_hermite.specs.Pieces.{pieces_of_segment, piece_at}

-- the later of two covariances, and the second where their epochs are equal
abbrev pub later : Option PlainMatrix → PlainMatrix → Option PlainMatrix
later None c = Some c
later (Some d) c = if nat_lt c.at d.at then Some d else Some c

-- the covariance with the greatest epoch, the last of equals
abbrev pub latest : List PlainMatrix → Option PlainMatrix
latest cs = fold later None cs

-- those whose epochs are not after the tick
abbrev pub not_after : ℕ → List PlainMatrix → List PlainMatrix
not_after m cs = filter (λ c. nat_le c.at m) cs

abbrev pub first_of : List PlainMatrix → Option PlainMatrix
first_of [] = None
first_of (c ∷ cs) = Some c

-- of these covariances the one for a tick: the latest that is not after it, and else the first
unfoldable pub covariance_for : ℕ → List PlainMatrix → Option PlainMatrix
covariance_for m cs = option_or (latest (not_after m cs)) (first_of cs)

-- the segment to which the piece with this number belongs, where pieces are numbered through all segments
abbrev pub segment_with : ℕ → List PlainSegment → Option PlainSegment
segment_with index [] = None
segment_with index (segment ∷ segments) =
    let count = length (pieces_of_segment segment) in
    if nat_lt index count then Some segment else segment_with (index - count) segments

-- the segment of the piece in which an object is at a tick, or none where it has no state
abbrev pub segment_at : PlainTrack → ℕ → Option PlainSegment
segment_at e m = option_and_then (λ index. segment_with index e.segments) (piece_at e m)

-- the covariance of an object at a tick: that of its segment there for the tick
unfoldable pub covariance_at : PlainTrack → ℕ → Option PlainMatrix
covariance_at e m = option_and_then (λ segment. covariance_for m segment.covariances) (segment_at e m)
