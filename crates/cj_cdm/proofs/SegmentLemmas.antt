-- The segment to which a piece belongs.
use Rattle.std.proofs.Common.{◌≡◌, ◌∙◌, ℕ, zero, suc, ◌+◌, ◌-◌, ◌<◌, ◌≤◌, true, false, List, [], ◌∷◌, ◌++◌, length, take, get_or, map, ap, append-nil, arith, refl, Some}
use Rattle.std.specs.Prelude.{nat_lt, flat_map}
use Rattle.std.proofs.lemmas.Bool.Decides.{nat_tests}
use Rattle.std.proofs.lemmas.List.{length-append, length-map}
use Rattle.cj_track.specs.PlainTracks.{PlainSegment, PlainTrack}
use Rattle.cj_track.specs.declared.matrix.Matrix.{Matrix}
use Rattle.cj_track.specs.declared.segment.Segment.{Segment}
use Rattle.cj_track.specs.declared.track.Track.{Track}
use Rattle.cj_track.specs.Tracks.{plain_matrix, plain_segment, plain_track}
use Rattle.cj_hermite.specs.Pieces.{pieces_of_segment, piece_at}
use Rattle.cj_hermite.specs.PiecesOfTracks.{IsInSegment}
use Rattle.cj_cdm.specs.Covariances.{covariance_at, covariance_for, segment_with}

-- the segment with number n, where the pieces before it are not more than the piece's number, and those up to its end are more
segment_with_is : (segments : List PlainSegment) (index n : ℕ) (d : PlainSegment) → n < length segments
    → length (flat_map pieces_of_segment (take n segments)) ≤ index → index < length (flat_map pieces_of_segment (take (suc n) segments))
    → segment_with index segments ≡ Some (get_or segments n d)
segment_with_is [] index n d short from to = absurd (omega arith)
segment_with_is (segment ∷ segments) index zero d short from to =
    let whole : length (pieces_of_segment segment ++ []) ≡ length (pieces_of_segment segment) = ap length (append-nil (pieces_of_segment segment)) in
    let here : nat_lt index (length (pieces_of_segment segment)) ≡ true = grind (arith, nat_tests) in
    rw here refl
segment_with_is (segment ∷ segments) index (suc n) d short from to =
    let count = length (pieces_of_segment segment) in
    let before = length-append (pieces_of_segment segment) (flat_map pieces_of_segment (take n segments)) in
    let behind = length-append (pieces_of_segment segment) (flat_map pieces_of_segment (take (suc n) segments)) in
    let later : nat_lt index count ≡ false = grind (arith, nat_tests) in
    rw later (segment_with_is segments (index - count) n d (omega arith) (omega arith) (omega arith))

pub segment_found : (e : PlainTrack) (index n : ℕ) (d : PlainSegment) → IsInSegment e index n → segment_with index e.segments ≡ Some (get_or e.segments n d)
segment_found e index n d h =
    segment_with_is e.segments index n d h.exists h.from (let e1 : n + 1 ≡ suc n = omega arith in omega (arith, h.to, ap (λ k. length (flat_map pieces_of_segment (take k e.segments))) e1))

-- the covariance of a segment for a tick is that of the track, where the piece at the tick lies in the segment
covariance_in : (e : PlainTrack) (m index n : ℕ) (d : PlainSegment) → Some index ≡ piece_at e m → IsInSegment e index n → covariance_for m (get_or e.segments n d).covariances ≡ covariance_at e m
unfolding covariance_at
covariance_in e m index n d at h = rw (← at) (rw (segment_found e index n d h) refl)

covariances_of : (segments : List Segment) (n : ℕ) (d : PlainSegment) (matrices : List Matrix) → n < length segments → matrices ≡ get_or (map (λ (s : Segment). s.matrices) segments) n matrices
    → map plain_matrix matrices ≡ (get_or (map plain_segment segments) n d).covariances
covariances_of [] n d matrices below is = absurd (omega arith)
covariances_of (s ∷ segments) zero d matrices below is = ap (map plain_matrix) is
covariances_of (s ∷ segments) (suc n) d matrices below is = covariances_of segments n d matrices (omega arith) is

pub covariance_of_segment : (track : Track) (m index n : ℕ) (listed : List (List Matrix)) (matrices : List Matrix) → Some index ≡ piece_at (plain_track track) m
    → IsInSegment (plain_track track) index n → listed ≡ map (λ (s : Segment). s.matrices) track.segments → matrices ≡ get_or listed n matrices
    → covariance_for m (map plain_matrix matrices) ≡ covariance_at (plain_track track) m
covariance_of_segment track m index n listed matrices at in_segment same is =
    let d : PlainSegment = record { first = 0; last = 0; nodes = []; covariances = [] } in
    let short : n < length track.segments = omega (arith, in_segment.exists, length-map track.segments plain_segment) in
    ap (covariance_for m) (covariances_of track.segments n d matrices short (is ∙ ap (λ (ms : List (List Matrix)). get_or ms n matrices) same))
    ∙ covariance_in (plain_track track) m index n d at in_segment

-- each segment has its covariances
pub segment_listed : (track : Track) (index n : ℕ) (listed : List (List Matrix)) → IsInSegment (plain_track track) index n → listed ≡ map (λ (s : Segment). s.matrices) track.segments → n < length listed
segment_listed track index n listed in_segment same =
    omega (arith, in_segment.exists, length-map track.segments plain_segment, length-map track.segments (λ (s : Segment). s.matrices), ap (λ (ms : List (List Matrix)). length ms) same)
