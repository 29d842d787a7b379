-- Which piece of a track a tick falls into.
use Rattle.std.proofs.Common.{◌≡◌, ℕ, zero, suc, ◌+◌, ◌-◌, ◌^◌, ◌<◌, ◌≤◌, ◌⊎◌, inl, inr, eq-or-lt_of_le, List, [], ◌∷◌, ◌++◌, length, get_or, map, take, Option, Some, None, refl, sym, ap, ◌∙◌, subst, arith}
use Rattle.std.specs.Prelude.{option_map, IsSomeAnd, slice_get}
use Rattle.std.specs.List.{flat_map}
use Rattle.std.proofs.lemmas.List.Sums.{sum_by-cons}
use Rattle.std.proofs.lemmas.Option.{slice_get_within}
use Rattle.std.proofs.lemmas.Bool.{cases_lt}
use Rattle.std.proofs.lemmas.List.{append-nil, get_or_default, length-append, length-map}
use Rattle.cj_track.specs.declared.node.Node.{Node}
use Rattle.cj_track.specs.declared.segment.Segment.{Segment}
use Rattle.cj_track.specs.PlainTracks.{PlainNode, PlainSegment, PlainTrack}
use Rattle.cj_track.specs.Nodes.{IsStep, AreSteps, AreNodes}
use Rattle.cj_track.specs.Segments.{AreSegments, AreInOrder, node_count, piece_count, starts_from}
use Rattle.cj_track.specs.Tracks.{plain_node, plain_segment}
use Rattle.cj_hermite.specs.declared.found_pieces.FoundPiece.{FoundPiece}
use Rattle.cj_hermite.specs.declared.pieces.Piece.{Piece}
use Rattle.cj_hermite.specs.Interpolant.{curve_of}
use Rattle.cj_hermite.specs.Pieces.{PlainPiece, pieces_between, pieces_of_segment, pieces_of, last_covering, piece_holding, piece_at, curve_of_piece}
use Rattle.cj_hermite.specs.PiecesOfTracks.{Covers, Spans, IsInSegment, first_state, last_state, piece_with}
use Rattle.cj_hermite.specs.Searches.{IsLastBegun, AllLater, IsFromNode, IsLastStarted, IsPlace}
use Rattle.cj_hermite.proofs.SearchLemmas.{in_order, segments_rise, starts_at_least}
use Rattle.cj_hermite.proofs.CoverLemmas.{Misses, misses-append, last_before, last_behind, last_first, covers_if, before_from, before_first, behind_last, last_none, found_is, covers_is}

abbrev pub piece_between : ℕ → ℕ → Node → Node → PlainPiece
piece_between first last a b = record { from = plain_node a; to = plain_node b; first = first; last = last }

-- the pieces of a segment
abbrev pub pieces_in : ℕ → ℕ → List Node → List PlainPiece
pieces_in first last nodes = pieces_between first last (map plain_node nodes)

-- those from a later node on
later_nodes : (m first last : ℕ) (a : Node) (nodes : List Node) → AreSteps (a ∷ nodes) → m < a.at.micros → Misses m (pieces_in first last (a ∷ nodes))
later_nodes m first last a [] steps h = tt
later_nodes m first last a (b ∷ nodes) steps h =
    (before_from m (piece_between first last a b) h, later_nodes m first last b nodes steps.1 (omega (arith, steps.0.rises)))

-- those of a later segment, and of an earlier one
pub later_span : (m first last : ℕ) (nodes : List PlainNode) → m < first → Misses m (pieces_between first last nodes)
later_span m first last [] h = tt
later_span m first last (a ∷ []) h = tt
later_span m first last (a ∷ b ∷ nodes) h = (before_first m (record { from = a; to = b; first = first; last = last }) h, later_span m first last (b ∷ nodes) h)

pub earlier_span : (m first last : ℕ) (nodes : List PlainNode) → last < m → Misses m (pieces_between first last nodes)
earlier_span m first last [] h = tt
earlier_span m first last (a ∷ []) h = tt
earlier_span m first last (a ∷ b ∷ nodes) h = (behind_last m (record { from = a; to = b; first = first; last = last }) h, earlier_span m first last (b ∷ nodes) h)

pub length-pieces : (first last : ℕ) (nodes : List Node) → length (pieces_in first last nodes) ≡ length nodes - 1
length-pieces first last [] = refl
length-pieces first last (a ∷ []) = refl
length-pieces first last (a ∷ b ∷ nodes) = ap suc (length-pieces first last (b ∷ nodes)) ∙ omega arith

pub at_node : (m n first last i : ℕ) (nodes : List Node) (d : Node) → AreSteps nodes → first ≤ m → m ≤ last → IsFromNode m nodes i d
    → last_covering m n (pieces_in first last nodes) ≡ Some (n + i, piece_between first last (get_or nodes i d) (get_or nodes (suc i) d))
at_node m n first last i [] d steps after before h = absurd (omega (arith, h.exists))
at_node m n first last i (a ∷ []) d steps after before h = absurd (omega (arith, h.exists))
at_node m n first last zero (a ∷ b ∷ []) d steps after before h =
    last_first m n (piece_between first last a b) [] (covers_if m (piece_between first last a b) h.from h.to after before) tt
    ∙ ap (λ (k : ℕ). Some (k, piece_between first last a b)) (omega arith)
at_node m n first last zero (a ∷ b ∷ c ∷ nodes) d steps after before h =
    last_first m n (piece_between first last a b) (pieces_in first last (b ∷ c ∷ nodes)) (covers_if m (piece_between first last a b) h.from h.to after before)
    (later_nodes m first last b (c ∷ nodes) steps.1 (h.next (omega arith)))
    ∙ ap (λ (k : ℕ). Some (k, piece_between first last a b)) (omega arith)
at_node m n first last (suc i) (a ∷ b ∷ nodes) d steps after before h =
    let tail = at_node m (n + 1) first last i (b ∷ nodes) d steps.1 after before
    (record { exists = omega (arith, h.exists); from = h.from; to = h.to; next = λ e. h.next (omega arith) }) in
    last_behind m n (n + 1) (n + 1 + i, piece_between first last (get_or (b ∷ nodes) i d) (get_or (b ∷ nodes) (suc i) d)) (piece_between first last a b ∷ [])
    (pieces_in first last (b ∷ nodes)) refl tail
    ∙ ap (λ (k : ℕ). Some (k, piece_between first last (get_or (b ∷ nodes) i d) (get_or (b ∷ nodes) (suc i) d))) (omega arith)

-- the pieces of segments
abbrev pub pieces_through : List Segment → List PlainPiece
pieces_through segments = flat_map pieces_of_segment (map plain_segment segments)

-- those from a later segment on
later_segments : (m : ℕ) (a : Segment) (segments : List Segment) → AreInOrder (a ∷ segments) → m < a.first.micros → Misses m (pieces_through (a ∷ segments))
later_segments m a [] order h = misses-append m (pieces_of_segment (plain_segment a)) [] (later_span m a.first.micros a.last.micros (map plain_node a.nodes) h) tt
later_segments m a (b ∷ segments) order h =
    misses-append m (pieces_of_segment (plain_segment a)) (pieces_through (b ∷ segments)) (later_span m a.first.micros a.last.micros (map plain_node a.nodes) h)
    (later_segments m b segments order.1 (omega (arith, order.0, a.some)))

-- each segment begins later or ends earlier
no_segment : (m : ℕ) (segments : List Segment) (d : Segment) → ((j : ℕ) → j < length segments → (m < (get_or segments j d).first.micros) ⊎ ((get_or segments j d).last.micros < m))
    → Misses m (pieces_through segments)
no_segment m [] d h = tt
no_segment m (a ∷ segments) d h =
    misses-append m (pieces_of_segment (plain_segment a)) (pieces_through segments)
    (elim (h 0 (omega arith)) [
      | inl later ↦ later_span m a.first.micros a.last.micros (map plain_node a.nodes) later
      | inr earlier ↦ earlier_span m a.first.micros a.last.micros (map plain_node a.nodes) earlier
    ])
    (no_segment m segments d (λ j below. h (suc j) (omega arith)))

pub all_later : (m : ℕ) (segments : List Segment) → AllLater m segments → Misses m (pieces_through segments)
all_later m [] later = tt
all_later m (a ∷ segments) later = no_segment m (a ∷ segments) a (λ j below. inl (later j a below))

-- the last segment that has begun has ended too
pub all_apart : (m k : ℕ) (segments : List Segment) (s : Segment) → AreInOrder segments → IsLastBegun m segments k → s ≡ get_or segments k s → s.last.micros < m
    → Misses m (pieces_through segments)
all_apart m k segments s order last e ended =
    let here : (get_or segments k s).last.micros < m = subst (λ (t : Segment). t.last.micros < m) e ended in
    no_segment m segments s (λ j below. elim (cases_lt j k) [
      | inl before ↦ inr (omega (arith, here, in_order segments j k s order before last.exists, (get_or segments k s).some))
      | inr from ↦ elim (eq-or-lt_of_le from) [
        | inl same ↦ inr (omega (arith, here, ap (λ (i : ℕ). (get_or segments i s).last.micros) same))
        | inr behind ↦ inl (omega (arith, last.next s (omega arith), segments_rise segments order (suc k) j s (omega arith) below))
      ]
    ])

-- what the pieces of a segment give is what all give, if the next segment begins later
pub at_segment : (m n k : ℕ) (segments : List Segment) (d : Segment) (z : ℕ × PlainPiece) → AreInOrder segments → k < length segments
    → (suc k < length segments → m < (get_or segments (suc k) d).first.micros)
    → last_covering m (get_or (starts_from n segments) k 0) (pieces_of_segment (plain_segment (get_or segments k d))) ≡ Some z
    → last_covering m n (pieces_through segments) ≡ Some z
at_segment m n k [] d z order below next found = absurd (omega arith)
at_segment m n zero (a ∷ []) d z order below next found = last_before m n (pieces_of_segment (plain_segment a)) [] tt ∙ found
at_segment m n zero (a ∷ b ∷ segments) d z order below next found =
    last_before m n (pieces_of_segment (plain_segment a)) (pieces_through (b ∷ segments)) (later_segments m b segments order.1 (next (omega arith))) ∙ found
at_segment m n (suc k) (a ∷ []) d z order below next found = absurd (omega arith)
at_segment m n (suc k) (a ∷ b ∷ segments) d z order below next found =
    last_behind m n (n + piece_count a) z (pieces_of_segment (plain_segment a)) (pieces_through (b ∷ segments)) (omega (arith, length-pieces a.first.micros a.last.micros a.nodes))
    (at_segment m (n + piece_count a) k (b ∷ segments) d z order.1 (omega arith) (λ e. next (omega arith)) found)

-- the number of a segment's first piece, and how many there are at most
pub starts_fit : (n k : ℕ) (segments : List Segment) (d : Segment) → k < length segments → get_or (starts_from n segments) k 0 + piece_count (get_or segments k d) ≤ n + node_count segments
starts_fit n k [] d below = absurd (omega arith)
starts_fit n zero (a ∷ segments) d below =
    let all : node_count (a ∷ segments) ≡ length a.nodes + node_count segments = sum_by-cons (λ (segment : Segment). length segment.nodes) a segments in
    let here : n + piece_count a ≤ n + node_count (a ∷ segments) = omega arith in
    here
starts_fit n (suc k) (a ∷ segments) d below =
    let all : node_count (a ∷ segments) ≡ length a.nodes + node_count segments = sum_by-cons (λ (segment : Segment). length segment.nodes) a segments in
    let rest = starts_fit (n + piece_count a) k segments d (omega arith) in
    let here : get_or (starts_from (n + piece_count a) segments) k 0 + piece_count (get_or segments k d) ≤ n + node_count (a ∷ segments) = omega arith in
    here

pub length-starts : (n : ℕ) (segments : List Segment) → length (starts_from n segments) ≡ length segments
length-starts n [] = refl
length-starts n (a ∷ segments) = ap suc (length-starts (n + piece_count a) segments)

-- each piece has a number of 32 bits
pub number_fits : (k i : ℕ) (segments : List Segment) (s : Segment) → AreSegments segments → k < length segments → s ≡ get_or segments k s → i + 1 < length s.nodes
    → get_or (starts_from 0 segments) k 0 + i < 2 ^ 32
number_fits k i segments s are exists e below =
    let fits = starts_fit 0 k segments s exists in
    let same : piece_count s ≡ piece_count (get_or segments k s) = ap (λ (t : Segment). piece_count t) e in
    omega (arith, are.few)

-- what is found for a tick, at its number
pub record IsLastFound (m number : ℕ) (pieces : List PlainPiece) : Type 0 where
  pub piece : PlainPiece
  pub is : last_covering m 0 pieces ≡ Some (number, piece)

in_nodes : (m n first last i : ℕ) (nodes : List Node) → AreNodes nodes → first ≤ m → m ≤ last → ((d : Node) → IsFromNode m nodes i d)
    → (x : PlainPiece) × (last_covering m n (pieces_in first last nodes) ≡ Some (n + i, x))
in_nodes m n first last i [] are after before from = absurd (omega (arith, are.enough))
in_nodes m n first last i (a ∷ nodes) are after before from =
    (piece_between first last (get_or (a ∷ nodes) i a) (get_or (a ∷ nodes) (suc i) a), at_node m n first last i (a ∷ nodes) a are.steps after before (from a))

-- the piece from a node of the last segment that has begun
pub found_in : (m k i : ℕ) (segments : List Segment) (s : Segment) → AreInOrder segments → IsLastBegun m segments k → s ≡ get_or segments k s → m ≤ s.last.micros
    → AreNodes s.nodes → ((d : Node) → IsFromNode m s.nodes i d) → IsLastFound m (get_or (starts_from 0 segments) k 0 + i) (pieces_through segments)
found_in m k i segments s order last e before are from =
    let after : s.first.micros ≤ m = subst (λ (t : Segment). t.first.micros ≤ m) (sym e) (last.begun s) in
    let start = get_or (starts_from 0 segments) k 0 in
    let here = in_nodes m start s.first.micros s.last.micros i s.nodes are after before from in
    record {
      piece = here.0;
      is = at_segment m 0 k segments s (start + i, here.0) order last.exists (last.next s)
          (subst (λ (t : Segment). last_covering m start (pieces_of_segment (plain_segment t)) ≡ Some (start + i, here.0)) e here.1);
    }

pub none_at : (e : PlainTrack) (m : ℕ) → Misses m (pieces_of e) → piece_at e m ≡ None
unfolding piece_at
none_at e m misses = ap (λ (z : Option (ℕ × PlainPiece)). option_map (λ x. x.0) z) (last_none m 0 (pieces_of e) misses)

-- what is told of the piece at a tick
pub record IsAt (e : PlainTrack) (m number : ℕ) : Type 0 where
  pub index : Some number ≡ piece_at e m
  pub exists : number < length (pieces_of e)
  pub piece : slice_get (pieces_of e) number ≡ piece_holding e m
  pub covered : IsSomeAnd (piece_holding e m) (Covers m)

pub is_at : (e : PlainTrack) (m number : ℕ) → IsLastFound m number (pieces_of e) → IsAt e m number
unfolding piece_at piece_holding
is_at e m number found =
    let place = found_is m 0 (pieces_of e) (number, found.piece) found.is in
    let here : slice_get (pieces_of e) number ≡ Some found.piece = subst (λ (i : ℕ). slice_get (pieces_of e) i ≡ Some found.piece) (omega (arith, place.number)) place.is in
    let last : last_covering m 0 (pieces_of e) ≡ Some (number, found.piece) = found.is in
    record {
      index = sym (ap (λ (z : Option (ℕ × PlainPiece)). option_map (λ x. x.0) z) last);
      exists = slice_get_within (pieces_of e) number found.piece here;
      piece = here ∙ sym (ap (λ (z : Option (ℕ × PlainPiece)). option_map (λ x. x.1) z) last);
      covered = subst (λ (z : Option (ℕ × PlainPiece)). IsSomeAnd (option_map (λ x. x.1) z) (Covers m)) (sym last) (covers_is m found.piece place.here);
    }

pub slice_get-append_left : (xs ys : List PlainPiece) (i : ℕ) → i < length xs → slice_get (xs ++ ys) i ≡ slice_get xs i
slice_get-append_left [] ys i below = absurd (omega arith)
slice_get-append_left (x ∷ xs) ys zero below = refl
slice_get-append_left (x ∷ xs) ys (suc i) below = slice_get-append_left xs ys i (omega arith)

pub slice_get-append_right : (xs ys : List PlainPiece) (i j : ℕ) → j ≡ length xs + i → slice_get (xs ++ ys) j ≡ slice_get ys i
slice_get-append_right [] ys i j e = ap (λ (k : ℕ). slice_get ys k) (omega arith)
slice_get-append_right (x ∷ xs) ys i zero e = absurd (omega arith)
slice_get-append_right (x ∷ xs) ys i (suc j) e = slice_get-append_right xs ys i j (omega arith)

pub count-pieces : (s : Segment) → length (pieces_of_segment (plain_segment s)) ≡ piece_count s
count-pieces s = length-pieces s.first.micros s.last.micros s.nodes

pub count-through : (a : Segment) (segments : List Segment) → length (pieces_through (a ∷ segments)) ≡ piece_count a + length (pieces_through segments)
count-through a segments =
    length-append (pieces_of_segment (plain_segment a)) (pieces_through segments) ∙ ap (λ (i : ℕ). i + length (pieces_through segments)) (count-pieces a)

-- the number of a piece less that of its segment's first
pub in_started : (n k index : ℕ) (segments : List Segment) (d : Segment) → k < length segments → get_or (starts_from n segments) k 0 ≤ index
    → (suc k < length segments → index < get_or (starts_from n segments) (suc k) 0) → index < n + length (pieces_through segments)
    → index < get_or (starts_from n segments) k 0 + piece_count (get_or segments k d)
in_started n k index [] d exists started next below = absurd (omega arith)
in_started n zero index (a ∷ []) d exists started next below =
    let all : length (pieces_through (a ∷ [])) ≡ piece_count a = ap (λ (xs : List PlainPiece). length xs) (append-nil (pieces_of_segment (plain_segment a))) ∙ count-pieces a in
    let here : index < n + piece_count a = omega arith in
    here
in_started n zero index (a ∷ b ∷ segments) d exists started next below =
    let after : index < n + piece_count a = next (omega arith) in after
in_started n (suc k) index (a ∷ segments) d exists started next below =
    let all = count-through a segments in
    in_started (n + piece_count a) k index segments d (omega arith) started (λ more. next (omega arith)) (omega arith)

-- a piece of a segment among all
pub in_all : (n k i j : ℕ) (segments : List Segment) (d : Segment) → k < length segments → n + j ≡ get_or (starts_from n segments) k 0 + i → i < piece_count (get_or segments k d)
    → slice_get (pieces_through segments) j ≡ slice_get (pieces_of_segment (plain_segment (get_or segments k d))) i
in_all n k i j [] d exists e below = absurd (omega arith)
in_all n zero i j (a ∷ segments) d exists e below =
    let start : n + j ≡ n + i = e in
    let same : j ≡ i = omega arith in
    let short : i < piece_count a = below in
    ap (λ (l : ℕ). slice_get (pieces_through (a ∷ segments)) l) same
    ∙ slice_get-append_left (pieces_of_segment (plain_segment a)) (pieces_through segments) i (omega (arith, count-pieces a))
in_all n (suc k) i j (a ∷ segments) d exists e below =
    let start : n + j ≡ get_or (starts_from (n + piece_count a) segments) k 0 + i = e in
    let least = starts_at_least (n + piece_count a) k segments (omega (arith, length-starts (n + piece_count a) segments)) in
    slice_get-append_right (pieces_of_segment (plain_segment a)) (pieces_through segments) (j - piece_count a) j (omega (arith, count-pieces a))
    ∙ in_all (n + piece_count a) k i (j - piece_count a) segments d (omega arith) (omega arith) below

pub from_node : (first last i : ℕ) (nodes : List Node) (d : Node) → suc i < length nodes
    → slice_get (pieces_in first last nodes) i ≡ Some (piece_between first last (get_or nodes i d) (get_or nodes (suc i) d))
from_node first last i [] d below = absurd (omega arith)
from_node first last i (a ∷ []) d below = absurd (omega arith)
from_node first last zero (a ∷ b ∷ nodes) d below = refl
from_node first last (suc i) (a ∷ b ∷ nodes) d below = from_node first last i (b ∷ nodes) d (omega arith)

pub step_at : (i : ℕ) (nodes : List Node) (d : Node) → AreSteps nodes → suc i < length nodes → IsStep (get_or nodes i d) (get_or nodes (suc i) d)
step_at i [] d steps below = absurd (omega arith)
step_at i (a ∷ []) d steps below = absurd (omega arith)
step_at zero (a ∷ b ∷ nodes) d steps below = steps.0
step_at (suc i) (a ∷ b ∷ nodes) d steps below = step_at i (b ∷ nodes) d steps.1 (omega arith)

-- there are no more segments than nodes
segment_count : (segments : List Segment) → length segments ≤ node_count segments
segment_count [] = omega arith
segment_count (a ∷ segments) =
    let all : node_count (a ∷ segments) ≡ length a.nodes + node_count segments = sum_by-cons (λ (segment : Segment). length segment.nodes) a segments in
    let here : suc (length segments) ≤ node_count (a ∷ segments) = omega (arith, segment_count segments, a.enough) in
    here

pub segment_fits : (k : ℕ) (segments : List Segment) → AreSegments segments → k < length segments → k < 2 ^ 32
segment_fits k segments are below = omega (arith, are.few, segment_count segments)

pub first_start : (segments : List Segment) → get_or (starts_from 0 segments) 0 0 ≡ 0
first_start [] = refl
first_start (a ∷ segments) = refl

-- how many pieces come before a segment, and with it
before_segment : (n k : ℕ) (segments : List Segment) → k < length segments → get_or (starts_from n segments) k 0 ≡ n + length (flat_map pieces_of_segment (take k (map plain_segment segments)))
before_segment n k [] below = absurd (omega arith)
before_segment n zero (a ∷ segments) below = let here : n ≡ n + 0 = omega arith in here
before_segment n (suc k) (a ∷ segments) below =
    let all : length (pieces_of_segment (plain_segment a) ++ flat_map pieces_of_segment (take k (map plain_segment segments))) ≡ piece_count a + length (flat_map pieces_of_segment (take k (map plain_segment segments))) =
    length-append (pieces_of_segment (plain_segment a)) (flat_map pieces_of_segment (take k (map plain_segment segments))) ∙ ap (λ (i : ℕ). i + length (flat_map pieces_of_segment (take k (map plain_segment segments)))) (count-pieces a) in
    before_segment (n + piece_count a) k segments (omega arith) ∙ omega arith

with_segment : (n k : ℕ) (segments : List Segment) (d : Segment) → k < length segments
    → get_or (starts_from n segments) k 0 + piece_count (get_or segments k d) ≡ n + length (flat_map pieces_of_segment (take (suc k) (map plain_segment segments)))
with_segment n k [] d below = absurd (omega arith)
with_segment n zero (a ∷ segments) d below =
    let all : length (pieces_of_segment (plain_segment a) ++ []) ≡ piece_count a = ap (λ (xs : List PlainPiece). length xs) (append-nil (pieces_of_segment (plain_segment a))) ∙ count-pieces a in
    let here : n + piece_count a ≡ n + length (pieces_of_segment (plain_segment a) ++ []) = omega arith in
    here
with_segment n (suc k) (a ∷ segments) d below =
    let all : length (pieces_of_segment (plain_segment a) ++ flat_map pieces_of_segment (take (suc k) (map plain_segment segments))) ≡ piece_count a + length (flat_map pieces_of_segment (take (suc k) (map plain_segment segments))) =
    length-append (pieces_of_segment (plain_segment a)) (flat_map pieces_of_segment (take (suc k) (map plain_segment segments)))
    ∙ ap (λ (i : ℕ). i + length (flat_map pieces_of_segment (take (suc k) (map plain_segment segments)))) (count-pieces a) in
    with_segment (n + piece_count a) k segments d (omega arith) ∙ omega arith

-- the segment with the last start that is at most the index
pub in_segment : (e : PlainTrack) (index k : ℕ) (segments : List Segment) → e.segments ≡ map plain_segment segments → index < length (pieces_of e) → k < length segments
    → IsLastStarted index (starts_from 0 segments) k → IsInSegment e index k
in_segment e index k [] same below exists last = absurd (omega arith)
in_segment e index k (a ∷ segments) same below exists last =
    let all = subst (λ (segments : List PlainSegment). index < length (flat_map pieces_of_segment segments)) same below in
    let one_more : suc k ≡ k + 1 = omega arith in
    let until = in_started 0 k index (a ∷ segments) a exists last.started (λ more. last.next (omega (arith, length-starts 0 (a ∷ segments)))) (omega (arith, all)) in
    record {
      exists = omega (arith, ap (λ (segments : List PlainSegment). length segments) same, length-map segments plain_segment);
      from = subst (λ (segments : List PlainSegment). length (flat_map pieces_of_segment (take k segments)) ≤ index) (sym same) (omega (arith, last.started, before_segment 0 k (a ∷ segments) exists));
      to = subst (λ (segments : List PlainSegment). index < length (flat_map pieces_of_segment (take (k + 1) segments))) (sym same)
          (subst (λ (i : ℕ). index < length (flat_map pieces_of_segment (take i (map plain_segment (a ∷ segments))))) one_more (omega (arith, until, with_segment 0 k (a ∷ segments) a exists)));
    }

-- the place of the piece with this number
pub place_from : (index k node : ℕ) (segments : List Segment) → k < length segments → index < length (pieces_through segments) → IsLastStarted index (starts_from 0 segments) k
    → node ≡ index - get_or (starts_from 0 segments) k 0 → IsPlace segments (record { index = index; segment = k; node = node })
place_from index k node segments exists below last e = record {
  exists = exists;
  number = omega (arith, last.started);
  within = λ d.
      let until = in_started 0 k index segments d exists last.started (λ more. last.next (omega (arith, length-starts 0 segments))) (omega (arith, below)) in
      omega (arith, last.started);
}

pub at_place : (segments : List Segment) (found : FoundPiece) (s : Segment) → IsPlace segments found → s ≡ get_or segments found.segment s
    → slice_get (pieces_through segments) found.index ≡ slice_get (pieces_of_segment (plain_segment s)) found.node
at_place segments found s place is =
    in_all 0 found.segment found.node found.index segments s place.exists (omega (arith, place.number)) (omega (arith, place.within s))
    ∙ ap (λ (t : Segment). slice_get (pieces_of_segment (plain_segment t)) found.node) (sym is)

-- the two nodes of a piece, as they are read
record AreRead (nodes : List Node) (i : ℕ) (a b : Node) : Type 0 where
  pub first : get_or nodes i a ≡ a
  pub second : get_or nodes (suc i) a ≡ b

read : (i : ℕ) (nodes : List Node) (a b : Node) → i + 1 < length nodes → a ≡ get_or nodes i a → b ≡ get_or nodes (i + 1) b → AreRead nodes i a b
read i nodes a b below first second = record {
  first = sym first;
  second = get_or_default nodes (suc i) a b (omega arith) ∙ ap (λ (k : ℕ). get_or nodes k b) (omega arith) ∙ sym second;
}

pub step_between : (i : ℕ) (nodes : List Node) (a b : Node) → AreSteps nodes → i + 1 < length nodes → a ≡ get_or nodes i a → b ≡ get_or nodes (i + 1) b → IsStep a b
step_between i nodes a b steps below first second =
    let are = read i nodes a b below first second in
    subst (λ (x : Node). IsStep x b) are.first (subst (λ (y : Node). IsStep (get_or nodes i a) y) are.second (step_at i nodes a steps (omega arith)))

-- the plain piece between them is that of the piece
pub piece_read : (s : Segment) (i : ℕ) (nodes : List Node) (a b : Node) (piece : Piece) → nodes ≡ s.nodes → i + 1 < length nodes → a ≡ get_or nodes i a → b ≡ get_or nodes (i + 1) b
    → first_state piece ≡ plain_node a → last_state piece ≡ plain_node b → slice_get (pieces_of_segment (plain_segment s)) i ≡ Some (piece_with s.first.micros s.last.micros piece)
piece_read s i nodes a b piece e below first second from to =
    let are = read i nodes a b below first second in
    let here : slice_get (pieces_in s.first.micros s.last.micros nodes) i ≡ Some (piece_with s.first.micros s.last.micros piece) =
    from_node s.first.micros s.last.micros i nodes a (omega arith)
    ∙ ap (λ (x : Node). Some (piece_between s.first.micros s.last.micros x (get_or nodes (suc i) a))) are.first
    ∙ ap (λ (y : Node). Some (piece_between s.first.micros s.last.micros a y)) are.second
    ∙ ap (λ (x : PlainNode). Some (record { from = x; to = plain_node b; first = s.first.micros; last = s.last.micros })) (sym from)
    ∙ ap (λ (y : PlainNode). Some (record { from = first_state piece; to = y; first = s.first.micros; last = s.last.micros })) (sym to) in
    subst (λ (xs : List Node). slice_get (pieces_in s.first.micros s.last.micros xs) i ≡ Some (piece_with s.first.micros s.last.micros piece)) e here

pub spans : (first last : ℕ) (piece : Piece) (z : Option PlainPiece) → z ≡ Some (piece_with first last piece) → IsSomeAnd z (Spans piece)
spans first last piece z e = subst (λ (x : Option PlainPiece). IsSomeAnd x (Spans piece)) (sym e) (record { from = refl; to = refl })

-- and its interpolant
pub same_curve : (piece : Piece) (x : PlainPiece) → Spans piece x → curve_of piece ≡ curve_of_piece x
same_curve piece x h =
    ap (λ (from : PlainNode). curve_of_piece (record { from = from; to = last_state piece; first = x.first; last = x.last })) h.from
    ∙ ap (λ (to : PlainNode). curve_of_piece (record { from = x.from; to = to; first = x.first; last = x.last })) h.to

pub curve_if : (piece : Piece) (z : Option PlainPiece) → IsSomeAnd z (Spans piece) → IsSomeAnd z (λ x. curve_of piece ≡ curve_of_piece x)
curve_if piece None h = h
curve_if piece (Some x) h = same_curve piece x h
