-- The useable span of an ephemeris, of whose segments each begins where the one before ends, or later.
use Rattle.std.proofs.Common.{◌≡◌, ℕ, suc, ◌+◌, ◌-◌, ◌<◌, ◌≤◌, List, [], ◌∷◌, Some, length, map, fold, drop, drop-cons, get_or, refl, sym, ap, ◌∙◌, arith}
use Rattle.std.specs.Prelude.{min, max, slice_get}
use Rattle.std.proofs.lemmas.Int.{clamps}
use Rattle.cj_track.specs.declared.segment.Segment.{Segment}
use Rattle.cj_track.specs.Segments.{AreInOrder}
use Rattle.cj_track.specs.PlainTracks.{PlainTrack}
use Rattle.cj_track.specs.Tracks.{plain_segment, plain_track}
use Rattle.cj_track.specs.declared.track.Track.{Track}
use Rattle.cj_track.specs.PlainTracks.{first_of, last_of}
use Rattle.cj_inputs.specs.Windows.{least, greatest}

least_from : (m : ℕ) (s : Segment) (ss : List Segment) → m ≤ s.first.micros → AreInOrder (s ∷ ss) → fold min m (map first_of (map plain_segment (s ∷ ss))) ≡ m
least_from m s [] low order = omega (arith, clamps)
least_from m s (t ∷ ss) low order =
    let here : min m s.first.micros ≡ m = omega (arith, clamps) in
    ap (λ (k : ℕ). fold min k (map first_of (map plain_segment (t ∷ ss)))) here ∙ least_from m t ss (omega (arith, s.some, order.0)) order.1

-- its first tick is that of its first segment
pub starts_first : (s : Segment) (ss : List Segment) → AreInOrder (s ∷ ss) → least (map first_of (map plain_segment (s ∷ ss))) ≡ s.first.micros
starts_first s [] order = refl
starts_first s (t ∷ ss) order = least_from s.first.micros t ss (omega (arith, s.some, order.0)) order.1

greatest_from : (m : ℕ) (s : Segment) (ss : List Segment) (last : Segment) → m ≤ s.last.micros → AreInOrder (s ∷ ss) → slice_get (s ∷ ss) (length ss) ≡ Some last
    → fold max m (map last_of (map plain_segment (s ∷ ss))) ≡ last.last.micros
greatest_from m s [] last low order is = let same : s ≡ last = cc in let here : max m s.last.micros ≡ s.last.micros = omega (arith, clamps) in here ∙ ap (λ (x : Segment). x.last.micros) same
greatest_from m s (t ∷ ss) last low order is =
    let here : max m s.last.micros ≡ s.last.micros = omega (arith, clamps) in
    ap (λ (k : ℕ). fold max k (map last_of (map plain_segment (t ∷ ss)))) here
    ∙ greatest_from s.last.micros t ss last (omega (arith, t.some, order.0)) order.1 is

-- its last tick is that of its last segment
pub stops_last : (s : Segment) (ss : List Segment) (last : Segment) → AreInOrder (s ∷ ss) → slice_get (s ∷ ss) (length ss) ≡ Some last → greatest (map last_of (map plain_segment (s ∷ ss))) ≡ last.last.micros
stops_last s [] last order is = let same : s ≡ last = cc in ap (λ (x : Segment). x.last.micros) same
stops_last s (t ∷ ss) last order is = greatest_from s.last.micros t ss last (omega (arith, t.some, order.0)) order.1 is

-- ---- as they are found

pub starts_at : (segments : List Segment) (first : Segment) → AreInOrder segments → Some first ≡ slice_get segments 0 → first.first.micros ≡ least (map first_of (map plain_segment segments))
starts_at [] first order is = absurd cc
starts_at (s ∷ ss) first order is = let same : first ≡ s = cc in ap (λ (x : Segment). x.first.micros) same ∙ sym (starts_first s ss order)

pub stops_at : (segments : List Segment) (last : Segment) → AreInOrder segments → Some last ≡ slice_get segments (length segments - 1) → last.last.micros ≡ greatest (map last_of (map plain_segment segments))
stops_at [] last order is = absurd cc
stops_at (s ∷ ss) last order is =
    let place : length (s ∷ ss) - 1 ≡ length ss = omega arith in
    sym (stops_last s ss last order (sym (is ∙ ap (λ (k : ℕ). slice_get (s ∷ ss) k) place)))

-- ---- track by track

-- one more track is folded in
pub folded_more : (op : ℕ → ℕ → ℕ) (tick_of : PlainTrack → ℕ) (so_far own next end : ℕ) (tracks : List Track) (i : ℕ) (track : Track) → i < length tracks
    → track ≡ get_or tracks i track
    → own ≡ tick_of (plain_track track) → next ≡ op so_far own → fold op so_far (map tick_of (map plain_track (drop i tracks))) ≡ end
    → fold op next (map tick_of (map plain_track (drop (i + 1) tracks))) ≡ end
folded_more op tick_of so_far own next end tracks i track below is here taken before =
    let left : List Track → ℕ = λ ts. fold op so_far (map tick_of (map plain_track ts)) in
    let after : suc i ≡ i + 1 = omega arith in
    let split : drop i tracks ≡ track ∷ drop (i + 1) tracks =
    drop-cons tracks i track below ∙ ap (λ (t : Track). t ∷ drop (suc i) tracks) (sym is) ∙ ap (λ (n : ℕ). track ∷ drop n tracks) after in
    ap (λ (m : ℕ). fold op m (map tick_of (map plain_track (drop (i + 1) tracks)))) (taken ∙ ap (op so_far) here) ∙ sym (ap left split) ∙ before
