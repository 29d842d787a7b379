-- A track has a state exactly in the useable spans of its segments.
use Rattle.std.proofs.Common.{◌≡◌, ℕ, suc, ◌+◌, ◌<◌, ◌≤◌, ◌⊎◌, max, Bool, true, false, cond, List, [], ◌∷◌, map, length, get_or, Option, Some, None, refl, sym, ap, subst, inl, inr, ltb, arith}
use Rattle.std.specs.Prelude.{is_some, option_map, filter}
use Rattle.std.specs.List.{enumerate_from, last_or}
use Rattle.std.specs.List.Sorted.{IsNonDecreasingBy, IsPartitionPoint}
use Rattle.std.proofs.lemmas.Bool.{cases_lt}
use Rattle.std.proofs.lemmas.List.{get_or_default}
use Rattle.std.proofs.lemmas.Bool.Decides.{nat_tests}
use Rattle.cj_track.specs.declared.node.Node.{Node}
use Rattle.cj_track.specs.declared.segment.Segment.{Segment}
use Rattle.cj_track.specs.declared.track.Track.{Track}
use Rattle.cj_track.specs.Segments.{AreInOrder}
use Rattle.cj_track.specs.Tracks.{plain_node, plain_segment, plain_track}
use Rattle.cj_track.specs.Useable.{last_tick, LiesWithin}
use Rattle.cj_hermite.specs.Pieces.{PlainPiece, covers, last_covering, pieces_of_segment, piece_at}
use Rattle.cj_hermite.proofs.CoverLemmas.{Misses, misses-append, covers_if}
use Rattle.cj_hermite.proofs.PieceLemmas.{piece_between, pieces_in, pieces_through, later_span, earlier_span, none_at}
use Rattle.cj_hermite.proofs.SearchLemmas.{in_order, segments_rise}
use Rattle.cj_hermite.specs.Walks.{AreEnded, HasNoMore, IsNextState}
use Rattle.cj_interval.proofs.ListLemmas.{Exists, Exists-at, Exists-flat_map, Exists-map}

-- ---- a tick of a useable span

last_or-some : {A : Type 0} (z : A) (zs : List A) → is_some (last_or (Some z) zs) ≡ true
last_or-some z [] = refl
last_or-some z (y ∷ ys) = last_or-some y ys

found_last : (m n : ℕ) (o : Option (ℕ × PlainPiece)) (xs : List PlainPiece) → Exists (λ x. covers m x ≡ true) xs → is_some (last_or o (filter (λ x. covers m x.1) (enumerate_from n xs))) ≡ true
found_last m n o [] has = absurd has
found_last m n o (x ∷ xs) (inl here) = rw here (last_or-some (n, x) (filter (λ y. covers m y.1) (enumerate_from (n + 1) xs)))
found_last m n o (x ∷ xs) (inr later) = go (covers m x) (found_last m (n + 1) (Some (n, x)) xs later) (found_last m (n + 1) o xs later)
  where
    go : (b : Bool) → is_some (last_or (Some (n, x)) (filter (λ y. covers m y.1) (enumerate_from (n + 1) xs))) ≡ true → is_some (last_or o (filter (λ y. covers m y.1) (enumerate_from (n + 1) xs))) ≡ true →
        is_some (last_or o (cond b ((n, x) ∷ filter (λ y. covers m y.1) (enumerate_from (n + 1) xs)) (filter (λ y. covers m y.1) (enumerate_from (n + 1) xs)))) ≡ true
    go true taken left = taken
    go false taken left = left

-- between some two neighbouring nodes
bracketed : (first last m : ℕ) (a : Node) (nodes : List Node) → 1 ≤ length nodes → a.at.micros ≤ m → m ≤ last_tick a.at.micros nodes → first ≤ m → m ≤ last → Exists (λ x. covers m x ≡ true) (pieces_in first last (a ∷ nodes))
bracketed first last m a [] some low high from to = absurd (omega arith)
bracketed first last m a (b ∷ []) some low high from to = inl (covers_if m (piece_between first last a b) low high from to)
bracketed first last m a (b ∷ d ∷ nodes) some low high from to = elim (cases_lt b.at.micros m) [
  | inl after ↦ inr (bracketed first last m b (d ∷ nodes) (omega arith) (omega arith) high from to)
  | inr upto ↦ inl (covers_if m (piece_between first last a b) low upto from to)
]

in_span : (m : ℕ) (s : Segment) → s.first.micros ≤ m → m ≤ s.last.micros → Exists (λ x. covers m x ≡ true) (pieces_of_segment (plain_segment s))
in_span m s from to = go s.nodes s.enough s.within
  where
    go : (nodes : List Node) → 2 ≤ length nodes → LiesWithin s.first.micros s.last.micros nodes → Exists (λ x. covers m x ≡ true) (pieces_in s.first.micros s.last.micros nodes)
    go [] enough within = absurd (omega arith)
    go (a ∷ nodes) enough within = bracketed s.first.micros s.last.micros m a nodes (omega arith) (omega (arith, within.from)) (omega (arith, within.to)) from to

pub state_in_span : (track : Track) (m k : ℕ) (d : Segment) → k < length track.segments → (get_or track.segments k d).first.micros ≤ m → m ≤ (get_or track.segments k d).last.micros →
    is_some (piece_at (plain_track track) m) ≡ true
unfolding piece_at
state_in_span track m k d lt from to =
    some_map (last_covering m 0 (pieces_through track.segments))
    (found_last m 0 None (pieces_through track.segments)
    (Exists-flat_map (λ x. covers m x ≡ true) pieces_of_segment (map plain_segment track.segments)
    (Exists-map (λ segment. Exists (λ x. covers m x ≡ true) (pieces_of_segment segment)) plain_segment track.segments
    (Exists-at (λ s. Exists (λ x. covers m x ≡ true) (pieces_of_segment (plain_segment s))) track.segments k d lt (in_span m (get_or track.segments k d) from to)))))
  where
    some_map : (o : Option (ℕ × PlainPiece)) → is_some o ≡ true → is_some (option_map (λ x. x.0) o) ≡ true
    some_map None some = absurd cc
    some_map (Some z) some = refl

-- ---- a tick of none

out_of_spans : (m : ℕ) (segments : List Segment) → ((k : ℕ) (d : Segment) → k < length segments → (m < (get_or segments k d).first.micros) ⊎ ((get_or segments k d).last.micros < m)) → Misses m (pieces_through segments)
out_of_spans m [] h = tt
out_of_spans m (a ∷ segments) h =
    misses-append m (pieces_of_segment (plain_segment a)) (pieces_through segments)
    (elim (h 0 a (omega arith)) [
      | inl later ↦ later_span m a.first.micros a.last.micros (map plain_node a.nodes) later
      | inr earlier ↦ earlier_span m a.first.micros a.last.micros (map plain_node a.nodes) earlier
    ])
    (out_of_spans m segments (λ k d lt. h (suc k) d (omega arith)))

pub no_state : (track : Track) (m : ℕ) → ((k : ℕ) (d : Segment) → k < length track.segments → (m < (get_or track.segments k d).first.micros) ⊎ ((get_or track.segments k d).last.micros < m)) →
    piece_at (plain_track track) m ≡ None
no_state track m h = none_at (plain_track track) m (out_of_spans m track.segments h)

-- ---- the segments that end before a tick

pub lasts_rise : (segments : List Segment) → AreInOrder segments → IsNonDecreasingBy (λ segment. segment.last.micros) segments
lasts_rise segments order i j d le below = elim (cases_lt i j) [
  | inl lt ↦ let s = get_or segments j d in omega (arith, in_order segments i j d order lt below, s.some)
  | inr ge ↦ let e : i ≡ j = omega arith in rw e (omega arith)
]

pub ended_from : (m p : ℕ) (segments : List Segment) → p ≤ length segments → IsPartitionPoint (λ (s : Segment). ltb s.last.micros m ≡ true) (λ (s : Segment). ltb s.last.micros m ≡ false) segments p → AreEnded m segments p
ended_from m p segments bound point = record {
  bound = bound;
  before = λ k d below. let here = point.0 k d (omega arith) below in grind (arith, nat_tests);
  behind = λ k d from below. let here = point.1 k d from below in grind (arith, nat_tests);
}

pub none_behind : (track : Track) (from p : ℕ) → AreEnded from track.segments p → length track.segments ≤ p → HasNoMore (plain_track track) from
none_behind track from p ended all m low = no_state track m (λ k d lt. inr (omega (arith, ended.before k d (omega arith))))

next_in : (track : Track) (from p at : ℕ) (s : Segment) → AreInOrder track.segments → AreEnded from track.segments p → p < length track.segments → at ≡ max (get_or track.segments p s).first.micros from →
    IsNextState (plain_track track) from at
next_in track from p at s order ended lt e =
    let ends = ended.behind p s (omega arith) lt in
    let own = (get_or track.segments p s).some in
    record {
      later = omega arith;
      none = λ m low high. no_state track m (λ k d below. elim (cases_lt k p) [
        | inl before ↦ inr (omega (arith, ended.before k d before))
        | inr behind ↦ inl (omega (arith, segments_rise track.segments order p k d behind below, same_first p d s))
      ]);
      some = state_in_span track at p s lt (omega arith) (omega (arith, ends, own));
    }
  where
    same_first : (k : ℕ) (d x : Segment) → (get_or track.segments p d).first.micros ≡ (get_or track.segments p x).first.micros
    same_first k d x = ap (λ (y : Segment). y.first.micros) (get_or_default track.segments p d x lt)

-- the same of the segments as they are read
pub none_left : (track : Track) (segments : List Segment) (from p : ℕ) → segments ≡ track.segments → AreEnded from segments p → p ≡ length segments → HasNoMore (plain_track track) from
none_left track segments from p same ended all =
    subst (λ (ss : List Segment). AreEnded from ss p → p ≡ length ss → HasNoMore (plain_track track) from) (sym same)
    (λ ended all. none_behind track from p ended (omega arith)) ended all

pub next_of : (track : Track) (segments : List Segment) (from p at : ℕ) (d : Segment) → segments ≡ track.segments → AreInOrder segments → AreEnded from segments p → (p ≡ length segments → ⊥) →
    at ≡ max (get_or segments p d).first.micros from → IsNextState (plain_track track) from at
next_of track segments from p at d same order ended more e =
    subst (λ (ss : List Segment). AreInOrder ss → AreEnded from ss p → (p ≡ length ss → ⊥) → at ≡ max (get_or ss p d).first.micros from → IsNextState (plain_track track) from at) (sym same)
    (λ order ended more e. next_in track from p at d order ended (let bound = ended.bound in omega arith) e) order ended more e
