-- The ticks at which a piece is the one to be used.
use Rattle.std.proofs.Common.{◌≡◌, ◌≢◌, ℕ, suc, ◌-◌, ◌<◌, ◌≤◌, ◌⊎◌, max, min, inl, inr, eq-or-lt_of_le, Bool, true, false, List, length, get_or, Option, Some, None, refl, sym, ap, ◌∙◌, subst, arith}
use Rattle.std.specs.Prelude.{◌↔◌, option_map, IsSomeAnd, slice_get}
use Rattle.std.proofs.lemmas.Bool.{cases_lt}
use Rattle.std.proofs.lemmas.List.{get_or_default}
use Rattle.cj_base.specs.declared.tick.Window.{Window}
use Rattle.cj_track.specs.declared.node.Node.{Node}
use Rattle.cj_track.specs.declared.segment.Segment.{Segment}
use Rattle.cj_track.specs.PlainTracks.{PlainTrack}
use Rattle.cj_track.specs.Nodes.{AreNodes}
use Rattle.cj_track.specs.Segments.{AreSegments}
use Rattle.cj_track.specs.Tracks.{plain_segment}
use Rattle.cj_hermite.specs.declared.found_pieces.FoundPiece.{FoundPiece}
use Rattle.cj_hermite.specs.declared.pieces.Piece.{Piece}
use Rattle.cj_hermite.specs.Pieces.{PlainPiece, pieces_of_segment, pieces_of, last_covering, piece_at}
use Rattle.cj_hermite.specs.PiecesOfTracks.{Covers, CoversBoth, piece_with}
use Rattle.cj_hermite.specs.Runs.{Holds, IsOfPiece, IsRun}
use Rattle.cj_hermite.specs.Searches.{IsLastBegun, IsFromNode, IsPlace}
use Rattle.cj_hermite.proofs.CoverLemmas.{found_is, covers_is}
use Rattle.cj_hermite.proofs.SearchLemmas.{in_order}
use Rattle.cj_hermite.proofs.PieceLemmas.{piece_between, pieces_through, IsLastFound, found_in, from_node}

covers_found : (m index : ℕ) (xs : List PlainPiece) (x : PlainPiece) (z : Option (ℕ × PlainPiece)) → last_covering m 0 xs ≡ z → option_map (λ y. y.0) z ≡ Some index → slice_get xs index ≡ Some x → Covers m x
covers_found m index xs x None last same here = absurd cc
covers_found m index xs x (Some z) last same here =
    let found = found_is m 0 xs z last in
    let number : z.0 ≡ index = cc in
    let place : found.place ≡ index = omega (arith, found.number) in
    let is : slice_get xs index ≡ Some z.1 = subst (λ (i : ℕ). slice_get xs i ≡ Some z.1) place found.is in
    let one : z.1 ≡ x = cc in
    subst (λ (y : PlainPiece). Covers m y) one (covers_is m z.1 found.here)

held_in : (m index : ℕ) (e : PlainTrack) (window : Window) (z : Option PlainPiece) → slice_get (pieces_of e) index ≡ z → IsSomeAnd z (λ x. (i : ℕ) → Holds window i ↔ Covers i x)
    → piece_at e m ≡ Some index → Holds window m
unfolding piece_at
held_in m index e window None same ticks here = absurd ticks
held_in m index e window (Some x) same ticks here = (ticks m).1 (covers_found m index (pieces_of e) x (last_covering m 0 (pieces_of e)) refl here same)

-- what is told of the ticks between the nodes of a piece
pub record AreCovered (e : PlainTrack) (index : ℕ) (window : Window) : Type 0 where
  pub ticks : IsSomeAnd (slice_get (pieces_of e) index) (λ x. (m : ℕ) → Holds window m ↔ Covers m x)
  pub own : (m : ℕ) → Holds window m → m < window.last.micros → piece_at e m ≡ Some index

-- the ticks that both windows have
pub record IsCommonPart (a b run : Window) : Type 0 where
  pub first : run.first.micros ≡ max a.first.micros b.first.micros
  pub last : run.last.micros ≡ min a.last.micros b.last.micros

in_both : (m : ℕ) (a b run : Window) → IsCommonPart a b run → Holds a m → Holds b m → Holds run m
in_both m a b run part x y = record { after = omega (arith, part.first, x.after, y.after); before = omega (arith, part.last, x.before, y.before) }

pub held : (m index : ℕ) (e : PlainTrack) (range covered run : Window) → AreCovered e index covered → IsCommonPart covered range run → IsOfPiece e index range m → Holds run m
held m index e range covered run are part h =
    in_both m covered range run part (held_in m index e covered (slice_get (pieces_of e) index) refl are.ticks h.here) h.within

own_in : (m index : ℕ) (e : PlainTrack) (range covered run : Window) → AreCovered e index covered → IsCommonPart covered range run → Holds run m → m < run.last.micros → IsOfPiece e index range m
own_in m index e range covered run are part h less = record {
  within = record { after = omega (arith, part.first, h.after); before = omega (arith, part.last, h.before) };
  here = are.own m (record { after = omega (arith, part.first, h.after); before = omega (arith, part.last, h.before) }) (omega (arith, part.last));
}

-- the ends of a run within
pub ends_covered : (m n : ℕ) (window : Window) (z : Option PlainPiece) → IsSomeAnd z (λ x. (i : ℕ) → Holds window i ↔ Covers i x) → Holds window m → Holds window n → IsSomeAnd z (CoversBoth m n)
ends_covered m n window None ticks first second = ticks
ends_covered m n window (Some x) ticks first second = record { first = (ticks m).0 first; second = (ticks n).0 second }

-- a tick from the later first one to the earlier last one lies in both windows
pub holds_cut : (window range : Window) (first last m : ℕ) → first ≡ max window.first.micros range.first.micros
    → last ≡ min window.last.micros range.last.micros → first ≤ m → m ≤ last → Holds window m
holds_cut window range first last m from to after before = record { after = omega arith; before = omega arith }

-- what a test that fails would tell
pub not_at : (test : Bool) (P : Type 0) → (P → test ≡ true) → test ≡ false → ¬ P
not_at test P tells fails p = let holds = tells p in absurd cc

-- where the last tick is the piece's own
pub run_whole : (index : ℕ) (e : PlainTrack) (range covered run : Window) → AreCovered e index covered → IsCommonPart covered range run → run.first.micros ≤ run.last.micros
    → piece_at e run.last.micros ≡ Some index → IsRun e index range run
run_whole index e range covered run are part some last = record {
  some = some;
  ticks = λ m. (
    λ h. elim (eq-or-lt_of_le h.before) [
      | inl same ↦ record {
        within = record { after = omega (arith, part.first, h.after); before = omega (arith, part.last, h.before) };
        here = subst (λ (i : ℕ). piece_at e i ≡ Some index) (sym same) last;
      }
      | inr less ↦ own_in m index e range covered run are part h less
    ],
    λ h. held m index e range covered run are part h,
  );
}

-- where it belongs to a later piece
pub run_less : (index : ℕ) (e : PlainTrack) (range covered run shorter : Window) → AreCovered e index covered → IsCommonPart covered range run → run.first.micros < run.last.micros
    → piece_at e run.last.micros ≢ Some index → shorter.first.micros ≡ run.first.micros → shorter.last.micros ≡ run.last.micros - 1 → IsRun e index range shorter
run_less index e range covered run shorter are part some other first last = record {
  some = omega arith;
  ticks = λ m. (
    λ h. own_in m index e range covered run are part (record { after = omega (arith, h.after); before = omega (arith, h.before) }) (omega (arith, h.before)),
    λ h.
        let inside = held m index e range covered run are part h in
        elim (eq-or-lt_of_le inside.before) [
          | inl same ↦ absurd (other (subst (λ (i : ℕ). piece_at e i ≡ Some index) same h.here))
          | inr less ↦ record { after = omega (arith, inside.after); before = omega (arith, inside.before) }
        ],
  );
}

pub run_none : (index : ℕ) (e : PlainTrack) (range covered run : Window) → AreCovered e index covered → IsCommonPart covered range run → run.last.micros < run.first.micros
    → (m : ℕ) → ¬ IsOfPiece e index range m
run_none index e range covered run are part none m h = let inside = held m index e range covered run are part h in omega (arith, inside.after, inside.before)

pub run_other : (index : ℕ) (e : PlainTrack) (range covered run : Window) → AreCovered e index covered → IsCommonPart covered range run → run.last.micros ≡ run.first.micros
    → piece_at e run.last.micros ≢ Some index → (m : ℕ) → ¬ IsOfPiece e index range m
run_other index e range covered run are part one other m h =
    let inside = held m index e range covered run are part h in
    let same : m ≡ run.last.micros = omega (arith, inside.after, inside.before) in
    other (subst (λ (i : ℕ). piece_at e i ≡ Some index) same h.here)

-- where the run ends before the range does
pub ended_whole : (index : ℕ) (e : PlainTrack) (range covered run : Window) → AreCovered e index covered → IsCommonPart covered range run → run.last.micros < range.last.micros
    → (m : ℕ) → run.last.micros < m → piece_at e m ≢ Some index
ended_whole index e range covered run are part short m after here =
    let inside = held_in m index e covered (slice_get (pieces_of e) index) refl are.ticks here in
    omega (arith, part.last, inside.before)

pub ended_less : (index : ℕ) (e : PlainTrack) (range covered run : Window) → AreCovered e index covered → IsCommonPart covered range run → run.first.micros < run.last.micros
    → piece_at e run.last.micros ≢ Some index → (m : ℕ) → run.last.micros - 1 < m → piece_at e m ≢ Some index
ended_less index e range covered run are part some other m after here =
    let inside = held_in m index e covered (slice_get (pieces_of e) index) refl are.ticks here in
    elim (eq-or-lt_of_le (last_here (cases_lt run.last.micros covered.last.micros))) [
      | inl same ↦ other (subst (λ (i : ℕ). piece_at e i ≡ Some index) (omega (arith, inside.before)) here)
      | inr less ↦ omega (arith, part.last)
    ]
  where
    last_here : (run.last.micros < covered.last.micros) ⊎ (covered.last.micros ≤ run.last.micros) → covered.last.micros ≤ run.last.micros
    last_here (inl before) = absurd (other (are.own run.last.micros (record { after = omega (arith, part.first); before = omega arith }) before))
    last_here (inr behind) = behind

-- the nodes of the piece
same_ticks : (first last first' last' : ℕ) (a b : Node) (piece : Piece) → Some (piece_between first last a b) ≡ Some (piece_with first' last' piece) → (a.at.micros ≡ piece.t0.micros) × (b.at.micros ≡ piece.t1.micros)
same_ticks first last first' last' a b piece h =
    let same : piece_between first last a b ≡ piece_with first' last' piece = cc in
    (ap (λ (x : PlainPiece). x.from.at) same, ap (λ (x : PlainPiece). x.to.at) same)

-- a tick before the last that the piece covers
pub own_tick : (m : ℕ) (segments : List Segment) (found : FoundPiece) (s : Segment) (piece : Piece) → AreSegments segments → AreNodes s.nodes → IsPlace segments found → s ≡ get_or segments found.segment s
    → slice_get (pieces_of_segment (plain_segment s)) found.node ≡ Some (piece_with s.first.micros s.last.micros piece)
    → s.first.micros ≤ m → piece.t0.micros ≤ m → m < s.last.micros → m < piece.t1.micros
    → IsLastFound m found.index (pieces_through segments)
own_tick m segments found s piece are nodes place is value after from before to =
    let k = found.segment in
    let i = found.node in
    let begun : IsLastBegun m segments k = record {
      exists = place.exists;
      begun = λ d. subst (λ (t : Segment). t.first.micros ≤ m) (is ∙ get_or_default segments k s d place.exists) after;
      next = λ d below.
          let here : m < (get_or segments k d).last.micros = subst (λ (t : Segment). m < t.last.micros) (is ∙ get_or_default segments k s d place.exists) before in
          omega (arith, in_order segments k (suc k) d are.order (omega arith) below);
    } in
    let count : length s.nodes ≡ length (get_or segments k s).nodes = ap (λ (t : Segment). length t.nodes) is in
    let below : suc i < length s.nodes = omega (arith, place.within s) in
    let node : (d : Node) → IsFromNode m s.nodes i d = λ d.
    let ticks = same_ticks s.first.micros s.last.micros s.first.micros s.last.micros (get_or s.nodes i d) (get_or s.nodes (suc i) d) piece
    (sym (from_node s.first.micros s.last.micros i s.nodes d below) ∙ value) in
    record { exists = below; from = omega (arith, ticks.0); to = omega (arith, ticks.1); next = λ more. omega (arith, ticks.1) } in
    let last = found_in m k i segments s are.order begun is (omega arith) nodes node in
    subst (λ (number : ℕ). IsLastFound m number (pieces_through segments)) (sym place.number) last

-- the ticks between the nodes, within the useable span
pub between_ends : (first last : ℕ) (piece : Piece) (window : Window) (z : Option PlainPiece) → z ≡ Some (piece_with first last piece) → window.first.micros ≡ max piece.t0.micros first
    → window.last.micros ≡ min piece.t1.micros last → IsSomeAnd z (λ x. (m : ℕ) → Holds window m ↔ Covers m x)
between_ends first last piece window z same from to =
    subst (λ (y : Option PlainPiece). IsSomeAnd y (λ x. (m : ℕ) → Holds window m ↔ Covers m x)) (sym same) (λ m. (
      λ h. record { from = omega (arith, from, h.after); to = omega (arith, to, h.before); first = omega (arith, from, h.after); last = omega (arith, to, h.before) },
      λ h. record { after = omega (arith, from, h.from, h.first); before = omega (arith, to, h.to, h.last) },
    ))
