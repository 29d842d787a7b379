-- The first part of a track from a tick on: its hull stands in front of those from the tick behind it on.
use Rattle.std.proofs.Common.{◌≡◌, ◌≢◌, ℕ, zero, suc, ◌+◌, ◌-◌, ◌<◌, ◌≤◌, List, [], ◌∷◌, ◌++◌, filter, inl, inr, Option, Some, None, refl, sym, ap, ◌∙◌, subst, arith}
use Rattle.std.specs.Prelude.{slice_get, IfSome, IsSomeAnd}
use Rattle.std.specs.List.{enumerate_from, flat_map, range_with_len}
use Rattle.std.proofs.lemmas.Bool.{cases_lt, cases_Bool}
use Rattle.std.proofs.lemmas.List.Elements.{filter-append}
use Rattle.cj_interval.proofs.RangeLemmas.{none_in_range_passes, range_cut}
use Rattle.cj_base.specs.declared.tick.Window.{Window}
use Rattle.cj_track.specs.PlainTracks.{PlainNode, PlainTrack}
use Rattle.cj_hermite.specs.declared.pieces.Piece.{Piece}
use Rattle.cj_hermite.specs.Interpolant.{curve_of}
use Rattle.cj_hermite.specs.Pieces.{PlainPiece, pieces_of, piece_at, curve_of_piece}
use Rattle.cj_hermite.specs.PiecesOfTracks.{Spans}
use Rattle.cj_hermite.specs.Walks.{HasNone, IsNextRun}
use Rattle.cj_hermite.proofs.StateLemmas.{has, lacks, state}
use Rattle.cj_bezier.specs.Hulls.{PlainHull, hull_axes}
use Rattle.cj_bezier.specs.Parts.{IsPart, is_number, ticks_used, last_tick, hull_over, hulls_of, IsInTime, AreInTime}
use Rattle.cj_bezier.proofs.HullListLemmas.{AreNone, Filtered, filtered, number_is, is_the_number, in_range, ends_of_part, of_number}

-- the first run, of the ticks from `from` to last, and the piece that is used in it
pub record IsRunOf (e : PlainTrack) (from last first to index : ℕ) (x : PlainPiece) : Type 0 where
  pub piece : slice_get (pieces_of e) index ≡ Some x
  pub rises : x.from.at < x.to.at
  pub later : from ≤ first
  pub some : first ≤ to
  pub within : to ≤ last
  pub none : (m : ℕ) → from ≤ m → m < first → piece_at e m ≡ None
  pub here : (m : ℕ) → first ≤ m → m ≤ to → piece_at e m ≡ Some index
  pub ended : to < last → (m : ℕ) → to < m → piece_at e m ≢ Some index
  pub behind : (m number : ℕ) → to ≤ m → piece_at e m ≡ Some number → index ≤ number

-- what a search for the run tells
pub record IsFound (e : PlainTrack) (from last index : ℕ) (run : Window) : Type 0 where
  pub next : IsNextRun e from last run
  pub after : from ≤ run.first.micros
  pub ended : run.last.micros < last → (m : ℕ) → run.last.micros < m → piece_at e m ≢ piece_at e run.last.micros
  pub number : piece_at e run.last.micros ≡ Some index
  pub behind : (m number : ℕ) → run.last.micros ≤ m → piece_at e m ≡ Some number → index ≤ number

-- what is found up to a tick is found up to an earlier one, if not before its own last
pub found_upto : (e : PlainTrack) (from upto last index : ℕ) (run : Window) → run.last.micros ≤ upto → upto ≤ last → IsFound e from last index run → IsFound e from upto index run
found_upto e from upto last index run low high is =
    let next = is.next in
    record {
      next = record { later = next.later; within = low; none = next.none; same = next.same; some = next.some; ends = λ short. next.ends (omega (arith, short, high)) };
      after = is.after;
      ended = λ short. is.ended (omega (arith, short, high));
      number = is.number;
      behind = is.behind;
    }

run_of : (e : PlainTrack) (from last index : ℕ) (x : PlainPiece) (run : Window) → slice_get (pieces_of e) index ≡ Some x → x.from.at < x.to.at → IsFound e from last index run
    → IsRunOf e from last run.first.micros run.last.micros index x
run_of e from last index x run is rises found =
    let next = found.next in
    record {
      piece = is;
      rises = rises;
      later = found.after;
      some = elim (cases_lt run.last.micros run.first.micros) [
        | inl before ↦ let none = next.none run.last.micros next.later before in let some = next.some in absurd cc
        | inr behind ↦ behind
      ];
      within = next.within;
      none = next.none;
      here = λ m from' to'. next.same m (omega (arith, found.after)) from' to' ∙ found.number;
      ended = λ short m later here. found.ended short m later (here ∙ sym found.number);
      behind = found.behind;
    }

-- the piece of the first run
pub record IsPieceOf (e : PlainTrack) (from last first to : ℕ) (piece : Piece) : Type 0 where
  pub index : ℕ
  pub plain : PlainPiece
  pub run : IsRunOf e from last first to index plain
  pub spans : Spans piece plain
  pub curve : curve_of piece ≡ curve_of_piece plain

pub piece_of : (e : PlainTrack) (from last index : ℕ) (run : Window) (piece : Piece) (z : Option PlainPiece) → slice_get (pieces_of e) index ≡ z → IsSomeAnd z (Spans piece)
    → IsSomeAnd z (λ x. curve_of piece ≡ curve_of_piece x) → IsFound e from last index run → IsPieceOf e from last run.first.micros run.last.micros piece
piece_of e from last index run piece None is nodes curve found = absurd nodes
piece_of e from last index run piece (Some x) is nodes curve found =
    let first : piece.t0.micros ≡ x.from.at = ap (λ (s : PlainNode). s.at) nodes.from in
    let last' : piece.t1.micros ≡ x.to.at = ap (λ (s : PlainNode). s.at) nodes.to in
    record {
      index = index;
      plain = x;
      run = run_of e from last index x run is (let ordered = piece.ordered in omega arith) found;
      spans = nodes;
      curve = curve;
    }

-- a tick at which there is a piece lies in the run, or behind it
reached : (e : PlainTrack) (from last first to index : ℕ) (x : PlainPiece) → IsRunOf e from last first to index x → (m number : ℕ) → from ≤ m → piece_at e m ≡ Some number → first ≤ m
reached e from last first to index x run m number after here = elim (cases_lt m first) [
  | inl before ↦ let none = run.none m after before in absurd cc
  | inr behind ↦ behind
]

pub from_node : (e : PlainTrack) (from last first to : ℕ) (piece : Piece) → IsPieceOf e from last first to piece → piece.t0.micros ≤ first
from_node e from last first to piece is =
    let run = is.run in
    let covers = (of_number e first is.index is.plain run.piece (run.here first (omega arith) run.some)).covers in
    let node : piece.t0.micros ≡ is.plain.from.at = ap (λ (s : PlainNode). s.at) is.spans.from in
    omega (arith, covers.from)

pub to_node : (e : PlainTrack) (from last first to : ℕ) (piece : Piece) → IsPieceOf e from last first to piece → to ≤ piece.t1.micros
to_node e from last first to piece is =
    let run = is.run in
    let covers = (of_number e to is.index is.plain run.piece (run.here to run.some (omega arith))).covers in
    let node : piece.t1.micros ≡ is.plain.to.at = ap (λ (s : PlainNode). s.at) is.spans.to in
    omega (arith, covers.to)

-- ---- in time

in_time_none : (e : PlainTrack) (m : ℕ) → piece_at e m ≡ None → IsInTime e m
in_time_none e m none = elim (state e m) [
  | lacks unnumbered empty ↦ record { rises = subst (λ (o : Option PlainPiece). IfSome o (λ x. x.from.at < x.to.at)) (sym empty) tt; later = λ n i j after here there. absurd cc }
  | has number x is ↦ let numbered = is.numbered in absurd cc
]

pub none_in_time : (e : PlainTrack) (from last : ℕ) → HasNone e from last → AreInTime e from last
none_in_time e from last none m after before = in_time_none e m (none m after before)

pub run_in_time : (e : PlainTrack) (from last first to index : ℕ) (x : PlainPiece) → IsRunOf e from last first to index x → AreInTime e from to
run_in_time e from last first to index x run m after before = elim (cases_lt m first) [
  | inl early ↦ in_time_none e m (run.none m after early)
  | inr late ↦ record {
    rises = subst (λ (o : Option PlainPiece). IfSome o (λ y. y.from.at < y.to.at)) (sym (of_number e m index x run.piece (run.here m late before)).at) run.rises;
    later = λ n i j le here there.
        let own = run.here m late before in
        let first_is : i ≡ index = cc in
        elim (cases_lt to n) [
          | inl past ↦ let least = run.behind n j (omega arith) there in omega arith
          | inr inside ↦ let own' = run.here n (omega arith) inside in let second_is : j ≡ index = cc in omega arith
        ];
  }
]

pub join_time : (e : PlainTrack) (from at last : ℕ) → AreInTime e from at → AreInTime e (at + 1) last → AreInTime e from last
join_time e from at last before behind m low high = elim (cases_lt at m) [ inl late ↦ behind m (omega arith) high | inr early ↦ before m low early ]

-- ---- the hulls

-- a piece that is not used in the run
later_ticks : (e : PlainTrack) (from last to index : ℕ) → from ≤ to → to ≤ last → AreNone (λ k. is_number index (piece_at e k)) from (to + 1 - from) → ticks_used e from last index ≡ ticks_used e (to + 1) last index
later_ticks e from last to index le within none =
    let q = λ (k : ℕ). is_number index (piece_at e k) in
    let count : last + 1 - from ≡ (to + 1 - from) + (last + 1 - (to + 1)) = omega arith in
    let at : from + (to + 1 - from) ≡ to + 1 = omega arith in
    ap (λ (n : ℕ). filter q (range_with_len from n)) count
    ∙ ap (filter q) (range_cut from (to + 1 - from) (last + 1 - (to + 1)))
    ∙ filter-append q (range_with_len from (to + 1 - from)) (range_with_len (from + (to + 1 - from)) (last + 1 - (to + 1)))
    ∙ ap (λ (ms : List ℕ). ms ++ filter q (range_with_len (from + (to + 1 - from)) (last + 1 - (to + 1)))) (none_in_range_passes q from (to + 1 - from) none)
    ∙ ap (λ (a : ℕ). filter q (range_with_len a (last + 1 - (to + 1)))) at

-- another number passes at no tick of the run
not_in_run : (e : PlainTrack) (from last first to index : ℕ) (x : PlainPiece) (other : ℕ) → IsRunOf e from last first to index x → other ≢ index → AreNone (λ k. is_number other (piece_at e k)) from (to + 1 - from)
not_in_run e from last first to index x other run differ k low high = elim (cases_Bool (is_number other (piece_at e k))) [
  | inr other_there ↦ other_there
  | inl own_there ↦
      let numbered = number_is other (piece_at e k) own_there in
      let late = reached e from last first to index x run k other low numbered in
      let own = run.here k late (omega (arith, run.later, run.some)) in
      let same : other ≡ index = cc in
      absurd (differ same)
]

-- up to its own number none passes behind the run
not_behind : (e : PlainTrack) (from last first to index : ℕ) (x : PlainPiece) (other : ℕ) → IsRunOf e from last first to index x → other ≤ index → AreNone (λ k. is_number other (piece_at e k)) (to + 1) (last + 1 - (to + 1))
not_behind e from last first to index x other run le k low high = elim (cases_Bool (is_number other (piece_at e k))) [
  | inr other_there ↦ other_there
  | inl own_there ↦
      let numbered = number_is other (piece_at e k) own_there in
      let least = run.behind k other (omega arith) numbered in
      let same : other ≡ index = omega arith in
      let own : piece_at e k ≡ Some index = subst (λ (i : ℕ). piece_at e k ≡ Some i) same numbered in
      absurd (run.ended (omega arith) k (omega arith) own)
]

part_of_run : (e : PlainTrack) (from last first to index : ℕ) (x : PlainPiece) → IsRunOf e from last first to index x → IsPart e from last index x first to
part_of_run e from last first to index x run = record {
  piece = run.piece;
  some = run.some;
  ticks = λ m. (
    λ h. record { after = omega (arith, run.later, h.0); before = omega (arith, run.within, h.1); here = run.here m h.0 h.1 },
    λ u. (
      reached e from last first to index x run m index u.after u.here,
      elim (cases_lt to m) [ inl past ↦ absurd (run.ended (omega (arith, u.before)) m past u.here) | inr inside ↦ inside ],
    ),
  );
}

-- the hull of the piece that is used in the run
own_hull : (e : PlainTrack) (from last first to index : ℕ) (x : PlainPiece) → IsRunOf e from last first to index x → hull_over x (ticks_used e from last index) ≡ hull_axes (curve_of_piece x) first to ∷ []
own_hull e from last first to index x run = go (ticks_used e from last index) (filtered (λ k. is_number index (piece_at e k)) from (last + 1 - from))
  where
    go : (ms : List ℕ) → Filtered (λ k. is_number index (piece_at e k)) from (last + 1 - from) ms → hull_over x ms ≡ hull_axes (curve_of_piece x) first to ∷ []
    go [] none =
        let no = none first run.later (in_range from last first run.later (omega (arith, run.some, run.within))) in
        let yes = is_the_number index (piece_at e first) (run.here first (omega arith) run.some) in
        absurd cc
    go (m ∷ ms) ends =
        let same = ends_of_part e from last index x first to m (last_tick m ms) (part_of_run e from last first to index x run) ends in
        λ i. hull_axes (curve_of_piece x) (same.0 i) (same.1 i) ∷ []

-- the hulls from a tick on are that of the first run and those behind it
pub hulls_from : (e : PlainTrack) (from last first to index : ℕ) (x : PlainPiece) (h : PlainHull) → IsRunOf e from last first to index x → h ≡ hull_axes (curve_of_piece x) first to
    → hulls_of e from last ≡ h ∷ hulls_of e (to + 1) last
unfolding hulls_of
hulls_from e from last first to index x h run hull = go 0 index (pieces_of e) (omega arith) run.piece
  where
    le : from ≤ to
    le = omega (arith, run.later, run.some)

    -- a piece with another number
    other_same : (n : ℕ) (y : PlainPiece) → n ≢ index → hull_over y (ticks_used e from last n) ≡ hull_over y (ticks_used e (to + 1) last n)
    other_same n y differ = ap (hull_over y) (later_ticks e from last to n le run.within (not_in_run e from last first to index x n run differ))

    -- one that comes before, or its own, behind the run
    none_behind : (n : ℕ) (y : PlainPiece) → n ≤ index → hull_over y (ticks_used e (to + 1) last n) ≡ []
    none_behind n y before = ap (hull_over y) (none_in_range_passes (λ k. is_number n (piece_at e k)) (to + 1) (last + 1 - (to + 1)) (not_behind e from last first to index x n run before))

    rest_same : (n : ℕ) (ys : List PlainPiece) → index < n
        → flat_map (λ part. hull_over part.1 (ticks_used e from last part.0)) (enumerate_from n ys) ≡ flat_map (λ part. hull_over part.1 (ticks_used e (to + 1) last part.0)) (enumerate_from n ys)
    rest_same n [] lt = refl
    rest_same n (y ∷ ys) lt =
        let here = other_same n y (λ same. omega arith) in
        let rest = rest_same (n + 1) ys (omega arith) in
        λ i. here i ++ rest i

    go : (n place : ℕ) (ys : List PlainPiece) → n + place ≡ index → slice_get ys place ≡ Some x
        → flat_map (λ part. hull_over part.1 (ticks_used e from last part.0)) (enumerate_from n ys) ≡ h ∷ flat_map (λ part. hull_over part.1 (ticks_used e (to + 1) last part.0)) (enumerate_from n ys)
    go n place [] at is = absurd cc
    go n zero (y ∷ ys) at is =
        let number : n ≡ index = omega arith in
        let one : y ≡ x = cc in
        let own : hull_over y (ticks_used e from last n) ≡ h ∷ [] =
        ap (λ (z : PlainPiece). hull_over z (ticks_used e from last n)) one ∙ ap (λ (k : ℕ). hull_over x (ticks_used e from last k)) number
        ∙ own_hull e from last first to index x run ∙ ap (λ (g : PlainHull). g ∷ []) (sym hull) in
        let none = none_behind n y (omega arith) in
        let rest = rest_same (n + 1) ys (omega arith) in
        let tail = λ (hs : List PlainHull). hs ++ flat_map (λ part. hull_over part.1 (ticks_used e (to + 1) last part.0)) (enumerate_from (n + 1) ys) in
        (λ i. own i ++ rest i) ∙ ap (λ (hs : List PlainHull). h ∷ tail hs) (sym none)
    go n (suc place) (y ∷ ys) at is =
        let here = other_same n y (λ same. omega arith) ∙ none_behind n y (omega arith) in
        let none = none_behind n y (omega arith) in
        let rest = go (n + 1) place ys (omega arith) is in
        let tail = λ (hs : List PlainHull). hs ++ flat_map (λ part. hull_over part.1 (ticks_used e (to + 1) last part.0)) (enumerate_from (n + 1) ys) in
        (λ i. here i ++ rest i) ∙ ap (λ (hs : List PlainHull). h ∷ tail hs) (sym none)
