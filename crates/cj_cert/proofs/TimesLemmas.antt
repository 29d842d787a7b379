-- The pieces of a track come in order of time.
use Rattle.std.proofs.Common.{◌≡◌, ℕ, zero, suc, ◌+◌, ◌++◌, ◌<◌, ◌≤◌, ◌⊎◌, inl, inr, List, [], ◌∷◌, length, get_or, take, map, Option, Some, refl, sym, ap, ◌∙◌, subst, arith}
use Rattle.std.specs.Prelude.{All, IfSome, slice_get}
use Rattle.std.proofs.lemmas.Bool.{cases_lt}
use Rattle.std.proofs.lemmas.List.{take_more}
use Rattle.std.proofs.lemmas.List.Elements.{All-push, All-same}
use Rattle.cj_interval.proofs.ListLemmas.{Each, Ordered, Each-weaker, Each-always, Each-append, Ordered-append, each_at}
use Rattle.cj_track.specs.declared.node.Node.{Node}
use Rattle.cj_track.specs.declared.segment.Segment.{Segment}
use Rattle.cj_track.specs.Nodes.{AreSteps, AreNodes}
use Rattle.cj_track.specs.PlainTracks.{PlainNode, PlainTrack}
use Rattle.cj_track.specs.Segments.{AreInOrder}
use Rattle.cj_track.specs.Tracks.{plain_node, plain_segment}
use Rattle.cj_hermite.specs.Lengths.{Rises}
use Rattle.cj_hermite.specs.Pieces.{PlainPiece, pieces_between, pieces_of_segment, pieces_of, piece_at}
use Rattle.cj_hermite.proofs.PieceLemmas.{piece_between, pieces_in, pieces_through}
use Rattle.cj_hermite.proofs.StateLemmas.{has, lacks, state}
use Rattle.cj_bezier.specs.Parts.{AreInTime}

-- y ends before x begins, or as it does: in its nodes, or in its useable span
abbrev pub EndsBefore : PlainPiece → PlainPiece → Type 0
EndsBefore y x = (y.to.at ≤ x.from.at) ⊎ (y.last ≤ x.first)

-- ---- in a segment

-- the pieces from a node on begin there or later
from_on : (first last : ℕ) (a : Node) (nodes : List Node) → AreSteps (a ∷ nodes) → Each (λ x. a.at.micros ≤ x.from.at) (pieces_in first last (a ∷ nodes))
from_on first last a [] steps = tt
from_on first last a (b ∷ nodes) steps = (
  omega arith,
  Each-weaker (λ x. b.at.micros ≤ x.from.at) (λ x. a.at.micros ≤ x.from.at) (λ x h. omega (arith, steps.0.rises)) (pieces_in first last (b ∷ nodes)) (from_on first last b nodes steps.1),
)

in_segment : (first last : ℕ) (nodes : List Node) → AreSteps nodes → Ordered EndsBefore (pieces_in first last nodes)
in_segment first last [] steps = tt
in_segment first last (a ∷ []) steps = tt
in_segment first last (a ∷ b ∷ nodes) steps = (
  Each-weaker (λ x. b.at.micros ≤ x.from.at) (EndsBefore (piece_between first last a b)) (λ x h. inl h) (pieces_in first last (b ∷ nodes)) (from_on first last b nodes steps.1),
  in_segment first last (b ∷ nodes) steps.1,
)

-- they have its useable span
begin_with : (first last : ℕ) (nodes : List PlainNode) → Each (λ x. x.first ≡ first) (pieces_between first last nodes)
begin_with first last [] = tt
begin_with first last (a ∷ []) = tt
begin_with first last (a ∷ b ∷ nodes) = (refl, begin_with first last (b ∷ nodes))

end_with : (first last : ℕ) (nodes : List PlainNode) → Each (λ x. x.last ≡ last) (pieces_between first last nodes)
end_with first last [] = tt
end_with first last (a ∷ []) = tt
end_with first last (a ∷ b ∷ nodes) = (refl, end_with first last (b ∷ nodes))

-- ---- in all segments

own_later : (t : ℕ) (a : Segment) → t ≤ a.first.micros → Each (λ x. t ≤ x.first) (pieces_of_segment (plain_segment a))
own_later t a le =
    Each-weaker (λ x. x.first ≡ a.first.micros) (λ x. t ≤ x.first) (λ x e. omega arith) (pieces_of_segment (plain_segment a)) (begin_with a.first.micros a.last.micros (map plain_node a.nodes))

begin_later : (t : ℕ) (a : Segment) (segments : List Segment) → AreInOrder (a ∷ segments) → t ≤ a.first.micros → Each (λ x. t ≤ x.first) (pieces_through (a ∷ segments))
begin_later t a [] order le = Each-append (λ x. t ≤ x.first) (pieces_of_segment (plain_segment a)) [] (own_later t a le) tt
begin_later t a (b ∷ segments) order le =
    Each-append (λ x. t ≤ x.first) (pieces_of_segment (plain_segment a)) (pieces_through (b ∷ segments)) (own_later t a le) (begin_later t b segments order.1 (omega (arith, order.0, a.some)))

pub in_order : (segments : List Segment) → AreInOrder segments → Each (λ s. AreNodes s.nodes) segments → Ordered EndsBefore (pieces_through segments)
in_order [] order nodes = tt
in_order (a ∷ []) order nodes =
    Ordered-append EndsBefore (pieces_of_segment (plain_segment a)) [] (in_segment a.first.micros a.last.micros a.nodes nodes.0.steps) tt
    (Each-always (λ x. Unit {0}) (λ x. tt) (pieces_of_segment (plain_segment a)))
in_order (a ∷ b ∷ segments) order nodes =
    Ordered-append EndsBefore (pieces_of_segment (plain_segment a)) (pieces_through (b ∷ segments)) (in_segment a.first.micros a.last.micros a.nodes nodes.0.steps)
    (in_order (b ∷ segments) order.1 nodes.1)
    (Each-weaker (λ x. x.last ≡ a.last.micros) (λ x. Each (EndsBefore x) (pieces_through (b ∷ segments)))
    (λ x e. Each-weaker (λ y. b.first.micros ≤ y.first) (EndsBefore x) (λ y le. inr (omega (arith, order.0))) (pieces_through (b ∷ segments))
    (begin_later b.first.micros b segments order.1 (omega arith)))
    (pieces_of_segment (plain_segment a)) (end_with a.first.micros a.last.micros (map plain_node a.nodes)))

-- ---- at a tick

ordered_at : (R : PlainPiece → PlainPiece → Type 0) (xs : List PlainPiece) (i j : ℕ) (x y : PlainPiece) → Ordered R xs → i < j → slice_get xs i ≡ Some x → slice_get xs j ≡ Some y → R x y
ordered_at R [] i j x y order less is there = absurd cc
ordered_at R (z ∷ xs) i zero x y order less is there = absurd (omega arith)
ordered_at R (z ∷ xs) zero (suc j) x y order less is there = let same : z ≡ x = cc in subst (λ (w : PlainPiece). R w y) same (each_at (R z) xs j y order.0 there)
ordered_at R (z ∷ xs) (suc i) (suc j) x y order less is there = ordered_at R xs i j x y order.1 (omega arith) is there

-- a tick at which a piece is used has no piece of a later one behind it
apart : (e : PlainTrack) → Ordered EndsBefore (pieces_of e) → (m n i j : ℕ) → m ≤ n → piece_at e m ≡ Some i → piece_at e n ≡ Some j → j < i → ⊥
apart e order m n i j le here there less = elim (state e m) [
  | lacks unnumbered none ↦ absurd cc
  | has k x is ↦ elim (state e n) [
    | lacks unnumbered none ↦ absurd cc
    | has l y is' ↦
        let numbered = is.numbered in
        let numbered' = is'.numbered in
        let first : k ≡ i = cc in
        let second : l ≡ j = cc in
        let covers = is.covers in
        let covers' = is'.covers in
        let same : m ≡ n =
        elim (ordered_at EndsBefore (pieces_of e) l k y x order (omega arith) is'.place is.place) [
          | inl nodes ↦ omega (arith, covers.from, covers'.to)
          | inr span ↦ omega (arith, covers.first, covers'.last)
        ] in
        let again : piece_at e n ≡ Some i = subst (λ (t : ℕ). piece_at e t ≡ Some i) same here in
        let one : i ≡ j = cc in
        omega arith
  ]
]

pub in_time : (e : PlainTrack) → Ordered EndsBefore (pieces_of e) → Each Rises (pieces_of e) → (from to : ℕ) → AreInTime e from to
in_time e order rise from to m low high = record {
  rises = elim (state e m) [
    | lacks unnumbered none ↦ subst (λ (o : Option PlainPiece). IfSome o Rises) (sym none) tt
    | has k x is ↦ subst (λ (o : Option PlainPiece). IfSome o Rises) (sym is.at) (each_at Rises (pieces_of e) k x rise is.place)
  ];
  later = λ n i j le here there. elim (cases_lt j i) [ inl less ↦ absurd (apart e order m n i j le here there less) | inr upto ↦ upto ];
}

-- ---- one by one

pub one_more : {X : Type 0} (P : X → Type 0) (i : ℕ) (xs : List X) (x : X) → i < length xs → x ≡ get_or xs i x → All P (take i xs) → P x → All P (take (i + 1) xs)
one_more {X = X} P i xs x lt is all here =
    All-same P (take (i + 1) xs) (take i xs ++ x ∷ []) (take_more xs i x lt ∙ ap (λ (y : X). take i xs ++ y ∷ []) (sym is)) (All-push P (take i xs) x all here)
