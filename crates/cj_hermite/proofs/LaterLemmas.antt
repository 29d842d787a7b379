-- No tick behind one has a piece before that one's.
use Rattle.std.proofs.Common.{◌≡◌, ℕ, zero, suc, ◌+◌, ◌-◌, ◌<◌, ◌≤◌, ◌⊎◌, inl, inr, List, [], ◌∷◌, length, get_or, map, Some, sym, ap, ◌∙◌, subst, arith}
use Rattle.std.specs.Prelude.{slice_get}
use Rattle.std.proofs.lemmas.Bool.{cases_lt}
use Rattle.cj_track.specs.declared.node.Node.{Node}
use Rattle.cj_track.specs.declared.segment.Segment.{Segment}
use Rattle.cj_track.specs.PlainTracks.{PlainNode, PlainTrack}
use Rattle.cj_track.specs.Nodes.{AreSteps, AreNodes}
use Rattle.cj_track.specs.Segments.{AreInOrder, piece_count, starts_from}
use Rattle.cj_track.specs.Tracks.{plain_segment, plain_node}
use Rattle.cj_hermite.specs.Pieces.{PlainPiece, pieces_between, pieces_of_segment, pieces_of, piece_at}
use Rattle.cj_hermite.specs.Searches.{IsLastBegun, IsFromNode}
use Rattle.cj_hermite.proofs.PieceLemmas.{piece_between, pieces_in, pieces_through, from_node, count-pieces, slice_get-append_left, slice_get-append_right}
use Rattle.cj_hermite.proofs.SearchLemmas.{nodes_rise, in_order}
use Rattle.cj_hermite.proofs.StateLemmas.{has, lacks, state}

-- the piece covers no tick behind m
abbrev EndsBy : ℕ → PlainPiece → Type 0
EndsBy m y = (y.to.at ≤ m) ⊎ (y.last ≤ m)

-- each piece before the node from which tick m is reached
in_nodes : (m first last i j : ℕ) (nodes : List Node) (y : PlainPiece) → AreSteps nodes → ((d : Node) → IsFromNode m nodes i d) → j < i → slice_get (pieces_in first last nodes) j ≡ Some y → EndsBy m y
in_nodes m first last i j [] y steps from less is = absurd cc
in_nodes m first last i j (a ∷ nodes) y steps from less is =
    let reached = from a in
    let read : slice_get (pieces_in first last (a ∷ nodes)) j ≡ Some (piece_between first last (get_or (a ∷ nodes) j a) (get_or (a ∷ nodes) (suc j) a)) =
    from_node first last j (a ∷ nodes) a (omega (arith, reached.exists)) in
    let same : piece_between first last (get_or (a ∷ nodes) j a) (get_or (a ∷ nodes) (suc j) a) ≡ y = cc in
    let le = nodes_rise (a ∷ nodes) steps (suc j) i a (omega arith) (omega (arith, reached.exists)) in
    inl (omega (arith, ap (λ (x : PlainPiece). x.to.at) same, reached.from, le))

-- the pieces of a segment end with its useable span
ends_with : (first last j : ℕ) (nodes : List PlainNode) (y : PlainPiece) → slice_get (pieces_between first last nodes) j ≡ Some y → y.last ≡ last
ends_with first last j [] y is = absurd cc
ends_with first last j (a ∷ []) y is = absurd cc
ends_with first last zero (a ∷ b ∷ nodes) y is =
    let x : PlainPiece = record { from = a; to = b; first = first; last = last } in
    let same : x ≡ y = cc in
    sym (ap (λ (z : PlainPiece). z.last) same)
ends_with first last (suc j) (a ∷ b ∷ nodes) y is = ends_with first last j (b ∷ nodes) y is

-- each piece before the one that is found at tick m
before_found : (m n k i j : ℕ) (segments : List Segment) (d : Segment) (y : PlainPiece) → AreInOrder segments → k < length segments → (get_or segments k d).first.micros ≤ m
    → AreSteps (get_or segments k d).nodes → ((e : Node) → IsFromNode m (get_or segments k d).nodes i e) → i ≤ piece_count (get_or segments k d)
    → n + j < get_or (starts_from n segments) k 0 + i → slice_get (pieces_through segments) j ≡ Some y → EndsBy m y
before_found m n k i j [] d y order below begun steps from within less is = absurd (omega arith)
before_found m n zero i j (a ∷ segments) d y order below begun steps from within less is =
    let here : n + j < n + i = less in
    let short : i ≤ piece_count a = within in
    in_nodes m a.first.micros a.last.micros i j a.nodes y steps from (omega arith)
    (sym (slice_get-append_left (pieces_of_segment (plain_segment a)) (pieces_through segments) j (omega (arith, count-pieces a))) ∙ is)
before_found m n (suc k) i j (a ∷ []) d y order below begun steps from within less is = absurd (omega arith)
before_found m n (suc k) i j (a ∷ b ∷ segments) d y order below begun steps from within less is = elim (cases_lt j (length (pieces_of_segment (plain_segment a)))) [
  | inl own ↦
      let at : slice_get (pieces_of_segment (plain_segment a)) j ≡ Some y = sym (slice_get-append_left (pieces_of_segment (plain_segment a)) (pieces_through (b ∷ segments)) j own) ∙ is in
      let le : a.last.micros ≤ (get_or (b ∷ segments) k d).first.micros = in_order (a ∷ b ∷ segments) 0 (suc k) d order (omega arith) below in
      let start : (get_or (b ∷ segments) k d).first.micros ≤ m = begun in
      inr (omega (arith, ends_with a.first.micros a.last.micros j (map plain_node a.nodes) y at))
  | inr later ↦
      let sum : n + j < get_or (starts_from (n + piece_count a) (b ∷ segments)) k 0 + i = less in
      before_found m (n + piece_count a) k i (j - length (pieces_of_segment (plain_segment a))) (b ∷ segments) d y order.1 (omega arith) begun steps from within (omega (arith, count-pieces a))
      (sym (slice_get-append_right (pieces_of_segment (plain_segment a)) (pieces_through (b ∷ segments)) (j - length (pieces_of_segment (plain_segment a))) j (omega arith)) ∙ is)
]

-- the numbers of later ticks
later_numbers : (e : PlainTrack) (m number : ℕ) → piece_at e m ≡ Some number → ((j : ℕ) (y : PlainPiece) → j < number → slice_get (pieces_of e) j ≡ Some y → EndsBy m y)
    → (n j : ℕ) → m ≤ n → piece_at e n ≡ Some j → number ≤ j
later_numbers e m number here before n j after there = elim (cases_lt j number) [
  | inr le ↦ le
  | inl less ↦ elim (state e n) [
    | lacks unnumbered none ↦ absurd cc
    | has k y found ↦
        let numbered = found.numbered in
        let one : k ≡ j = cc in
        let ended = before j y less (subst (λ (i : ℕ). slice_get (pieces_of e) i ≡ Some y) one found.place) in
        let ticks = found.covers in
        let same : m ≡ n = elim ended [ inl to ↦ omega (arith, ticks.to) | inr last ↦ omega (arith, ticks.last) ] in
        let again : piece_at e n ≡ Some number = subst (λ (i : ℕ). piece_at e i ≡ Some number) same here in
        let number_is : number ≡ j = cc in
        omega arith
  ]
]

-- from a node of the last segment that has begun
pub later_than_found : (m k i : ℕ) (e : PlainTrack) (segments : List Segment) (s : Segment) → pieces_of e ≡ pieces_through segments → AreInOrder segments → IsLastBegun m segments k → s ≡ get_or segments k s
    → AreNodes s.nodes → ((d : Node) → IsFromNode m s.nodes i d) → piece_at e m ≡ Some (get_or (starts_from 0 segments) k 0 + i)
    → (n j : ℕ) → m ≤ n → piece_at e n ≡ Some j → get_or (starts_from 0 segments) k 0 + i ≤ j
later_than_found m k i e segments s all order last is are from here =
    later_numbers e m (get_or (starts_from 0 segments) k 0 + i) here (λ j y less at.
    before_found m 0 k i j segments s y order last.exists (last.begun s) (subst (λ (t : Segment). AreSteps t.nodes) is are.steps) (subst (λ (t : Segment). (d : Node) → IsFromNode m t.nodes i d) is from)
    (subst (λ (t : Segment). i ≤ piece_count t) is (within s.nodes are from)) (omega arith) (subst (λ (xs : List PlainPiece). slice_get xs j ≡ Some y) all at))
  where
    within : (nodes : List Node) → AreNodes nodes → ((d : Node) → IsFromNode m nodes i d) → i ≤ length nodes - 1
    within [] are f = absurd (omega (arith, are.enough))
    within (a ∷ nodes) are f = omega (arith, (f a).exists)
