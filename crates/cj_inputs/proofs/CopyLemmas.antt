-- Copies say what their originals say.
use Rattle.std.proofs.Common.{◌≡◌, ℕ, ◌+◌, ◌<◌, ◌≤◌, List, [], ◌∷◌, ◌++◌, length, map, take, get_or, sym, ap, ◌∙◌, arith}
use Rattle.std.proofs.lemmas.List.{length-map, map-append, take_all, take_more}
use Rattle.std.proofs.lemmas.List.Sums.{sum_by-cons}
use Rattle.cj_track.specs.PlainTracks.{PlainNode, PlainSegment}
use Rattle.cj_track.specs.Segments.{AreInOrder, AreSegments, node_count}
use Rattle.cj_track.specs.Tracks.{plain_node, plain_segment}
use Rattle.cj_track.specs.declared.segment.Segment.{Segment}

-- one more copy
pub copies_more : {X Y : Type 0} (f : X → Y) (at : ℕ) (xs done more : List X) (x copy : X) → at < length xs → x ≡ get_or xs at x → f copy ≡ f x → more ≡ done ++ copy ∷ []
    → map f done ≡ map f (take at xs) → map f more ≡ map f (take (at + 1) xs)
copies_more {X} {Y} f at xs done more x copy below is same all so =
    ap (λ (ys : List X). map f ys) all
    ∙ map-append f done (copy ∷ [])
    ∙ ap (λ (ys : List Y). ys ++ f copy ∷ []) so
    ∙ ap (λ (y : Y). map f (take at xs) ++ y ∷ []) same
    ∙ sym (map-append f (take at xs) (x ∷ []))
    ∙ ap (λ (ys : List X). map f ys) (sym (take_more xs at x below ∙ ap (λ (y : X). take at xs ++ y ∷ []) (sym is)))

-- copies of all
pub copies_all : {X Y : Type 0} (f : X → Y) (at : ℕ) (xs done : List X) → length xs ≤ at → map f done ≡ map f (take at xs) → map f done ≡ map f xs
copies_all {X} f at xs done past so = so ∙ ap (λ (ys : List X). map f ys) (take_all at xs past)

abbrev first_of : PlainSegment → List PlainSegment → PlainSegment
first_of d [] = d
first_of d (s ∷ segments) = s

abbrev others : List PlainSegment → List PlainSegment
others [] = []
others (s ∷ segments) = segments

copied_order : (segments copies : List Segment) → map plain_segment copies ≡ map plain_segment segments → AreInOrder segments → AreInOrder copies
copied_order segments [] is order = tt
copied_order segments (k ∷ []) is order = tt
copied_order [] (k ∷ j ∷ copies) is order = absurd cc
copied_order (s ∷ []) (k ∷ j ∷ copies) is order = let none : plain_segment j ∷ map plain_segment copies ≡ [] = ap others is in absurd cc
copied_order (s ∷ t ∷ segments) (k ∷ j ∷ copies) is order =
    let tail : map plain_segment (j ∷ copies) ≡ map plain_segment (t ∷ segments) = ap others is in
    let one : k.last.micros ≡ s.last.micros = ap (λ (xs : List PlainSegment). (first_of (plain_segment k) xs).last) is in
    let two : j.first.micros ≡ t.first.micros = ap (λ (xs : List PlainSegment). (first_of (plain_segment j) xs).first) tail in
    (omega (arith, order.0, one, two), copied_order (t ∷ segments) (j ∷ copies) tail order.1)

copied_count : (segments copies : List Segment) → map plain_segment copies ≡ map plain_segment segments → node_count copies ≡ node_count segments
copied_count [] [] is = omega arith
copied_count [] (k ∷ copies) is = absurd cc
copied_count (s ∷ segments) [] is = absurd cc
copied_count (s ∷ segments) (k ∷ copies) is =
    let tail : map plain_segment copies ≡ map plain_segment segments = ap others is in
    let here : map plain_node k.nodes ≡ map plain_node s.nodes = ap (λ (xs : List PlainSegment). (first_of (plain_segment k) xs).nodes) is in
    let counts : length (map plain_node k.nodes) ≡ length (map plain_node s.nodes) = ap (λ (xs : List PlainNode). length xs) here in
    let own : length k.nodes ≡ length s.nodes = omega (arith, counts, length-map k.nodes plain_node, length-map s.nodes plain_node) in
    let one : node_count (k ∷ copies) ≡ length k.nodes + node_count copies = sum_by-cons (λ (segment : Segment). length segment.nodes) k copies in
    let two : node_count (s ∷ segments) ≡ length s.nodes + node_count segments = sum_by-cons (λ (segment : Segment). length segment.nodes) s segments in
    omega (arith, own, one, two, copied_count segments copies tail)

-- copies of segments follow the rule of segments
pub copied_segments : (segments copies : List Segment) → map plain_segment copies ≡ map plain_segment segments → AreSegments segments → AreSegments copies
copied_segments segments copies is are = record {
  some =
      let counts : length (map plain_segment copies) ≡ length (map plain_segment segments) = ap (λ (xs : List PlainSegment). length xs) is in
      omega (arith, are.some, counts, length-map copies plain_segment, length-map segments plain_segment);
  order = copied_order segments copies is are.order;
  few = omega (arith, are.few, copied_count segments copies is);
}
