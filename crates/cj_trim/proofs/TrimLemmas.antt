-- A track without the states that no tick of a window needs, as a program makes it.
use Rattle.std.proofs.Common.{◌≡◌, ℕ, ◌+◌, ◌<◌, ◌≤◌, List, [], ◌∷◌, ◌++◌, map, length, get_or, take, drop, append_assoc, append-nil, length-append, refl, ap, sym, ◌∙◌, subst, arith}
use Rattle.std.specs.List.{All}
use Rattle.std.proofs.lemmas.List.{length-map, drop_more, take_more, drop_all, map_push}
use Rattle.std.proofs.lemmas.List.Elements.{All-push}
use Rattle.std.proofs.lemmas.List.Sums.{sum_by-cons}
use Rattle.cj_interval.proofs.ListLemmas.{Each-map, Each-weaker, each_from_All}
use Rattle.cj_track.specs.declared.node.Node.{Node}
use Rattle.cj_track.specs.declared.segment.Segment.{Segment}
use Rattle.cj_track.specs.declared.track.Track.{Track}
use Rattle.cj_track.specs.Nodes.{AreSteps, AreNodes}
use Rattle.cj_track.specs.Segments.{AreInOrder, AreSegments, node_count}
use Rattle.cj_track.specs.PlainTracks.{PlainNode, PlainMatrix, PlainSegment}
use Rattle.cj_track.specs.Tracks.{plain_node, plain_segment, plain_track}
use Rattle.cj_track.specs.Useable.{LiesWithin, last_tick}
use Rattle.cj_trim.specs.Same.{HasRun, IsSameWithin}
use Rattle.cj_trim.specs.Trimmed.{first_left, last_left, needed, trimmed_segment, trimmed}
use Rattle.cj_trim.proofs.SameLemmas.{Rise, last_of, FromTo, IsSound, left_from, left_to, needed_run, same_within}

-- ---- what is known of a track's nodes

rises : (nodes : List Node) → AreSteps nodes → Rise (map plain_node nodes)
rises [] h = tt
rises (a ∷ []) h = tt
rises (a ∷ b ∷ nodes) h = (h.0.rises, rises (b ∷ nodes) h.1)

last_is : (a : Node) (path : List Node) → (last_of (plain_node a) (map plain_node path)).at ≡ last_tick a.at.micros path
last_is a [] = refl
last_is a (b ∷ path) = last_is b path

sound : (s : Segment) → AreNodes s.nodes → IsSound (plain_segment s)
sound s are = record {
  enough = omega (arith, are.enough, length-map s.nodes plain_node);
  some = s.some;
  rise = rises s.nodes are.steps;
  round = λ m after before. all_round s.first.micros s.last.micros m s.nodes are.enough s.within after before;
}
  where
    all_round : (f l m : ℕ) (nodes : List Node) → 2 ≤ length nodes → LiesWithin f l nodes → f ≤ m → m ≤ l → FromTo m (map plain_node nodes)
    all_round f l m [] enough within after before = absurd (omega (arith, enough))
    all_round f l m (a ∷ nodes) enough within after before = (omega (arith, within.from, after), omega (arith, within.to, before, last_is a nodes))

-- a track whose segments' nodes follow their rule
pub track_same : (first last : ℕ) (t : Track) → All (λ (s : Segment). AreNodes s.nodes) t.segments → IsSameWithin first last (plain_track t) (trimmed first last (plain_track t))
track_same first last t are =
    same_within first last (plain_track t)
    (Each-map IsSound plain_segment t.segments (Each-weaker (λ s. AreNodes s.nodes) (λ s. IsSound (plain_segment s)) sound t.segments (each_from_All (λ (s : Segment). AreNodes s.nodes) t.segments are)))

-- nodes round a span lie round each part of it
pub round_part : (f l g h : ℕ) (nodes all : List Node) → nodes ≡ all → 2 ≤ length all → LiesWithin f l all → f ≤ g → h ≤ l → LiesWithin g h nodes
round_part f l g h nodes [] is enough within from to = absurd (omega (arith, enough))
round_part f l g h nodes (a ∷ rest) is enough within from to =
    subst (LiesWithin g h) (sym is) (record { from = omega (arith, within.from, from); to = omega (arith, within.to, to) })

-- segments are one where their ends, states and covariances are
pub same_segment : (f g l h : ℕ) (ns ms : List PlainNode) (cs ds : List PlainMatrix) → f ≡ g → l ≡ h → ns ≡ ms → cs ≡ ds →
    ◌≡◌ {A = PlainSegment} (record { first = f; last = l; nodes = ns; covariances = cs }) (record { first = g; last = h; nodes = ms; covariances = ds })
same_segment f g l h ns ms cs ds p q r u = λ i. record { first = p i; last = q i; nodes = r i; covariances = u i }

-- ---- the rule of segments

-- of two lists that are the same, the first elements and the others
abbrev first_of : PlainSegment → List PlainSegment → PlainSegment
first_of d [] = d
first_of d (s ∷ segments) = s

abbrev others : List PlainSegment → List PlainSegment
others [] = []
others (s ∷ segments) = segments

left_order : (first last : ℕ) (segments ks : List Segment) → map plain_segment ks ≡ map (trimmed_segment first last) (map plain_segment segments) → AreInOrder segments → AreInOrder ks
left_order first last segments [] is order = tt
left_order first last segments (k ∷ []) is order = tt
left_order first last [] (k ∷ j ∷ ks) is order = absurd cc
left_order first last (s ∷ []) (k ∷ j ∷ ks) is order = let none : plain_segment j ∷ map plain_segment ks ≡ [] = ap others is in absurd cc
left_order first last (s ∷ t ∷ segments) (k ∷ j ∷ ks) is order =
    let tail : map plain_segment (j ∷ ks) ≡ map (trimmed_segment first last) (map plain_segment (t ∷ segments)) = ap others is in
    let one : k.last.micros ≡ last_left first last (plain_segment s) = ap (λ (xs : List PlainSegment). (first_of (plain_segment k) xs).last) is in
    let two : j.first.micros ≡ first_left first last (plain_segment t) = ap (λ (xs : List PlainSegment). (first_of (plain_segment j) xs).first) tail in
    let upper : last_left first last (plain_segment s) ≤ s.last.micros = left_to first last (plain_segment s) s.some in
    let lower : t.first.micros ≤ first_left first last (plain_segment t) = left_from first last (plain_segment t) in (
      omega (arith, order.0, one, two, upper, lower),
      left_order first last (t ∷ segments) (j ∷ ks) tail order.1,
    )

run_fewer : (all run : List PlainNode) → HasRun all run → length run ≤ length all
run_fewer all run has =
    let counts : length all ≡ length (has.before ++ (run ++ has.behind)) = ap (λ (ns : List PlainNode). length ns) has.whole in
    omega (arith, counts, length-append has.before (run ++ has.behind), length-append run has.behind)

left_count : (first last : ℕ) (segments ks : List Segment) → map plain_segment ks ≡ map (trimmed_segment first last) (map plain_segment segments) → node_count ks ≤ node_count segments
left_count first last segments [] is = omega arith
left_count first last [] (k ∷ ks) is = absurd cc
left_count first last (s ∷ segments) (k ∷ ks) is =
    let p = plain_segment s in
    let tail : map plain_segment ks ≡ map (trimmed_segment first last) (map plain_segment segments) = ap others is in
    let here : map plain_node k.nodes ≡ needed (first_left first last p) (last_left first last p) (map plain_node s.nodes) = ap (λ (xs : List PlainSegment). (first_of (plain_segment k) xs).nodes) is in
    let counts : length (map plain_node k.nodes) ≡ length (needed (first_left first last p) (last_left first last p) (map plain_node s.nodes)) = ap (λ (xs : List PlainNode). length xs) here in
    let fewer = run_fewer (map plain_node s.nodes) (needed (first_left first last p) (last_left first last p) (map plain_node s.nodes)) (needed_run (first_left first last p) (last_left first last p) (map plain_node s.nodes)) in
    let own : length k.nodes ≤ length s.nodes = omega (arith, counts, fewer, length-map k.nodes plain_node, length-map s.nodes plain_node) in
    let one : node_count (k ∷ ks) ≡ length k.nodes + node_count ks = sum_by-cons (λ (segment : Segment). length segment.nodes) k ks in
    let two : node_count (s ∷ segments) ≡ length s.nodes + node_count segments = sum_by-cons (λ (segment : Segment). length segment.nodes) s segments in
    omega (arith, own, one, two, left_count first last segments ks tail)

pub left_segments : (first last : ℕ) (segments ks : List Segment) → map plain_segment ks ≡ map (trimmed_segment first last) (map plain_segment segments) → AreSegments segments → AreSegments ks
left_segments first last segments ks is are = record {
  some =
      let counts : length (map plain_segment ks) ≡ length (map (trimmed_segment first last) (map plain_segment segments)) = ap (λ (xs : List PlainSegment). length xs) is in
      omega (arith, are.some, counts, length-map ks plain_segment, length-map segments plain_segment, length-map (map plain_segment segments) (trimmed_segment first last));
  order = left_order first last segments ks is are.order;
  few = omega (arith, are.few, left_count first last segments ks is);
}

-- segment by segment: what there is, then what comes of those that are left, is the whole
pub segments_more : (first last at : ℕ) (segments done more : List Segment) (s k : Segment) (whole : List PlainSegment) → at < length segments → s ≡ get_or segments at s →
    plain_segment k ≡ trimmed_segment first last (plain_segment s) → more ≡ done ++ k ∷ [] →
    map plain_segment done ++ map (trimmed_segment first last) (map plain_segment (drop at segments)) ≡ whole →
    map plain_segment more ++ map (trimmed_segment first last) (map plain_segment (drop (at + 1) segments)) ≡ whole
segments_more first last at segments done more s k whole lt is same all told =
    let rest = map (trimmed_segment first last) (map plain_segment (drop (at + 1) segments)) in
    let split : drop at segments ≡ s ∷ drop (at + 1) segments = drop_more segments at s lt ∙ ap (λ (x : Segment). x ∷ drop (at + 1) segments) (sym is) in
    ap (λ (ks : List Segment). map plain_segment ks ++ rest) all
    ∙ ap (λ (ks : List PlainSegment). ks ++ rest) (map_push plain_segment done k)
    ∙ append_assoc (map plain_segment done) (plain_segment k ∷ []) rest
    ∙ ap (λ (x : PlainSegment). map plain_segment done ++ x ∷ rest) same
    ∙ ap (λ (ss : List Segment). map plain_segment done ++ map (trimmed_segment first last) (map plain_segment ss)) (sym split)
    ∙ told

pub segments_all : (first last at : ℕ) (segments done : List Segment) (whole : List PlainSegment) → length segments ≤ at →
    map plain_segment done ++ map (trimmed_segment first last) (map plain_segment (drop at segments)) ≡ whole → map plain_segment done ≡ whole
segments_all first last at segments done whole le told =
    sym (append-nil (map plain_segment done)) ∙ ap (λ (ss : List Segment). map plain_segment done ++ map (trimmed_segment first last) (map plain_segment ss)) (sym (drop_all at segments le)) ∙ told

-- what is so of the elements so far, and of one more
pub all_more : {X : Type 0} (P : X → Type 0) (at : ℕ) (xs : List X) (x : X) → at < length xs → x ≡ get_or xs at x → P x → All P (take at xs) → All P (take (at + 1) xs)
all_more P at xs x lt is own all =
    let more : take (at + 1) xs ≡ take at xs ++ x ∷ [] = take_more xs at x lt ∙ ap (λ y. take at xs ++ y ∷ []) (sym is) in
    subst (All P) (sym more) (All-push P (take at xs) x all own)
