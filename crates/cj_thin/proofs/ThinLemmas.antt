-- A track with fewer nodes against the first one.
use Rattle.std.proofs.Common.{◌≡◌, ℕ, ◌+◌, ◌^◌, ◌<◌, ◌≤◌, true, false, List, [], ◌∷◌, ◌++◌, map, length, get_or, take, drop, append_assoc, append-nil, Option, refl, ap, sym, ◌∙◌, subst, inl, inr, arith}
use Rattle.std.specs.Prelude.{is_some, option_map}
use Rattle.std.specs.List.{All, AllZip, flat_map}
use Rattle.std.proofs.lemmas.Bool.{cases_lt}
use Rattle.std.proofs.lemmas.List.{length-map, drop_more, take_more, drop_all, map_push}
use Rattle.std.proofs.lemmas.List.Elements.{All-push}
use Rattle.std.proofs.lemmas.List.Sums.{sum_by-cons}
use Rattle.cj_interval.proofs.ListLemmas.{Each, Each-map, Each-weaker, each_from_All}
use Rattle.cj_track.specs.declared.node.Node.{Node}
use Rattle.cj_track.specs.declared.segment.Segment.{Segment}
use Rattle.cj_track.specs.declared.track.Track.{Track}
use Rattle.cj_track.specs.Nodes.{AreNodes}
use Rattle.cj_track.specs.Segments.{AreInOrder, AreSegments, node_count}
use Rattle.cj_track.specs.PlainTracks.{PlainNode, PlainSegment, PlainTrack}
use Rattle.cj_track.specs.Tracks.{plain_node, plain_segment, plain_track}
use Rattle.cj_track.specs.Useable.{LiesWithin, first_tick, last_tick}
use Rattle.cj_hermite.specs.Distance.{IsWithinAt}
use Rattle.cj_hermite.specs.Pieces.{PlainPiece, pieces_of_segment, pieces_of, last_covering, piece_holding, OfBothAt}
use Rattle.cj_hermite.proofs.CoverLemmas.{Misses, misses-append, last_none}
use Rattle.cj_hermite.proofs.PieceLemmas.{later_span, earlier_span}
use Rattle.cj_thin.specs.Thinned.{kept, thinned_segment, thinned}
use Rattle.cj_thin.specs.Within.{IsThinner, one, step, IsThinnerWithin}
use Rattle.cj_thin.proofs.StepLemmas.{ArePlainSteps, plain_steps, steps_from_plain, last_is}
use Rattle.cj_thin.proofs.KeptLemmas as kept_lemmas
use Rattle.cj_thin.proofs.KeptLemmas.{Thins, thins, kept_steps, kept_fewer}
use Rattle.cj_thin.proofs.CoveredLemmas.{AreCovered, FromTo, covered_before, covered_behind, covered_alike}

-- a segment whose states are steps, two or more, and lie round its useable span
pub record IsSound (s : PlainSegment) : Type 0 where
  pub enough : 2 ≤ length s.nodes
  pub steps : ArePlainSteps s.nodes
  pub round : (m : ℕ) → s.first ≤ m → m ≤ s.last → FromTo m s.nodes

pub sound : (s : Segment) → AreNodes s.nodes → IsSound (plain_segment s)
sound s are = record {
  enough = long s.nodes are.enough;
  steps = plain_steps s.nodes are.steps;
  round = λ m after before. all_round s.first.micros s.last.micros m s.nodes are.enough s.within after before;
}
  where
    long : (nodes : List Node) → 2 ≤ length nodes → 2 ≤ length (map plain_node nodes)
    long [] h = absurd (omega (arith, h))
    long (a ∷ []) h = absurd (omega (arith, h))
    long (a ∷ b ∷ nodes) h = omega arith

    all_round : (f l m : ℕ) (nodes : List Node) → 2 ≤ length nodes → LiesWithin f l nodes → f ≤ m → m ≤ l → FromTo m (map plain_node nodes)
    all_round f l m [] enough within after before = absurd (omega (arith, enough))
    all_round f l m (a ∷ nodes) enough within after before = (omega (arith, within.from, after), omega (arith, within.to, before, last_is a nodes))

-- what is kept of such a segment's states
pub kept_of : (e : ℕ) (nodes : List PlainNode) → 2 ≤ length nodes → Thins e nodes (kept e nodes)
kept_of e [] enough = absurd (omega (arith, enough))
kept_of e (a ∷ behind) enough = thins e (length behind) a behind (omega arith) (omega (arith, enough))

pub thinner : (e : ℕ) (xs ys : List PlainNode) → Thins e xs ys → IsThinner xs ys
thinner e _ _ (kept_lemmas.last a b out may) = step a out [] [] b (one b)
thinner e _ _ (kept_lemmas.step a b out xs ys may rest) = step a out xs ys b (thinner e (b ∷ xs) (b ∷ ys) rest)

-- at a tick no piece of either list covers it, or the last ones that do are near
pub data Alike (e m : ℕ) (xs ys : List PlainPiece) : Type 0 where
  neither : Misses m xs → Misses m ys → Alike e m xs ys
  both : ((n k : ℕ) → AreCovered e m n k xs ys) → Alike e m xs ys

segment_alike : (e m : ℕ) (s : PlainSegment) → 10 ^ 9 ≤ e → IsSound s → Alike e m (pieces_of_segment s) (pieces_of_segment (thinned_segment e s))
segment_alike e m s big is = elim (cases_lt m s.first) [
  | inl early ↦ neither (later_span m s.first s.last s.nodes early) (later_span m s.first s.last (kept e s.nodes) early)
  | inr after ↦ elim (cases_lt s.last m) [
    | inl late ↦ neither (earlier_span m s.first s.last s.nodes late) (earlier_span m s.first s.last (kept e s.nodes) late)
    | inr before ↦ both (covered_alike e m s.first s.last s.nodes (kept e s.nodes) big (kept_of e s.nodes is.enough) is.steps after before (is.round m after before))
  ]
]

more_alike : (e m : ℕ) (xs ys us bs : List PlainPiece) → Alike e m xs ys → Alike e m us bs → Alike e m (xs ++ us) (ys ++ bs)
more_alike e m xs ys us bs here (both behind) = both (λ n k. covered_behind e m n k us bs xs ys (behind (n + length xs) (k + length ys)))
more_alike e m xs ys us bs (both here) (neither h j) = both (λ n k. covered_before e m n k xs ys us bs h j (here n k))
more_alike e m xs ys us bs (neither p q) (neither h j) = neither (misses-append m xs us p h) (misses-append m ys bs q j)

alike : (e m : ℕ) (segments : List PlainSegment) → 10 ^ 9 ≤ e → Each IsSound segments → Alike e m (flat_map pieces_of_segment segments) (flat_map pieces_of_segment (map (thinned_segment e) segments))
alike e m [] big are = neither tt tt
alike e m (s ∷ segments) big are =
    more_alike e m (pieces_of_segment s) (pieces_of_segment (thinned_segment e s)) (flat_map pieces_of_segment segments) (flat_map pieces_of_segment (map (thinned_segment e) segments))
    (segment_alike e m s big are.0) (alike e m segments big are.1)

all_thinner : (e : ℕ) (segments : List PlainSegment) → Each IsSound segments → AllZip IsThinner (map (λ s. s.nodes) segments) (map (λ s. s.nodes) (map (thinned_segment e) segments))
all_thinner e [] are = tt
all_thinner e (s ∷ segments) are = let is = are.0 in (thinner e s.nodes (kept e s.nodes) (kept_of e s.nodes is.enough), all_thinner e segments are.1)

same_of_each : {X : Type 0} (f : PlainSegment → X) (e : ℕ) → ((s : PlainSegment) → f (thinned_segment e s) ≡ f s) → (segments : List PlainSegment) → map f (map (thinned_segment e) segments) ≡ map f segments
same_of_each f e same [] = refl
same_of_each f e same (s ∷ segments) = λ i. same s i ∷ same_of_each f e same segments i

-- what it says of the pieces at a tick
states_alike : (e m : ℕ) (t u : PlainTrack) → Alike e m (pieces_of t) (pieces_of u) → is_some (piece_holding u m) ≡ is_some (piece_holding t m)
unfolding piece_holding
states_alike e m t u (neither h j) =
    ap (λ (o : Option (ℕ × PlainPiece)). is_some (option_map (λ x. x.1) o)) (last_none m 0 (pieces_of u) j)
    ∙ sym (ap (λ (o : Option (ℕ × PlainPiece)). is_some (option_map (λ x. x.1) o)) (last_none m 0 (pieces_of t) h))
states_alike e m t u (both c) =
    let here = c 0 0 in
    ap (λ (o : Option (ℕ × PlainPiece)). is_some (option_map (λ x. x.1) o)) here.second
    ∙ sym (ap (λ (o : Option (ℕ × PlainPiece)). is_some (option_map (λ x. x.1) o)) here.first)

near_alike : (e m : ℕ) (t u : PlainTrack) → Alike e m (pieces_of t) (pieces_of u) → is_some (piece_holding t m) ≡ true → OfBothAt t u m (λ c d. IsWithinAt c d e m)
unfolding piece_holding
near_alike e m t u (neither h j) some =
    let none : is_some (option_map (λ x. x.1) (last_covering m 0 (pieces_of t))) ≡ false = ap (λ (o : Option (ℕ × PlainPiece)). is_some (option_map (λ x. x.1) o)) (last_none m 0 (pieces_of t) h) in
    absurd cc
near_alike e m t u (both c) some =
    let here = c 0 0 in
    let first = here.first in
    let second = here.second in
    rw (first, second) here.near

-- what stands for a track with fewer nodes is within the length of it
pub within_length : (e : ℕ) (t : PlainTrack) → 10 ^ 9 ≤ e → Each IsSound t.segments → IsThinnerWithin e t (thinned e t)
within_length e t big are = record {
  file = refl;
  name = refl;
  id = refl;
  frame = refl;
  first = same_of_each (λ s. s.first) e (λ s. refl) t.segments;
  last = same_of_each (λ s. s.last) e (λ s. refl) t.segments;
  covariances = same_of_each (λ s. s.covariances) e (λ s. refl) t.segments;
  nodes = all_thinner e t.segments are;
  states = λ m. states_alike e m t (thinned e t) (alike e m t.segments big are);
  near = λ m some. near_alike e m t (thinned e t) (alike e m t.segments big are) some;
}

-- ---- what a program keeps of nodes and segments

-- the ticks of the first and of the last state, or a given one where there is none
abbrev first_at : ℕ → List PlainNode → ℕ
first_at d [] = d
first_at d (a ∷ path) = a.at

abbrev last_at : ℕ → List PlainNode → ℕ
last_at d [] = d
last_at d (a ∷ path) = last_at a.at path

first_is : (d : ℕ) (nodes : List Node) → first_tick d nodes ≡ first_at d (map plain_node nodes)
first_is d [] = refl
first_is d (a ∷ nodes) = refl

end_at : (d : ℕ) (nodes : List Node) → last_tick d nodes ≡ last_at d (map plain_node nodes)
end_at d [] = refl
end_at d (a ∷ nodes) = end_at a.at.micros nodes

behind_out : (d : ℕ) (b : PlainNode) (out xs : List PlainNode) → last_at d (out ++ b ∷ xs) ≡ last_at b.at xs
behind_out d b [] xs = refl
behind_out d b (c ∷ out) xs = behind_out c.at b out xs

same_first : (e d : ℕ) (xs ys : List PlainNode) → Thins e xs ys → first_at d xs ≡ first_at d ys
same_first e d _ _ (kept_lemmas.last a b out may) = refl
same_first e d _ _ (kept_lemmas.step a b out xs ys may rest) = refl

same_last : (e d : ℕ) (xs ys : List PlainNode) → Thins e xs ys → last_at d xs ≡ last_at d ys
same_last e d _ _ (kept_lemmas.last a b out may) = behind_out a.at b out []
same_last e d _ _ (kept_lemmas.step a b out xs ys may rest) = behind_out a.at b out xs ∙ same_last e a.at (b ∷ xs) (b ∷ ys) rest

two_kept : (e : ℕ) (xs ys : List PlainNode) → Thins e xs ys → 2 ≤ length ys
two_kept e _ _ (kept_lemmas.last a b out may) = omega arith
two_kept e _ _ (kept_lemmas.step a b out xs ys may rest) = omega arith

kept_thins : (e : ℕ) (nodes ks : List Node) → AreNodes nodes → map plain_node ks ≡ kept e (map plain_node nodes) → Thins e (map plain_node nodes) (map plain_node ks)
kept_thins e nodes ks are is =
    subst (Thins e (map plain_node nodes)) (sym is) (kept_of e (map plain_node nodes) (omega (arith, are.enough, length-map nodes plain_node)))

-- the nodes that are kept follow their rule
pub kept_nodes : (e : ℕ) (nodes ks : List Node) → AreNodes nodes → map plain_node ks ≡ kept e (map plain_node nodes) → AreNodes ks
kept_nodes e nodes ks are is =
    let thin = kept_thins e nodes ks are is in
    record {
      enough = omega (arith, two_kept e (map plain_node nodes) (map plain_node ks) thin, length-map ks plain_node);
      steps = steps_from_plain ks (kept_steps e (map plain_node nodes) (map plain_node ks) thin (plain_steps nodes are.steps));
    }

-- and lie round the same useable span
pub kept_round : (e first last : ℕ) (nodes ks : List Node) → AreNodes nodes → map plain_node ks ≡ kept e (map plain_node nodes) → LiesWithin first last nodes → LiesWithin first last ks
kept_round e first last nodes ks are is within =
    let thin = kept_thins e nodes ks are is in
    record {
      from = omega (arith, within.from, first_is first nodes, first_is first ks, same_first e first (map plain_node nodes) (map plain_node ks) thin);
      to = omega (arith, within.to, end_at last nodes, end_at last ks, same_last e last (map plain_node nodes) (map plain_node ks) thin);
    }

-- of two lists that are the same, the first elements and the others
abbrev first_of : PlainSegment → List PlainSegment → PlainSegment
first_of d [] = d
first_of d (s ∷ segments) = s

abbrev others : List PlainSegment → List PlainSegment
others [] = []
others (s ∷ segments) = segments

-- segments with fewer nodes follow the rule of segments
kept_order : (e : ℕ) (segments ks : List Segment) → map plain_segment ks ≡ map (thinned_segment e) (map plain_segment segments) → AreInOrder segments → AreInOrder ks
kept_order e segments [] is order = tt
kept_order e segments (k ∷ []) is order = tt
kept_order e [] (k ∷ j ∷ ks) is order = absurd cc
kept_order e (s ∷ []) (k ∷ j ∷ ks) is order = let none : plain_segment j ∷ map plain_segment ks ≡ [] = ap others is in absurd cc
kept_order e (s ∷ t ∷ segments) (k ∷ j ∷ ks) is order =
    let tail : map plain_segment (j ∷ ks) ≡ map (thinned_segment e) (map plain_segment (t ∷ segments)) = ap others is in
    let one : k.last.micros ≡ s.last.micros = ap (λ (xs : List PlainSegment). (first_of (plain_segment k) xs).last) is in
    let two : j.first.micros ≡ t.first.micros = ap (λ (xs : List PlainSegment). (first_of (plain_segment j) xs).first) tail in
    (omega (arith, order.0, one, two), kept_order e (t ∷ segments) (j ∷ ks) tail order.1)

kept_count : (e : ℕ) (segments ks : List Segment) → map plain_segment ks ≡ map (thinned_segment e) (map plain_segment segments) → node_count ks ≤ node_count segments
kept_count e segments [] is = omega arith
kept_count e [] (k ∷ ks) is = absurd cc
kept_count e (s ∷ segments) (k ∷ ks) is =
    let tail : map plain_segment ks ≡ map (thinned_segment e) (map plain_segment segments) = ap others is in
    let here : map plain_node k.nodes ≡ kept e (map plain_node s.nodes) = ap (λ (xs : List PlainSegment). (first_of (plain_segment k) xs).nodes) is in
    let counts : length (map plain_node k.nodes) ≡ length (kept e (map plain_node s.nodes)) = ap (λ (xs : List PlainNode). length xs) here in
    let own : length k.nodes ≤ length s.nodes = omega (arith, counts, kept_fewer e 0 (map plain_node s.nodes), length-map k.nodes plain_node, length-map s.nodes plain_node) in
    let one : node_count (k ∷ ks) ≡ length k.nodes + node_count ks = sum_by-cons (λ (segment : Segment). length segment.nodes) k ks in
    let two : node_count (s ∷ segments) ≡ length s.nodes + node_count segments = sum_by-cons (λ (segment : Segment). length segment.nodes) s segments in
    omega (arith, own, one, two, kept_count e segments ks tail)

pub kept_segments : (e : ℕ) (segments ks : List Segment) → map plain_segment ks ≡ map (thinned_segment e) (map plain_segment segments) → AreSegments segments → AreSegments ks
kept_segments e segments ks is are = record {
  some =
      let counts : length (map plain_segment ks) ≡ length (map (thinned_segment e) (map plain_segment segments)) = ap (λ (xs : List PlainSegment). length xs) is in
      omega (arith, are.some, counts, length-map ks plain_segment, length-map segments plain_segment, length-map (map plain_segment segments) (thinned_segment e));
  order = kept_order e segments ks is are.order;
  few = omega (arith, are.few, kept_count e segments ks is);
}

-- segment by segment: what there is, then what comes of those that are left, is the whole
pub segments_more : (e at : ℕ) (segments done more : List Segment) (s k : Segment) (whole : List PlainSegment) → at < length segments → s ≡ get_or segments at s →
    plain_segment k ≡ thinned_segment e (plain_segment s) → more ≡ done ++ k ∷ [] → map plain_segment done ++ map (thinned_segment e) (map plain_segment (drop at segments)) ≡ whole →
    map plain_segment more ++ map (thinned_segment e) (map plain_segment (drop (at + 1) segments)) ≡ whole
segments_more e at segments done more s k whole lt is same all told =
    let rest = map (thinned_segment e) (map plain_segment (drop (at + 1) segments)) in
    let split : drop at segments ≡ s ∷ drop (at + 1) segments = drop_more segments at s lt ∙ ap (λ (x : Segment). x ∷ drop (at + 1) segments) (sym is) in
    ap (λ (ks : List Segment). map plain_segment ks ++ rest) all
    ∙ ap (λ (ks : List PlainSegment). ks ++ rest) (map_push plain_segment done k)
    ∙ append_assoc (map plain_segment done) (plain_segment k ∷ []) rest
    ∙ ap (λ (x : PlainSegment). map plain_segment done ++ x ∷ rest) same
    ∙ ap (λ (ss : List Segment). map plain_segment done ++ map (thinned_segment e) (map plain_segment ss)) (sym split)
    ∙ told

pub segments_all : (e at : ℕ) (segments done : List Segment) (whole : List PlainSegment) → length segments ≤ at →
    map plain_segment done ++ map (thinned_segment e) (map plain_segment (drop at segments)) ≡ whole → map plain_segment done ≡ whole
segments_all e at segments done whole le told =
    sym (append-nil (map plain_segment done)) ∙ ap (λ (ss : List Segment). map plain_segment done ++ map (thinned_segment e) (map plain_segment ss)) (sym (drop_all at segments le)) ∙ told

-- what is so of the elements so far, and of one more
pub all_more : {X : Type 0} (P : X → Type 0) (at : ℕ) (xs : List X) (x : X) → at < length xs → x ≡ get_or xs at x → P x → All P (take at xs) → All P (take (at + 1) xs)
all_more P at xs x lt is own all =
    let more : take (at + 1) xs ≡ take at xs ++ x ∷ [] = take_more xs at x lt ∙ ap (λ y. take at xs ++ y ∷ []) (sym is) in
    subst (All P) (sym more) (All-push P (take at xs) x all own)

-- a track whose segments' nodes follow their rule
pub track_within : (e : ℕ) (t : Track) → 10 ^ 9 ≤ e → All (λ (s : Segment). AreNodes s.nodes) t.segments → IsThinnerWithin e (plain_track t) (thinned e (plain_track t))
track_within e t big are =
    within_length e (plain_track t) big
    (Each-map IsSound plain_segment t.segments (Each-weaker (λ s. AreNodes s.nodes) (λ s. IsSound (plain_segment s)) sound t.segments (each_from_All (λ (s : Segment). AreNodes s.nodes) t.segments are)))
