-- What a track says can be read again, by the rules that its types keep.
use Rattle.std.proofs.Common.{◌≡◌, ℕ, ◌^◌, ◌<◌, ◌≤◌, List, [], ◌∷◌, true, false, length, map, ap, ◌∙◌, refl, arith, inl, inr, Some, None, Ok, All}
use Rattle.std.specs.Prelude.{◌==◌, nat_le, unsigned_abs}
use Rattle.std.specs.List.{last_or}
use Rattle.std.proofs.lemmas.Bool.{le-leb, le-ltb}
use Rattle.std.proofs.lemmas.Bool.Decides.{leb_tells, nat_tests}
use Rattle.std.proofs.lemmas.Int.{ints}
use Rattle.std.proofs.lemmas.List.{length-map}
use Rattle.std.proofs.lemmas.List.Elements.{All-cons, All-head, All-tail}
use Rattle.cj_base.specs.Decimals.{IsReadable, number_of}
use Rattle.cj_kvn.specs.Decimals.{leading_power}
use Rattle.cj_base.specs.declared.decimals.Decimal.{Decimal}
use Rattle.cj_kvn.proofs.AgainLemmas.{IsNormal, again, zero_is}
use Rattle.cj_kvn.proofs.CountLemmas.{count_most}
use Rattle.cj_kvn.proofs.PrintLemmas.{power_of_zero}
use Rattle.cj_kvn.proofs.ReadableLemmas.{exponent_bounds}
use Rattle.cj_track.specs.declared.matrix.Matrix.{Matrix}
use Rattle.cj_track.specs.declared.node.Node.{Node}
use Rattle.cj_track.specs.declared.segment.Segment.{Segment}
use Rattle.cj_track.specs.declared.track.Track.{Track}
use Rattle.cj_track.specs.PlainTracks.{PlainNode}
use Rattle.cj_track.specs.Nodes.{AreNodes, AreSteps, IsStep}
use Rattle.cj_oem.specs.NodeRows.{following}
use Rattle.cj_track.specs.Segments.{AreInOrder, AreSegments}
use Rattle.cj_oem.specs.Stages.{first_state, is_useable, last_state}
use Rattle.cj_track.specs.Tracks.{plain_segment, plain_matrix, plain_track, plain_node}
use Rattle.cj_track.specs.Useable.{LiesWithin, last_tick}
use Rattle.cj_oem.proofs.AgainLemmas.{IsWritten}
use Rattle.cj_oem.proofs.CovarianceAgainLemmas.{IsCovariance, IsPrinted}
use Rattle.cj_oem.proofs.SegmentAgainLemmas.{IsSegment, Later}
use Rattle.cj_oem.proofs.StateAgainLemmas.{Follow, IsState}

-- a rule of the elements is one of what they are seen as
all_seen : {A B : Type 0} (P : A → Type 0) (Q : B → Type 0) (f : A → B) → ((x : A) → P x → Q (f x)) → (xs : List A) → All P xs → All Q (map f xs)
all_seen P Q f each [] all = λ i d below. absurd (omega arith)
all_seen P Q f each (x ∷ xs) all = All-cons Q (f x) (map f xs) (each x (All-head P x xs all)) (all_seen P Q f each xs (All-tail P x xs all))

all_of : {A B : Type 0} (Q : B → Type 0) (f : A → B) → ((x : A) → Q (f x)) → (xs : List A) → All Q (map f xs)
all_of Q f each [] = λ i d below. absurd (omega arith)
all_of Q f each (x ∷ xs) = All-cons Q (f x) (map f xs) (each x) (all_of Q f each xs)

-- ---- numbers

power_small : (d : Decimal) → IsReadable (number_of d) → unsigned_abs (leading_power (number_of d)) < 10 ^ 3
unfolding leading_power
power_small d readable = elim (leb_tells 1 d.digits) [
  | inl h ↦
      let not_zero : (d.digits == 0) ≡ false = grind (arith, nat_tests) in
      let bounds = exponent_bounds d readable in
      let few = count_most d.digits 18 d.short in
      rw not_zero (omega (arith, ints, bounds, few))
  | inr h ↦ omega (arith, ints, ap unsigned_abs (power_of_zero (number_of d) (omega (arith, h.1))))
]

decimal_printed : (d : Decimal) → IsReadable (number_of d) → IsPrinted (number_of d)
decimal_printed d readable =
    let n = number_of d in
    let small = power_small d readable in
    let normal : IsNormal n = record { short = d.short; zero = λ h. let zero = d.normal h in zero_is n zero.0 zero.1 zero.2 } in
    record { short = d.short; power = small; again = again n normal readable small }

-- ---- covariances

abbrev HasAll : Matrix → Type 0
HasAll m = length m.values ≡ 21

matrix_read : (m : Matrix) → HasAll m → IsCovariance (plain_matrix m)
matrix_read m long = record {
  tick = m.at.in_range;
  count = length-map m.values number_of ∙ long;
  printed = all_seen (λ d. IsReadable (number_of d)) IsPrinted number_of decimal_printed m.values m.readable;
}

-- ---- nodes

node_read : (n : Node) → IsState (plain_node n)
node_read n = record {
  tick = n.at.in_range;
  place = record { x = n.place.0; y = n.place.1; z = n.place.2 };
  rate = record { x = n.rate.0; y = n.rate.1; z = n.rate.2 };
}

step_follows : (a b : Node) → IsStep a b → following (Some (plain_node a)) (plain_node b) ≡ Ok (plain_node b)
step_follows a b step =
    let rises : nat_le b.at.micros a.at.micros ≡ false = grind (arith, nat_tests, step.rises) in
    let short = le-ltb _ _ step.short in
    rw (rises, short, step.steady) refl

steps_follow : (a : Node) (nodes : List Node) → AreSteps (a ∷ nodes) → Follow (Some (plain_node a)) (map plain_node nodes)
steps_follow a [] steps = tt
steps_follow a (b ∷ nodes) steps = (step_follows a b steps.0, steps_follow b nodes steps.1)

nodes_follow : (nodes : List Node) → AreSteps nodes → Follow None (map plain_node nodes)
nodes_follow [] steps = tt
nodes_follow (a ∷ nodes) steps = (refl, steps_follow a nodes steps)

useable_to : (first last : ℕ) (s : PlainNode) (a : Node) (nodes : List Node) → first ≤ last → s.at ≤ first → last ≤ last_tick a.at.micros nodes
    → is_useable first last (Some s) (last_or (Some (plain_node a)) (map plain_node nodes)) ≡ true
useable_to first last s a [] some from to = rw (le-leb first last some, le-leb s.at first from, le-leb last a.at.micros to) refl
useable_to first last s a (b ∷ nodes) some from to = useable_to first last s b nodes some from to

useable_in : (first last : ℕ) (nodes : List Node) → first ≤ last → 2 ≤ length nodes → LiesWithin first last nodes
    → is_useable first last (first_state (map plain_node nodes)) (last_state (map plain_node nodes)) ≡ true
useable_in first last [] some enough within = absurd (omega arith)
useable_in first last (a ∷ nodes) some enough within = useable_to first last (plain_node a) a nodes some within.from within.to

-- ---- segments

-- what the types of a segment's parts keep
abbrev pub Keeps : Segment → Type 0
Keeps s = AreNodes s.nodes × All (λ m. length m.values ≡ 21) s.matrices

segment_read : (s : Segment) → Keeps s → IsSegment (plain_segment s)
segment_read s keeps = record {
  first = s.first.in_range;
  last = s.last.in_range;
  nodes = all_of IsState plain_node node_read s.nodes;
  steps = nodes_follow s.nodes keeps.0.steps;
  enough = omega (arith, s.enough, length-map s.nodes plain_node);
  useable = useable_in s.first.micros s.last.micros s.nodes s.some s.enough s.within;
  covariances = all_seen (λ m. length m.values ≡ 21) IsCovariance plain_matrix matrix_read s.matrices keeps.1;
}

in_order : (end : ℕ) (s : Segment) (segments : List Segment) → end ≤ s.first.micros → AreInOrder (s ∷ segments) → Later end (map plain_segment (s ∷ segments))
in_order end s [] from order = (from, tt)
in_order end s (next ∷ segments) from order = (from, in_order s.last.micros next segments order.0 order.1)

all_in_order : (segments : List Segment) → AreInOrder segments → Later 0 (map plain_segment segments)
all_in_order [] order = tt
all_in_order (s ∷ segments) order = in_order 0 s segments (omega arith) order

pub track_written : (t : Track) → AreSegments t.segments → All Keeps t.segments → IsWritten (plain_track t)
track_written t segments keeps = record {
  file = t.from;
  name = t.named;
  id = t.designated;
  some = omega (arith, segments.some, length-map t.segments plain_segment);
  segments = all_seen Keeps IsSegment plain_segment segment_read t.segments keeps;
  order = all_in_order t.segments segments.order;
}
