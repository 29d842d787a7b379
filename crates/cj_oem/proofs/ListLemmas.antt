-- The lists of nodes and of segments that grow as a file is read.
use Rattle.std.proofs.Common.{◌≡◌, ℕ, ◌-◌, ◌≤◌, List, [], ◌∷◌, ◌++◌, map, length, true, slice_get, Option, Some, None, IfSome, arith, ap, sym, ◌∙◌, refl, subst}
use Rattle.std.specs.Prelude.{◌&&◌, nat_le, unwrap_or}
use Rattle.std.specs.Option.{option_map}
use Rattle.std.specs.List.{last_or}
use Rattle.std.proofs.lemmas.Bool.Decides.{nat_tests}
use Rattle.cj_track.specs.declared.node.Node.{Node}
use Rattle.cj_track.specs.declared.segment.Segment.{Segment}
use Rattle.cj_track.specs.PlainTracks.{PlainNode, last_of}
use Rattle.cj_track.specs.Nodes.{AreSteps, IsStep}
use Rattle.cj_track.specs.Segments.{AreInOrder}
use Rattle.cj_oem.specs.Stages.{end_of, first_state, is_useable, last_state}
use Rattle.cj_track.specs.Tracks.{plain_segment, plain_node}
use Rattle.cj_track.specs.Useable.{LiesWithin, last_tick}

-- ---- the last of a list

last_or-at : {A : Type 0} (o : Option A) (x : A) (xs : List A) → last_or o (x ∷ xs) ≡ slice_get (x ∷ xs) (length xs)
last_or-at o x [] = refl
last_or-at o x (y ∷ ys) = last_or-at (Some x) y ys

-- it stands at the last place
pub last_is : {A : Type 0} (xs : List A) → last_or None xs ≡ slice_get xs (length xs - 1)
last_is [] = refl
last_is (x ∷ xs) = let e : length xs ≡ length (x ∷ xs) - 1 = omega arith in last_or-at None x xs ∙ ap (slice_get (x ∷ xs)) e

last_or-map : {A B : Type 0} (f : A → B) (o : Option A) (xs : List A) → last_or (option_map f o) (map f xs) ≡ option_map f (last_or o xs)
last_or-map f o [] = refl
last_or-map f o (x ∷ xs) = last_or-map f (Some x) xs

-- ---- nodes

pub last_state_is : (nodes : List Node) → last_state (map plain_node nodes) ≡ option_map plain_node (slice_get nodes (length nodes - 1))
last_state_is nodes = last_or-map plain_node None nodes ∙ ap (option_map plain_node) (last_is nodes)

pub first_state_is : (nodes : List Node) → first_state (map plain_node nodes) ≡ option_map plain_node (slice_get nodes 0)
first_state_is [] = refl
first_state_is (a ∷ nodes) = refl

steps_more : (nodes : List Node) (node : Node) → AreSteps nodes → IfSome (last_or None nodes) (λ last. IsStep last node) → AreSteps (nodes ++ node ∷ [])
steps_more [] node steps step = tt
steps_more (a ∷ []) node steps step = (step, tt)
steps_more (a ∷ b ∷ nodes) node steps step = (steps.0, steps_more (b ∷ nodes) node steps.1 step)

-- a further step
pub steps_push : (nodes : List Node) (node : Node) → AreSteps nodes → IfSome (slice_get nodes (length nodes - 1)) (λ last. IsStep last node) → AreSteps (nodes ++ node ∷ [])
steps_push nodes node steps step =
    steps_more nodes node steps (subst (λ (o : Option Node). IfSome o (λ last. IsStep last node)) (sym (last_is nodes)) step)

-- ---- segments

-- a further segment
pub order_push : (segments : List Segment) (segment : Segment) → AreInOrder segments → end_of (map plain_segment segments) ≤ segment.first.micros → AreInOrder (segments ++ segment ∷ [])
order_push [] segment order later = tt
order_push (a ∷ []) segment order later = (later, tt)
order_push (a ∷ b ∷ segments) segment order later = (order.0, order_push (b ∷ segments) segment order.1 later)

-- where the last segment ends
pub end_is : (segments : List Segment) → end_of (map plain_segment segments) ≡ unwrap_or (option_map (λ (s : Segment). s.last.micros) (slice_get segments (length segments - 1))) 0
end_is segments =
    ap (λ (o : Option ℕ). unwrap_or o 0)
    (ap (last_or None) (mapped segments) ∙ last_or-map (λ (s : Segment). s.last.micros) None segments ∙ ap (option_map (λ (s : Segment). s.last.micros)) (last_is segments))
  where
    mapped : (segments : List Segment) → map last_of (map plain_segment segments) ≡ map (λ (s : Segment). s.last.micros) segments
    mapped [] = refl
    mapped (s ∷ segments) = ap (λ (ticks : List ℕ). s.last.micros ∷ ticks) (mapped segments)

-- ---- the useable span

-- by the first node and the last
pub useable_is : (first last : ℕ) (nodes : List Node) (a z : Node) → slice_get nodes 0 ≡ Some a → slice_get nodes (length nodes - 1) ≡ Some z
    → is_useable first last (first_state (map plain_node nodes)) (last_state (map plain_node nodes)) ≡ (nat_le first last && nat_le a.at.micros first && nat_le last z.at.micros)
useable_is first last nodes a z e f = rw (first_state_is nodes, last_state_is nodes, e, f) refl

last_tick_is : (tick : ℕ) (o : Option Node) (nodes : List Node) (z : Node) → last_or o nodes ≡ Some z → 1 ≤ length nodes → last_tick tick nodes ≡ z.at.micros
last_tick_is tick o [] z e some = absurd (omega arith)
last_tick_is tick o (a ∷ []) z e some = let same : a ≡ z = cc in ap (λ (n : Node). n.at.micros) same
last_tick_is tick o (a ∷ b ∷ nodes) z e some = last_tick_is a.at.micros (Some a) (b ∷ nodes) z e (omega arith)

record IsUseable (first last : ℕ) (a z : PlainNode) : Type 0 where
  some : first ≤ last
  from : a.at ≤ first
  to : last ≤ z.at

useable_means : (first last : ℕ) (a z : PlainNode) → is_useable first last (Some a) (Some z) ≡ true → IsUseable first last a z
useable_means first last a z e = record { some = grind (arith, nat_tests); from = grind (arith, nat_tests); to = grind (arith, nat_tests) }

within_nodes : (first last : ℕ) (a : Node) (nodes : List Node) (o : Option Node) → last_or None (a ∷ nodes) ≡ o → is_useable first last (Some (plain_node a)) (option_map plain_node o) ≡ true
    → (first ≤ last) × LiesWithin first last (a ∷ nodes)
within_nodes first last a nodes None f e = absurd cc
within_nodes first last a nodes (Some z) f e =
    let means = useable_means first last (plain_node a) (plain_node z) e in
    (means.some, record { from = means.from; to = omega (arith, means.to, last_tick_is last None (a ∷ nodes) z f (omega arith)) })

-- it lies from the first node to the last
pub useable_within : (first last : ℕ) (nodes : List Node) → is_useable first last (first_state (map plain_node nodes)) (last_state (map plain_node nodes)) ≡ true → (first ≤ last) × LiesWithin first last nodes
useable_within first last [] e = absurd cc
useable_within first last (a ∷ nodes) e =
    within_nodes first last a nodes (last_or None (a ∷ nodes)) refl
    (ap (is_useable first last (Some (plain_node a))) (sym (last_or-map plain_node None (a ∷ nodes))) ∙ e)
