-- Segments and nodes are in order, and what a binary search over them finds.
use Rattle.std.proofs.Common.{◌≡◌, ℕ, zero, suc, ◌+◌, ◌-◌, ◌<◌, ◌≤◌, inl, inr, eq-or-lt_of_le, min, List, [], ◌∷◌, length, get_or, Bool, true, false, not, Option, Some, None, refl, ap, subst, arith, leb}
use Rattle.std.specs.Prelude.{MatchOption, ◌↔◌}
use Rattle.std.specs.Option.{SomeIff}
use Rattle.std.specs.List.Sorted.{IsNonDecreasing, IsNonDecreasingBy, IsPartitionPoint}
use Rattle.std.proofs.lemmas.Bool.{cases_lt, leb-true, le-leb}
use Rattle.std.proofs.lemmas.List.{get_or_default}
use Rattle.std.proofs.lemmas.List.Sorted.{IsNonDecreasingBy-from_default}
use Rattle.std.proofs.lemmas.Bool.Decides.{nat_tests}
use Rattle.cj_track.specs.declared.node.Node.{Node}
use Rattle.cj_track.specs.declared.segment.Segment.{Segment}
use Rattle.cj_track.specs.Nodes.{AreSteps, AreNodes}
use Rattle.cj_track.specs.Segments.{AreInOrder, piece_count, starts_from}
use Rattle.cj_track.specs.Useable.{LiesWithin, last_tick}
use Rattle.cj_hermite.specs.Searches.{IsLastBegun, AllLater, AreReached, HasBegun, IsFromNode, IsReached}

after_head : (a : Segment) (segments : List Segment) (j : ℕ) (d : Segment) → AreInOrder (a ∷ segments) → j < length segments → a.last.micros ≤ (get_or segments j d).first.micros
after_head a [] j d order below = absurd (omega arith)
after_head a (b ∷ segments) zero d order below = order.0
after_head a (b ∷ segments) (suc j) d order below = omega (arith, order.0, b.some, after_head b segments j d order.1 (omega arith))

-- a segment ends before each later one begins
pub in_order : (segments : List Segment) (i j : ℕ) (d : Segment) → AreInOrder segments → i < j → j < length segments → (get_or segments i d).last.micros ≤ (get_or segments j d).first.micros
in_order [] i j d order less below = absurd (omega arith)
in_order (a ∷ segments) i zero d order less below = absurd (omega arith)
in_order (a ∷ segments) zero (suc j) d order less below = after_head a segments j d order (omega arith)
in_order (a ∷ []) (suc i) (suc j) d order less below = absurd (omega arith)
in_order (a ∷ b ∷ segments) (suc i) (suc j) d order less below = in_order (b ∷ segments) i j d order.1 (omega arith) (omega arith)

pub segments_rise : (segments : List Segment) → AreInOrder segments → IsNonDecreasingBy (λ segment. segment.first.micros) segments
segments_rise segments order i j d le below =
    elim (eq-or-lt_of_le le) [
      | inl same ↦ omega (arith, ap (λ (k : ℕ). (get_or segments k d).first.micros) same)
      | inr less ↦ omega (arith, (get_or segments i d).some, in_order segments i j d order less below)
    ]

pub begun_from : (m p : ℕ) (segments : List Segment) (r : Option ℕ) → SomeIff r (1 ≤ p) (p - 1) → p ≤ length segments
    → IsPartitionPoint (λ (s : Segment). leb s.first.micros m ≡ true) (λ (s : Segment). leb s.first.micros m ≡ false) segments p
    → MatchOption r (AllLater m segments) (IsLastBegun m segments)
begun_from m p segments None none bound point = λ j d below. let here = point.1 j d (omega (arith, none)) below in grind (arith, nat_tests)
begun_from m p segments (Some k) some bound point = record {
  exists = omega (arith, some.0, some.1);
  begun = λ d. let here = point.0 k d (omega arith) (omega (arith, some.0, some.1)) in grind (arith, nat_tests);
  next = λ d below. let here = point.1 (suc k) d (omega (arith, some.0, some.1)) below in grind (arith, nat_tests);
}

-- what a test of a segment tells
pub begun_is : (m k : ℕ) (segments : List Segment) (d : Segment) → k < length segments → (leb (get_or segments k d).first.micros m ≡ true) ↔ HasBegun m segments k
begun_is m k segments d below = (
  λ h. record {
    exists = below;
    begun = λ e. omega (arith, leb-true (get_or segments k d).first.micros m h, ap (λ (t : Segment). t.first.micros) (get_or_default segments k d e below));
  },
  λ has. le-leb (get_or segments k d).first.micros m (has.begun d),
)

pub not_begun : (m k : ℕ) (segments : List Segment) (test : Bool) → test ≡ false → length segments ≤ k → (test ≡ true) ↔ HasBegun m segments k
not_begun m k segments test failed past = (λ h. absurd cc, λ has. absurd (omega (arith, has.exists)))

-- and the next has not
last_begun_is : (m k : ℕ) (segments : List Segment) → HasBegun m segments k → ¬ HasBegun m segments (k + 1) → IsLastBegun m segments k
last_begun_is m k segments has past = record {
  exists = has.exists;
  begun = has.begun;
  next = λ d below. elim (cases_lt m (get_or segments (suc k) d).first.micros) [
    | inl later ↦ later
    | inr begun ↦
        let one_more : suc k ≡ k + 1 = omega arith in
        absurd (past (subst (λ (j : ℕ). HasBegun m segments j) one_more (record {
          exists = below;
          begun = λ e. omega (arith, begun, ap (λ (t : Segment). t.first.micros) (get_or_default segments (suc k) d e below));
        })))
  ];
}

-- by the tests of both
pub last_begun_by_tests : (m k : ℕ) (segments : List Segment) (here next : Bool) → ((here ≡ true) ↔ HasBegun m segments k) → ((next ≡ true) ↔ HasBegun m segments (k + 1))
    → here ≡ true → not next ≡ true → IsLastBegun m segments k
last_begun_by_tests m k segments here true first behind h n = absurd cc
last_begun_by_tests m k segments here false first behind h n = last_begun_is m k segments (first.0 h) (λ has. let own = behind.1 has in absurd cc)

above_head : (a : Node) (nodes : List Node) (j : ℕ) (d : Node) → AreSteps (a ∷ nodes) → j < length nodes → a.at.micros < (get_or nodes j d).at.micros
above_head a [] j d steps below = absurd (omega arith)
above_head a (b ∷ nodes) zero d steps below = steps.0.rises
above_head a (b ∷ nodes) (suc j) d steps below = omega (arith, steps.0.rises, above_head b nodes j d steps.1 (omega arith))

-- each node comes before the later ones
nodes_in_order : (nodes : List Node) (i j : ℕ) (d : Node) → AreSteps nodes → i < j → j < length nodes → (get_or nodes i d).at.micros < (get_or nodes j d).at.micros
nodes_in_order [] i j d steps less below = absurd (omega arith)
nodes_in_order (a ∷ nodes) i zero d steps less below = absurd (omega arith)
nodes_in_order (a ∷ nodes) zero (suc j) d steps less below = above_head a nodes j d steps (omega arith)
nodes_in_order (a ∷ []) (suc i) (suc j) d steps less below = absurd (omega arith)
nodes_in_order (a ∷ b ∷ nodes) (suc i) (suc j) d steps less below = nodes_in_order (b ∷ nodes) i j d steps.1 (omega arith) (omega arith)

pub nodes_rise : (nodes : List Node) → AreSteps nodes → IsNonDecreasingBy (λ node. node.at.micros) nodes
nodes_rise nodes steps i j d le below =
    elim (eq-or-lt_of_le le) [
      | inl same ↦ omega (arith, ap (λ (k : ℕ). (get_or nodes k d).at.micros) same)
      | inr less ↦ omega (arith, nodes_in_order nodes i j d steps less below)
    ]

last_tick_is : (t k : ℕ) (nodes : List Node) (d : Node) → length nodes ≡ suc k → last_tick t nodes ≡ (get_or nodes k d).at.micros
last_tick_is t k [] d e = absurd (omega arith)
last_tick_is t zero (a ∷ []) d e = refl
last_tick_is t (suc k) (a ∷ []) d e = absurd (omega arith)
last_tick_is t zero (a ∷ b ∷ nodes) d e = absurd (omega arith)
last_tick_is t (suc k) (a ∷ b ∷ nodes) d e = last_tick_is a.at.micros k (b ∷ nodes) d (omega arith)

pub reached_from : (m p : ℕ) (nodes : List Node)
    → IsPartitionPoint (λ (node : Node). leb node.at.micros m ≡ true) (λ (node : Node). leb node.at.micros m ≡ false) nodes p → AreReached m p nodes
reached_from m p nodes point = record {
  before = λ j d below. let here = point.0 j d (omega arith) below in grind (arith, nat_tests);
  behind = λ j d le below. let here = point.1 j d le below in grind (arith, nat_tests);
}

pub some_reached : (m p : ℕ) (nodes : List Node) → AreNodes nodes → LiesWithin m m nodes → AreReached m p nodes → 1 ≤ p
some_reached m (suc p) nodes are within reached = omega arith
some_reached m zero [] are within reached = absurd (omega (arith, are.enough))
some_reached m zero (a ∷ nodes) are within reached = absurd (omega (arith, reached.behind 0 a (omega arith) (omega arith), within.from))

-- the node behind is not reached, or it is the last
to_next : (m i : ℕ) (nodes : List Node) (d : Node) → LiesWithin m m nodes → (suc (suc i) < length nodes → m < (get_or nodes (suc i) d).at.micros) → suc i < length nodes
    → m ≤ (get_or nodes (suc i) d).at.micros
to_next m i nodes d within next below =
    elim (cases_lt (suc (suc i)) (length nodes)) [
      | inl more ↦ omega (arith, next more)
      | inr last ↦ omega (arith, within.to, last_tick_is m (suc i) nodes d (omega arith))
    ]

pub from_reached : (m p i : ℕ) (nodes : List Node) (d : Node) → AreNodes nodes → LiesWithin m m nodes → AreReached m p nodes → p ≤ length nodes → i ≡ min (p - 1) (length nodes - 2)
    → IsFromNode m nodes i d
from_reached m p i nodes d are within reached bound e =
    let some = some_reached m p nodes are within reached in
    let next : suc (suc i) < length nodes → m < (get_or nodes (suc i) d).at.micros = λ below. reached.behind (suc i) d (omega (arith, are.enough)) (omega arith) in
    record {
      exists = omega (arith, are.enough);
      from = reached.before i d (omega arith);
      to = to_next m i nodes d within next (omega (arith, are.enough));
      next = next;
    }

-- what a test of a node tells
pub reached_is : (m k : ℕ) (nodes : List Node) (d : Node) → suc k < length nodes → (leb (get_or nodes k d).at.micros m ≡ true) ↔ IsReached m nodes k
reached_is m k nodes d below = (
  λ h. record {
    exists = below;
    before = λ e. omega (arith, leb-true (get_or nodes k d).at.micros m h, ap (λ (b : Node). b.at.micros) (get_or_default nodes k d e (omega arith)));
  },
  λ reached. le-leb (get_or nodes k d).at.micros m (reached.before d),
)

pub not_reached : (m k : ℕ) (nodes : List Node) (test : Bool) → test ≡ false → length nodes ≤ suc k → (test ≡ true) ↔ IsReached m nodes k
not_reached m k nodes test failed past = (λ h. absurd cc, λ reached. absurd (omega (arith, reached.exists)))

-- and the next is not, or it is the last
pub from_node_is : (m k : ℕ) (nodes : List Node) (d : Node) → LiesWithin m m nodes → IsReached m nodes k → ¬ IsReached m nodes (k + 1) → IsFromNode m nodes k d
from_node_is m k nodes d within reached past =
    let next : suc (suc k) < length nodes → m < (get_or nodes (suc k) d).at.micros = λ below. elim (cases_lt m (get_or nodes (suc k) d).at.micros) [
      | inl later ↦ later
      | inr before ↦
          let one_more : suc k ≡ k + 1 = omega arith in
          absurd (past (subst (λ (j : ℕ). IsReached m nodes j) one_more (record {
            exists = below;
            before = λ e. omega (arith, before, ap (λ (b : Node). b.at.micros) (get_or_default nodes (suc k) d e (omega arith)));
          })))
    ] in
    record { exists = reached.exists; from = reached.before d; to = to_next m k nodes d within next reached.exists; next = next }

-- by the tests of both
pub from_tests : (m k : ℕ) (nodes : List Node) (d : Node) (here next : Bool) → LiesWithin m m nodes → ((here ≡ true) ↔ IsReached m nodes k) → ((next ≡ true) ↔ IsReached m nodes (k + 1))
    → here ≡ true → not next ≡ true → IsFromNode m nodes k d
from_tests m k nodes d here true within first behind h n = absurd cc
from_tests m k nodes d here false within first behind h n = from_node_is m k nodes d within (first.0 h) (λ reached. let own = behind.1 reached in absurd cc)

-- the numbers of the first pieces rise
pub starts_at_least : (n j : ℕ) (segments : List Segment) → j < length (starts_from n segments) → n ≤ get_or (starts_from n segments) j 0
starts_at_least n j [] below = absurd (omega arith)
starts_at_least n zero (a ∷ segments) below = let here : n ≤ n = omega arith in here
starts_at_least n (suc j) (a ∷ segments) below =
    let rest = starts_at_least (n + piece_count a) j segments (omega arith) in
    let here : n ≤ get_or (starts_from (n + piece_count a) segments) j 0 = omega arith in
    here

rise_from : (n : ℕ) (segments : List Segment) (i j : ℕ) → i ≤ j → j < length (starts_from n segments) → get_or (starts_from n segments) i 0 ≤ get_or (starts_from n segments) j 0
rise_from n [] i j le below = absurd (omega arith)
rise_from n (a ∷ segments) zero j le below = starts_at_least n j (a ∷ segments) below
rise_from n (a ∷ segments) (suc i) zero le below = absurd (omega arith)
rise_from n (a ∷ segments) (suc i) (suc j) le below = rise_from (n + piece_count a) segments i j (omega arith) (omega arith)

pub starts_rise : (n : ℕ) (segments : List Segment) → IsNonDecreasing (starts_from n segments)
starts_rise n segments = IsNonDecreasingBy-from_default (λ (x : ℕ). x) (starts_from n segments) 0 (rise_from n segments)

-- the first p numbers are at most the index, and the others are greater
pub record AreStarted (index p : ℕ) (starts : List ℕ) : Type 0 where
  pub started : (j : ℕ) → j < p → get_or starts j 0 ≤ index
  pub rest : (j : ℕ) → p ≤ j → j < length starts → index < get_or starts j 0

pub are_started : (index p : ℕ) (starts : List ℕ) → IsPartitionPoint (λ (start : ℕ). leb start index ≡ true) (λ (start : ℕ). leb start index ≡ false) starts p → AreStarted index p starts
are_started index p starts point = record {
  started = λ j below. let here = point.0 j 0 (omega arith) below in grind (arith, nat_tests);
  rest = λ j le below. let here = point.1 j 0 le below in grind (arith, nat_tests);
}
