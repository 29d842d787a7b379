-- Which nodes of a segment a span needs, as they are found by number.
use Rattle.std.proofs.Common.{◌≡◌, ℕ, zero, suc, ◌+◌, ◌-◌, ◌<◌, ◌≤◌, Bool, true, false, min, List, [], ◌∷◌, map, length, get_or, take, drop, refl, ap, sym, ◌∙◌, subst, inl, inr, arith, cond, length-take, length-drop, take_all}
use Rattle.std.specs.Prelude.{nat_le}
use Rattle.std.proofs.lemmas.Bool.{cases_lt}
use Rattle.std.proofs.lemmas.Bool.Decides.{nat_tests}
use Rattle.cj_track.specs.declared.node.Node.{Node}
use Rattle.cj_track.specs.Nodes.{AreSteps, AreNodes}
use Rattle.cj_track.specs.PlainTracks.{PlainNode}
use Rattle.cj_track.specs.Tracks.{plain_node}
use Rattle.cj_track.specs.Useable.{LiesWithin, first_tick, last_tick}
use Rattle.cj_hermite.specs.Searches.{AreReached}
use Rattle.cj_trim.specs.Trimmed.{from_last, upto_first, needed}

-- ---- from a node on, and up to a node

-- the node with this number is the last one that is not after a tick and that others follow
pub record IsLastFrom (m k : ℕ) (nodes : List Node) : Type 0 where
  pub exists : suc k < length nodes
  pub before : (j : ℕ) (d : Node) → j ≤ k → (get_or nodes j d).at.micros ≤ m
  pub next : (d : Node) → suc (suc k) < length nodes → m < (get_or nodes (suc k) d).at.micros

from_last_is : (m k : ℕ) (nodes : List Node) → IsLastFrom m k nodes → from_last m (map plain_node nodes) ≡ map plain_node (drop k nodes)
unfolding from_last
from_last_is m k [] is = absurd (omega (arith, is.exists))
from_last_is m k (a ∷ []) is = absurd (omega (arith, is.exists))
from_last_is m zero (a ∷ b ∷ []) is = refl
from_last_is m (suc k) (a ∷ b ∷ []) is = absurd (omega (arith, is.exists))
from_last_is m zero (a ∷ b ∷ c ∷ nodes) is =
    let later = is.next a (omega arith) in
    let test : nat_le b.at.micros m ≡ false = grind (arith, nat_tests) in
    rw test refl
from_last_is m (suc k) (a ∷ b ∷ c ∷ nodes) is =
    let upto = is.before 1 a (omega arith) in
    let test : nat_le b.at.micros m ≡ true = grind (arith, nat_tests) in
    rw test (from_last_is m k (b ∷ c ∷ nodes) (record {
      exists = omega (arith, is.exists);
      before = λ j d le. is.before (suc j) d (omega (arith, le));
      next = λ d lt. is.next d (omega (arith, lt));
    }))

-- so many nodes stand up to the first one after a tick, or are all where none is
pub record AreUptoFirst (m count : ℕ) (nodes : List Node) : Type 0 where
  pub some : 1 ≤ count
  pub bound : count ≤ length nodes
  pub before : (j : ℕ) (d : Node) → suc j < count → (get_or nodes j d).at.micros ≤ m
  pub last : (j : ℕ) (d : Node) → suc j ≡ count → count < length nodes → m < (get_or nodes j d).at.micros

none_either : (b : Bool) (none : List PlainNode) → cond b none none ≡ none
none_either true none = refl
none_either false none = refl

upto_first_is : (m count : ℕ) (nodes : List Node) → AreUptoFirst m count nodes → upto_first m (map plain_node nodes) ≡ map plain_node (take count nodes)
unfolding upto_first
upto_first_is m zero nodes are = absurd (omega (arith, are.some))
upto_first_is m (suc count) [] are = absurd (omega (arith, are.bound))
upto_first_is m (suc zero) (a ∷ []) are = ap (λ (ns : List PlainNode). plain_node a ∷ ns) (none_either (nat_le a.at.micros m) [])
upto_first_is m (suc (suc count)) (a ∷ []) are = absurd (omega (arith, are.bound))
upto_first_is m (suc zero) (a ∷ b ∷ nodes) are =
    let later = are.last 0 a refl (omega arith) in
    let test : nat_le a.at.micros m ≡ false = grind (arith, nat_tests) in
    rw test refl
upto_first_is m (suc (suc count)) (a ∷ b ∷ nodes) are =
    let upto = are.before 0 a (omega arith) in
    let test : nat_le a.at.micros m ≡ true = grind (arith, nat_tests) in
    rw test (ap (λ (ns : List PlainNode). plain_node a ∷ ns) (upto_first_is m (suc count) (b ∷ nodes) (record {
      some = omega arith;
      bound = omega (arith, are.bound);
      before = λ j d lt. are.before (suc j) d (omega (arith, lt));
      last = λ j d one lt. are.last (suc j) d (omega (arith, one)) (omega (arith, lt));
    })))

-- ---- nodes from a number on, and so many of them

steps_from : (i : ℕ) (nodes : List Node) → AreSteps nodes → AreSteps (drop i nodes)
steps_from zero nodes h = h
steps_from (suc i) [] h = tt
steps_from (suc i) (a ∷ []) h = steps_from i [] tt
steps_from (suc i) (a ∷ b ∷ nodes) h = steps_from i (b ∷ nodes) h.1

steps_upto : (i : ℕ) (nodes : List Node) → AreSteps nodes → AreSteps (take i nodes)
steps_upto zero nodes h = tt
steps_upto (suc i) [] h = tt
steps_upto (suc i) (a ∷ []) h = steps_upto_one i a
  where
    steps_upto_one : (i : ℕ) (a : Node) → AreSteps (a ∷ take i [])
    steps_upto_one zero a = tt
    steps_upto_one (suc i) a = tt
steps_upto (suc zero) (a ∷ b ∷ nodes) h = tt
steps_upto (suc (suc i)) (a ∷ b ∷ nodes) h = (h.0, steps_upto (suc i) (b ∷ nodes) h.1)

behind_is : (k j i : ℕ) (nodes : List Node) (d : Node) → i ≡ k + j → get_or (drop k nodes) j d ≡ get_or nodes i d
behind_is zero j i nodes d e = ap (λ (n : ℕ). get_or nodes n d) (omega (arith, e))
behind_is (suc k) j i [] d e = refl
behind_is (suc k) j zero (a ∷ nodes) d e = absurd (omega (arith, e))
behind_is (suc k) j (suc i) (a ∷ nodes) d e = behind_is k j i nodes d (omega (arith, e))

first_of_run : (t k c : ℕ) (nodes : List Node) (d : Node) → k < length nodes → 1 ≤ c → first_tick t (take c (drop k nodes)) ≡ (get_or nodes k d).at.micros
first_of_run t k c [] d lt some = absurd (omega (arith, lt))
first_of_run t zero zero (a ∷ nodes) d lt some = absurd (omega (arith, some))
first_of_run t zero (suc c) (a ∷ nodes) d lt some = refl
first_of_run t (suc k) c (a ∷ nodes) d lt some = first_of_run t k c nodes d (omega (arith, lt)) some

last_at : (t c : ℕ) (nodes : List Node) (d : Node) → c < length nodes → last_tick t (take (suc c) nodes) ≡ (get_or nodes c d).at.micros
last_at t c [] d lt = absurd (omega (arith, lt))
last_at t zero (a ∷ nodes) d lt = refl
last_at t (suc c) (a ∷ nodes) d lt = last_at a.at.micros c nodes d (omega (arith, lt))

last_of_all : (t c : ℕ) (nodes : List Node) (d : Node) → length nodes ≡ suc c → last_tick t nodes ≡ (get_or nodes c d).at.micros
last_of_all t c [] d e = absurd (omega (arith, e))
last_of_all t zero (a ∷ []) d e = refl
last_of_all t (suc c) (a ∷ []) d e = absurd (omega (arith, e))
last_of_all t zero (a ∷ b ∷ nodes) d e = absurd (omega (arith, e))
last_of_all t (suc c) (a ∷ b ∷ nodes) d e = last_of_all a.at.micros c (b ∷ nodes) d (omega (arith, e))

-- ---- by how many nodes are not after the ends of a span

-- some are not after its first tick
pub some_from : (first last p : ℕ) (nodes : List Node) → AreNodes nodes → LiesWithin first last nodes → AreReached first p nodes → 1 ≤ p
some_from first last (suc p) nodes are within reached = omega arith
some_from first last zero [] are within reached = absurd (omega (arith, are.enough))
some_from first last zero (a ∷ nodes) are within reached = absurd (omega (arith, reached.behind 0 a (omega arith) (omega arith), within.from))

pub some_before : (first last p k : ℕ) (nodes : List Node) → AreNodes nodes → LiesWithin first last nodes → AreReached first p nodes → k ≡ min p (length nodes - 1) → 1 ≤ k
some_before first last p k nodes are within reached is = omega (arith, are.enough, some_from first last p nodes are within reached, is)

-- a span and the nodes round it, how many of these are not after its first tick and its last, the number of the first that it needs, and of the
-- first behind the last
pub record AreFound (first last p q k past : ℕ) (nodes : List Node) : Type 0 where
  pub nodes_are : AreNodes nodes
  pub some : first ≤ last
  pub within : LiesWithin first last nodes
  pub from : AreReached first p nodes
  pub to : AreReached last q nodes
  pub from_bound : p ≤ length nodes
  pub to_bound : q ≤ length nodes
  pub begin : k ≡ min p (length nodes - 1) - 1
  pub end : past ≡ min (q + 1) (length nodes)

no_later : (first last p q k past : ℕ) (nodes : List Node) (d : Node) → AreFound first last p q k past nodes → p ≤ q
no_later first last p q k past nodes d found = elim (cases_lt q p) [
  | inl lt ↦ absurd (omega (arith, found.some, found.from.before q d lt, found.to.behind q d (omega arith) (omega (arith, found.from_bound, lt))))
  | inr le ↦ le
]

-- two or more of them are needed
record AreBetween (k past : ℕ) (nodes : List Node) : Type 0 where
  two : k + 2 ≤ past
  bound : past ≤ length nodes
  left : length (drop k nodes) ≡ length nodes - k

are_between : (first last p q k past : ℕ) (nodes : List Node) (d : Node) → AreFound first last p q k past nodes → AreBetween k past nodes
are_between first last p q k past nodes d found =
    let some = some_from first last p nodes found.nodes_are found.within found.from in
    let up = no_later first last p q k past nodes d found in
    record {
      two = omega (arith, some, up, found.nodes_are.enough, found.begin, found.end);
      bound = omega (arith, found.end);
      left = length-drop k nodes;
    }

last_from : (first last p q k past : ℕ) (nodes : List Node) → AreFound first last p q k past nodes → IsLastFrom first k nodes
last_from first last p q k past nodes found =
    let some = some_from first last p nodes found.nodes_are found.within found.from in
    let enough = found.nodes_are.enough in
    record {
      exists = omega (arith, some, enough, found.begin);
      before = λ j d le. found.from.before j d (omega (arith, some, le, enough, found.begin));
      next = λ d lt. found.from.behind (suc k) d (omega (arith, lt, found.begin)) (omega (arith, lt));
    }

upto_found : (first last p q k past : ℕ) (nodes : List Node) → AreFound first last p q k past nodes → AreBetween k past nodes → AreUptoFirst last (past - k) (drop k nodes)
upto_found first last p q k past nodes found between = record {
  some = omega (arith, between.two);
  bound = omega (arith, between.left, between.bound);
  before = λ j d lt. omega (arith, ap (λ (x : Node). x.at.micros) (behind_is k j (k + j) nodes d refl), found.to.before (k + j) d (omega (arith, lt, found.end)));
  last = λ j d one lt.
      omega (
        arith,
        ap (λ (x : Node). x.at.micros) (behind_is k j (k + j) nodes d refl),
        found.to.behind (k + j) d (omega (arith, one, lt, found.end, between.left, between.two)) (omega (arith, one, lt, between.left, between.two)),
      );
}

-- where the last of the nodes that are needed stands
end_of : (first last p q k past : ℕ) (nodes : List Node) (d : Node) → AreFound first last p q k past nodes → AreBetween k past nodes → last ≤ last_tick last (take (past - k) (drop k nodes))
end_of first last p q k past nodes d found between =
    let c = past - k - 1 in
    let one : past - k ≡ suc c = omega (arith, between.two) in
    let here : last_tick last (take (past - k) (drop k nodes)) ≡ (get_or (drop k nodes) c d).at.micros =
    ap (λ (i : ℕ). last_tick last (take i (drop k nodes))) one ∙ last_at last c (drop k nodes) d (omega (arith, between.left, between.bound, between.two)) in
    elim (cases_lt q (length nodes)) [
      | inl lt ↦ omega (arith, here, ap (λ (x : Node). x.at.micros) (behind_is k c q nodes d (omega (arith, found.end, lt, between.two))), found.to.behind q d (omega arith) lt)
      | inr le ↦
          let l = length nodes - 1 in
          omega (
            arith,
            here,
            ap (λ (x : Node). x.at.micros) (behind_is k c l nodes d (omega (arith, found.end, le, between.two))),
            last_of_all last l nodes d (omega (arith, found.nodes_are.enough)),
            found.within.to,
          )
    ]

-- what is known of the nodes that a span needs
pub record AreNeeded (first last : ℕ) (nodes run : List Node) : Type 0 where
  pub value : map plain_node run ≡ needed first last (map plain_node nodes)
  pub nodes_are : AreNodes run
  pub within : LiesWithin first last run
  pub fewer : length run ≤ length nodes

these_needed : (first last p q k past : ℕ) (nodes : List Node) (d : Node) → AreFound first last p q k past nodes → AreNeeded first last nodes (take (past - k) (drop k nodes))
these_needed first last p q k past nodes d found =
    let between = are_between first last p q k past nodes d found in
    let from = last_from first last p q k past nodes found in
    let upto = upto_found first last p q k past nodes found between in
    let count : length (take (past - k) (drop k nodes)) ≡ min (past - k) (length (drop k nodes)) = length-take (past - k) (drop k nodes) in
    record {
      value = sym (ap (λ (ns : List PlainNode). upto_first last ns) (from_last_is first k nodes from) ∙ upto_first_is last (past - k) (drop k nodes) upto);
      nodes_are = record {
        enough = omega (arith, count, between.two, between.left, between.bound);
        steps = steps_upto (past - k) (drop k nodes) (steps_from k nodes found.nodes_are.steps);
      };
      within = record {
        from = omega (arith, first_of_run first k (past - k) nodes d (omega (arith, from.exists)) upto.some, from.before k d (omega arith));
        to = end_of first last p q k past nodes d found between;
      };
      fewer = omega (arith, count, between.bound);
    }

-- so it is of a part that is cut out in two steps
pub are_needed : (first last p q k past : ℕ) (nodes : List Node) → AreFound first last p q k past nodes → AreNeeded first last nodes (take (past - k) (take (length nodes - k) (drop k nodes)))
are_needed first last p q k past [] found = absurd (omega (arith, found.nodes_are.enough))
are_needed first last p q k past (a ∷ rest) found =
    let nodes = a ∷ rest in
    subst (AreNeeded first last nodes) (sym (ap (take (past - k)) (take_all (length nodes - k) (drop k nodes) (omega (arith, length-drop k nodes)))))
    (these_needed first last p q k past nodes a found)

-- it begins before it ends
pub begins_before : (first last p q k past : ℕ) (nodes : List Node) → AreFound first last p q k past nodes → k ≤ past
begins_before first last p q k past [] found = absurd (omega (arith, found.nodes_are.enough))
begins_before first last p q k past (a ∷ rest) found = omega (arith, (are_between first last p q k past (a ∷ rest) a found).two)
