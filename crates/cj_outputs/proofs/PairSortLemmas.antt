-- Cells that a stable sort puts in order of their pairs stand pair by pair.
use Rattle.std.proofs.Common.{◌≡◌, ◌∙◌, ℕ, suc, ◌+◌, ◌<◌, ◌≤◌, ◌&&◌, ◌⊎◌, inl, inr, Bool, true, false, cond, not, List, [], ◌∷◌, ◌++◌, length, get_or, filter, map, refl, sym, ap, subst, arith, is_lt, nat_cmp}
use Rattle.std.specs.Prelude.{◌==◌}
use Rattle.std.specs.List.{flat_map}
use Rattle.std.specs.List.Sorted.{IsPermutation, IsStableBy, ties}
use Rattle.std.specs.Ordering.{ordering_then}
use Rattle.std.proofs.lemmas.Bool.{and_parts, eqb-true, false_from_ne_true}
use Rattle.std.proofs.lemmas.Bool.Decides.{nat_tests}
use Rattle.std.proofs.lemmas.List.Elements.{filter_agree}
use Rattle.std.proofs.lemmas.List.Sorted.{All-permutation}
use Rattle.cj_interval.proofs.ListLemmas.{Each, Exists, Ordered, Each-weaker, Each-always, Each-map, All-from_each, each_from_All, each_from_map, flat_map_alike}
use Rattle.cj_case.specs.Leaves.{PlainLeaf}
use Rattle.cj_case.specs.Pairs.{pairs_of}
use Rattle.cj_case.proofs.PairLemmas.{PairBefore, Exists-pairs, Ordered-pairs}
use Rattle.cj_cert.specs.declared.cert_lines.CellLine.{CellLine}
use Rattle.cj_cert.specs.Certificates.{plain_cell_line}
use Rattle.cj_outputs.specs.Either.{AreOfObjects, by_pairs, is_of_pair}

-- ---- pairs in order

-- the pair of s is that of t or an earlier one
record IsUpTo (s t : PlainLeaf) : Type 0 where
  first_object : s.a ≤ t.a
  second_object : s.a ≡ t.a → s.b ≤ t.b

-- the pair of the leaf is one of these
abbrev IsAmong : List (ℕ × ℕ) → PlainLeaf → Type 0
IsAmong pairs s = Exists (λ pair. pair ≡ (s.a, s.b)) pairs

-- an earlier pair is not that of the leaf
other_pair : (p q : ℕ × ℕ) (s : PlainLeaf) → PairBefore p q → is_of_pair p s ≡ true → is_of_pair q s ≡ false
other_pair p q s before is = false_from_ne_true (is_of_pair q s) (λ also.
    let one = and_parts (s.a == p.0) (s.b == p.1) is in
    let other = and_parts (s.a == q.0) (s.b == q.1) also in
    let a : s.a ≡ p.0 = eqb-true s.a p.0 one.0 in
    let b : s.b ≡ p.1 = eqb-true s.b p.1 one.1 in
    let c : s.a ≡ q.0 = eqb-true s.a q.0 other.0 in
    let d : s.b ≡ q.1 = eqb-true s.b q.1 other.1 in
    let lt = before.second_object (omega arith) in
    absurd (omega arith))

-- nor that of any later leaf
earlier_pair : (p q : ℕ × ℕ) (s t : PlainLeaf) → PairBefore p q → q ≡ (s.a, s.b) → IsUpTo s t → is_of_pair p t ≡ false
earlier_pair p q s t before same up = false_from_ne_true (is_of_pair p t) (λ is.
    let parts = and_parts (t.a == p.0) (t.b == p.1) is in
    let a : t.a ≡ p.0 = eqb-true t.a p.0 parts.0 in
    let b : t.b ≡ p.1 = eqb-true t.b p.1 parts.1 in
    let c : q.0 ≡ s.a = ap (λ (x : ℕ × ℕ). x.0) same in
    let d : q.1 ≡ s.b = ap (λ (x : ℕ × ℕ). x.1) same in
    let first = up.first_object in
    let le = before.first_object in
    let second = up.second_object (omega arith) in
    let lt = before.second_object (omega arith) in
    absurd (omega arith))

none_left : {X : Type 0} (test : X → Bool) (xs : List X) → Each (λ x. test x ≡ false) xs → filter test xs ≡ []
none_left test [] each = refl
none_left test (x ∷ xs) each = rw each.0 (none_left test xs each.1)

abbrev of_pairs : List PlainLeaf → List (ℕ × ℕ) → List PlainLeaf
of_pairs ss pairs = flat_map (λ pair. filter (is_of_pair pair) ss) pairs

-- a leaf of none of these pairs
without : (s : PlainLeaf) (ss : List PlainLeaf) (pairs : List (ℕ × ℕ)) → Each (λ pair. is_of_pair pair s ≡ false) pairs → of_pairs (s ∷ ss) pairs ≡ of_pairs ss pairs
without s ss pairs each =
    flat_map_alike (λ pair. filter (is_of_pair pair) (s ∷ ss)) (λ pair. filter (is_of_pair pair) ss) pairs
    (Each-weaker (λ pair. is_of_pair pair s ≡ false) (λ pair. filter (is_of_pair pair) (s ∷ ss) ≡ filter (is_of_pair pair) ss)
    (λ pair not_of. ap (λ (c : Bool). cond c (s ∷ filter (is_of_pair pair) ss) (filter (is_of_pair pair) ss)) not_of) pairs each)

-- a leaf in front of leaves of its pair and later ones stands in front of them
in_front : (s : PlainLeaf) (ss : List PlainLeaf) (pairs : List (ℕ × ℕ)) → Ordered PairBefore pairs → IsAmong pairs s → Each (IsUpTo s) ss → of_pairs (s ∷ ss) pairs ≡ s ∷ of_pairs ss pairs
in_front s ss [] order here up = absurd here
in_front s ss (p ∷ pairs) order here up = go (is_of_pair p s) refl here (λ later. in_front s ss pairs order.1 later up)
  where
    first : (c : Bool) → is_of_pair p s ≡ c → filter (is_of_pair p) (s ∷ ss) ≡ cond c (s ∷ filter (is_of_pair p) ss) (filter (is_of_pair p) ss)
    first c is = ap (λ (b : Bool). cond b (s ∷ filter (is_of_pair p) ss) (filter (is_of_pair p) ss)) is

    behind : (qs : List (ℕ × ℕ)) → Each (PairBefore p) qs → IsAmong qs s → (t : PlainLeaf) → IsUpTo s t → is_of_pair p t ≡ false
    behind [] each there t next = absurd there
    behind (q ∷ qs) each (inl here) t next = earlier_pair p q s t each.0 here next
    behind (q ∷ qs) each (inr there) t next = behind qs each.1 there t next

    of_own : (s : PlainLeaf) → is_of_pair (s.a, s.b) s ≡ true
    of_own s = grind (arith, nat_tests)

    go : (c : Bool) → is_of_pair p s ≡ c → IsAmong (p ∷ pairs) s → (IsAmong pairs s → of_pairs (s ∷ ss) pairs ≡ s ∷ of_pairs ss pairs)
        → of_pairs (s ∷ ss) (p ∷ pairs) ≡ s ∷ of_pairs ss (p ∷ pairs)
    go true is there rest =
        (λ i. first true is i ++ of_pairs (s ∷ ss) pairs)
        ∙ ap (λ (more : List PlainLeaf). (s ∷ filter (is_of_pair p) ss) ++ more)
        (without s ss pairs (Each-weaker (PairBefore p) (λ pair. is_of_pair pair s ≡ false) (λ pair before. other_pair p pair s before is) pairs order.0))
    go false is (inl here) rest =
        let own : is_of_pair p s ≡ true = subst (λ (q : ℕ × ℕ). is_of_pair q s ≡ true) (sym here) (of_own s) in
        absurd cc
    go false is (inr later) rest =
        let none : filter (is_of_pair p) ss ≡ [] =
        none_left (is_of_pair p) ss (Each-weaker (IsUpTo s) (λ t. is_of_pair p t ≡ false)
        (λ t next. behind pairs order.0 later t next) ss up) in
        (λ i. (first false is ∙ none) i ++ of_pairs (s ∷ ss) pairs)
        ∙ rest later
        ∙ (λ i. s ∷ (sym none i ++ of_pairs ss pairs))

no_leaves : (pairs : List (ℕ × ℕ)) → of_pairs [] pairs ≡ []
no_leaves [] = refl
no_leaves (p ∷ pairs) = no_leaves pairs

in_order_already : (pairs : List (ℕ × ℕ)) (ss : List PlainLeaf) → Ordered PairBefore pairs → Each (IsAmong pairs) ss → Ordered IsUpTo ss → of_pairs ss pairs ≡ ss
in_order_already pairs [] order among up = no_leaves pairs
in_order_already pairs (s ∷ ss) order among up =
    in_front s ss pairs order among.0 up.0 ∙ ap (λ (rest : List PlainLeaf). s ∷ rest) (in_order_already pairs ss order among.1 up.1)

-- ---- what a stable sort gives

abbrev pair_lt : CellLine → CellLine → Bool
pair_lt x y = is_lt (ordering_then (nat_cmp x.pair.a y.pair.a) (nat_cmp x.pair.b y.pair.b))

not_less : (a b a' b' : ℕ) → is_lt (ordering_then (nat_cmp a' a) (nat_cmp b' b)) ≡ false → (a ≤ a') × (a ≡ a' → b ≤ b')
not_less a b a' b' h = (grind (arith, nat_tests), λ e. grind (arith, nat_tests))

up_to_then : (s t u : PlainLeaf) → IsUpTo s t → IsUpTo t u → IsUpTo s u
up_to_then s t u h k = record {
  first_object = omega (arith, h.first_object, k.first_object);
  second_object = λ e.
      let one : s.a ≡ t.a = omega (arith, h.first_object, k.first_object) in
      let other : t.a ≡ u.a = omega (arith, h.first_object, k.first_object) in
      omega (arith, h.second_object one, k.second_object other);
}

-- neighbours in order are all in order
all_up : (xs : List CellLine) → ((k : ℕ) (d : CellLine) → 0 ≤ k → k + 1 < length xs → pair_lt (get_or xs (k + 1) d) (get_or xs k d) ≡ false) → Ordered IsUpTo (map plain_cell_line xs)
all_up [] h = tt
all_up (x ∷ []) h = (tt, tt)
all_up (x ∷ y ∷ xs) h =
    let u = not_less x.pair.a x.pair.b y.pair.a y.pair.b (h 0 x (omega arith) (omega arith)) in
    let first : IsUpTo (plain_cell_line x) (plain_cell_line y) = record { first_object = u.0; second_object = u.1 } in
    let rest = all_up (y ∷ xs) (λ k d low lt. let n : suc (k + 1) ≡ suc k + 1 = omega arith in let step = h (suc k) d (omega arith) (omega arith) in rw (← n) at step) in
    ((first, Each-weaker (IsUpTo (plain_cell_line y)) (IsUpTo (plain_cell_line x)) (λ z later. up_to_then (plain_cell_line x) (plain_cell_line y) z first later) (map plain_cell_line xs) rest.0), rest)

-- lines tie with one where they are of its pair
tie : (a b a' b' : ℕ) → (not (is_lt (ordering_then (nat_cmp a a') (nat_cmp b b'))) && not (is_lt (ordering_then (nat_cmp a' a) (nat_cmp b' b)))) ≡ ((a' == a) && (b' == b))
tie a b a' b' = grind (arith, nat_tests)

abbrev is_line_of : ℕ × ℕ → CellLine → Bool
is_line_of pair line = is_of_pair pair (plain_cell_line line)

ties_are : (x y : CellLine) → ties pair_lt x y ≡ is_line_of (x.pair.a, x.pair.b) y
ties_are x y = tie x.pair.a x.pair.b y.pair.a y.pair.b

-- the lines of a pair are the same ones in the same order
module _ (old new : List CellLine) (stable : IsStableBy pair_lt old new) where
  by_line : (pair : ℕ × ℕ) (x : CellLine) → is_line_of pair x ≡ true → filter (is_line_of pair) new ≡ filter (is_line_of pair) old
  by_line pair x is =
      let parts = and_parts (x.pair.a == pair.0) (x.pair.b == pair.1) is in
      let first : x.pair.a ≡ pair.0 = eqb-true x.pair.a pair.0 parts.0 in
      let second : x.pair.b ≡ pair.1 = eqb-true x.pair.b pair.1 parts.1 in
      let own : (x.pair.a, x.pair.b) ≡ pair = λ i. (first i, second i) in
      let test = λ (y : CellLine). ties_are x y ∙ ap (λ (q : ℕ × ℕ). is_line_of q y) own in
      sym (filter_agree (ties pair_lt x) (is_line_of pair) test new) ∙ stable x ∙ filter_agree (ties pair_lt x) (is_line_of pair) test old

  of_pair_alike : (pair : ℕ × ℕ) → filter (is_line_of pair) new ≡ filter (is_line_of pair) old
  of_pair_alike pair = elim (search new) [
    | inr found ↦ found
    | inl none ↦ elim (search old) [
      | inr found ↦ found
      | inl empty ↦ none ∙ sym empty
    ]
  ]
    where
      -- where some line is of the pair
      search : (xs : List CellLine) → (filter (is_line_of pair) xs ≡ []) ⊎ (filter (is_line_of pair) new ≡ filter (is_line_of pair) old)
      search [] = inl refl
      search (x ∷ xs) = here (is_line_of pair x) refl (search xs)
        where
          here : (c : Bool) → is_line_of pair x ≡ c → (filter (is_line_of pair) xs ≡ []) ⊎ (filter (is_line_of pair) new ≡ filter (is_line_of pair) old)
              → (cond c (x ∷ filter (is_line_of pair) xs) (filter (is_line_of pair) xs) ≡ []) ⊎ (filter (is_line_of pair) new ≡ filter (is_line_of pair) old)
          here true is rest = inr (by_line pair x is)
          here false is rest = rest

filter_seen : (pair : ℕ × ℕ) (xs : List CellLine) → filter (is_of_pair pair) (map plain_cell_line xs) ≡ map plain_cell_line (filter (is_line_of pair) xs)
filter_seen pair [] = refl
filter_seen pair (x ∷ xs) = go (is_line_of pair x) (filter_seen pair xs)
  where
    go : (c : Bool) → filter (is_of_pair pair) (map plain_cell_line xs) ≡ map plain_cell_line (filter (is_line_of pair) xs)
        → cond c (plain_cell_line x ∷ filter (is_of_pair pair) (map plain_cell_line xs)) (filter (is_of_pair pair) (map plain_cell_line xs))
        ≡ map plain_cell_line (cond c (x ∷ filter (is_line_of pair) xs) (filter (is_line_of pair) xs))
    go true rest = ap (λ (ss : List PlainLeaf). plain_cell_line x ∷ ss) rest
    go false rest = rest

pub sorted_by_pairs : (n : ℕ) (old new : List CellLine) → AreOfObjects n (map plain_cell_line old) → IsPermutation old new
    → ((k : ℕ) (d : CellLine) → 0 ≤ k → k + 1 < length new → pair_lt (get_or new (k + 1) d) (get_or new k d) ≡ false) → IsStableBy pair_lt old new
    → map plain_cell_line new ≡ by_pairs n (map plain_cell_line old)
unfolding by_pairs
sorted_by_pairs n old new objects moved up stable =
    sym (in_order_already (pairs_of n) (map plain_cell_line new) (Ordered-pairs n) among (all_up new up))
    ∙ flat_map_alike (λ pair. filter (is_of_pair pair) (map plain_cell_line new)) (λ pair. filter (is_of_pair pair) (map plain_cell_line old)) (pairs_of n)
    (Each-always (λ pair. filter (is_of_pair pair) (map plain_cell_line new) ≡ filter (is_of_pair pair) (map plain_cell_line old))
    (λ pair. filter_seen pair new ∙ ap (map plain_cell_line) (of_pair_alike old new stable pair) ∙ sym (filter_seen pair old)) (pairs_of n))
  where
    Exist : CellLine → Type 0
    Exist x = (x.pair.a < x.pair.b) × (x.pair.b < n)

    each : Each Exist new
    each =
        each_from_All Exist new
        (All-permutation Exist old new moved (All-from_each Exist old (each_from_map (λ (s : PlainLeaf). s.a < s.b × s.b < n) plain_cell_line old
        (each_from_All (λ (s : PlainLeaf). s.a < s.b × s.b < n) (map plain_cell_line old) objects))))

    among : Each (IsAmong (pairs_of n)) (map plain_cell_line new)
    among =
        Each-map (IsAmong (pairs_of n)) plain_cell_line new
        (Each-weaker Exist (λ x. IsAmong (pairs_of n) (plain_cell_line x)) (λ x exist. Exists-pairs n x.pair.a x.pair.b exist.0 exist.1) new each)
