-- The candidates of a slot: pairs that are found in any order, and put in order.
use Rattle.std.proofs.Common.{◌≡◌, ℕ, ◌<◌, ◌≤◌, ◌&&◌, Bool, true, false, cond, List, [], ◌∷◌, filter, map, refl, sym, ◌∙◌, subst, inl, inr, arith, nat_cmp}
use Rattle.std.specs.Prelude.{All, nat_eq}
use Rattle.std.specs.Ordering.{ordering_then, eq_by_cmp, is_eq}
use Rattle.std.specs.declared.cmp.Ordering.{Ordering}
use Rattle.std.specs.declared.cmp.Ordering.TheVariants.{Less}
use Rattle.std.specs.Cmp.{IsTotalOrder, IsEquivalence}
use Rattle.std.specs.List.{AllByRecursion, Contains, dedup}
use Rattle.std.specs.List.Sorted.{IsSorted, IsStrictlySortedBy, IsPermutation}
use Rattle.std.proofs.lemmas.Cmp.{then_total, on_total, nat_cmp_total, eq_by_cmp_equiv}
use Rattle.std.proofs.lemmas.Bool.Decides.{nat_tests}
use Rattle.std.proofs.lemmas.List.Kept.{Any-dedup, Contains-from_dedup, IsStrictlySortedBy-dedup}
use Rattle.std.proofs.lemmas.List.Sorted.{Contains-permutation, IsPermutation-sym}
use Rattle.cj_interval.proofs.ListLemmas.{Each, Exists, Ordered, All-from_each, AllPairs-from_ordered, Contains-from_exists, Each-filter, Each-map, Exists-weaker, each_from_All, each_member, exists_from_Any, exists_from_Contains, member_passes, ordered_from_AllPairs, ordered_same}
use Rattle.cj_case.specs.declared.pair.Pair.{Pair}
use Rattle.cj_case.specs.Pairs.{ArePairsKept, HasPair, objects_of, pairs_of}
use Rattle.cj_case.proofs.PairLemmas.{IsPair, PairBefore, Each-pairs, Exists-pairs, Ordered-pairs}
use Rattle.cj_brief_checker.specs.SlotPairs.{AreInOrder, IsPairBefore}
use Rattle.cj_brief_checker.proofs.OrderLemmas.{ordered_filter, ordered_with}

-- ---- in order, each once

abbrev pub pair_cmp : Pair → Pair → Ordering
pair_cmp p q = ordering_then (nat_cmp p.a q.a) (nat_cmp p.b q.b)

abbrev pub pair_eq : Pair → Pair → Bool
pair_eq p q = nat_eq p.a q.a && nat_eq p.b q.b

pairs_total : IsTotalOrder pair_cmp
pairs_total = then_total (on_total (λ (p : Pair). p.a) nat_cmp_total) (on_total (λ (p : Pair). p.b) nat_cmp_total)

ties : (p q : Pair) → pair_eq p q ≡ eq_by_cmp pair_cmp p q
ties p q = numbers p.a p.b q.a q.b
  where
    numbers : (a b a' b' : ℕ) → (nat_eq a a' && nat_eq b b') ≡ is_eq (ordering_then (nat_cmp a a') (nat_cmp b b'))
    numbers a b a' b' = grind (arith, nat_tests)

same_objects : (p q : Pair) → pair_eq p q ≡ true → objects_of p ≡ objects_of q
same_objects p q h = λ i. (first i, second i)
  where
    first : p.a ≡ q.a
    first = grind (arith, nat_tests)

    second : p.b ≡ q.b
    second = grind (arith, nat_tests)

equivalence : IsEquivalence pair_eq
equivalence = subst (λ (e : Pair → Pair → Bool). IsEquivalence e) (λ i p q. sym (ties p q) i) (eq_by_cmp_equiv pairs_total)

before : (p q : Pair) → pair_cmp p q ≡ Less → IsPairBefore (objects_of p) (objects_of q)
before p q h = record { first_object = a; second_object = b }
  where
    a : p.a ≤ q.a
    a = grind (arith, nat_tests)

    b : p.a ≡ q.a → p.b < q.b
    b e = grind (arith, nat_tests)

strictly : (pairs : List Pair) → IsStrictlySortedBy pair_cmp pairs → Ordered IsPairBefore (map objects_of pairs)
unfolding IsStrictlySortedBy
strictly [] up = tt
strictly (p ∷ pairs) up = (behind pairs up.0, strictly pairs up.1)
  where
    behind : (qs : List Pair) → AllByRecursion (λ q. pair_cmp p q ≡ Less) qs → Each (IsPairBefore (objects_of p)) (map objects_of qs)
    behind [] all = tt
    behind (q ∷ qs) all = (before p q all.0, behind qs all.1)

pub deduped_in_order : (pairs : List Pair) → IsSorted pair_cmp pairs → AreInOrder (dedup pair_eq pairs)
deduped_in_order pairs up =
    AllPairs-from_ordered IsPairBefore (map objects_of (dedup pair_eq pairs)) (strictly (dedup pair_eq pairs) (IsStrictlySortedBy-dedup pairs_total ties pairs up))

-- ---- which pairs a list has

of_objects : (pairs : List Pair) (a b : ℕ) → HasPair pairs a b → Exists (λ (p : Pair). objects_of p ≡ (a, b)) pairs
of_objects pairs a b has = go pairs (exists_from_Contains (map objects_of pairs) (a, b) has)
  where
    go : (ps : List Pair) → Exists (λ (x : ℕ × ℕ). x ≡ (a, b)) (map objects_of ps) → Exists (λ (p : Pair). objects_of p ≡ (a, b)) ps
    go [] there = absurd there
    go (p ∷ ps) (inl here) = inl here
    go (p ∷ ps) (inr there) = inr (go ps there)

has_objects : (pairs : List Pair) (a b : ℕ) → Exists (λ (p : Pair). objects_of p ≡ (a, b)) pairs → HasPair pairs a b
has_objects pairs a b there = Contains-from_exists (map objects_of pairs) (a, b) (go pairs there)
  where
    go : (ps : List Pair) → Exists (λ (p : Pair). objects_of p ≡ (a, b)) ps → Exists (λ (x : ℕ × ℕ). x ≡ (a, b)) (map objects_of ps)
    go [] there = absurd there
    go (p ∷ ps) (inl here) = inl here
    go (p ∷ ps) (inr there) = inr (go ps there)

-- an element of which P holds, in a list in which each element of another has one of which P holds where it does
moved : {X : Type 0} (P : X → Type 0) (xs ys : List X) → ((x : X) → Exists (λ z. z ≡ x) xs → P x → Exists P ys) → Exists P xs → Exists P ys
moved P [] ys keep there = absurd there
moved P (x ∷ xs) ys keep (inl here) = keep x (inl refl) here
moved P (x ∷ xs) ys keep (inr there) = moved P xs ys (λ z is p. keep z (inr is) p) there

in_other : {X : Type 0} (P : X → Type 0) (x : X) (ys : List X) → P x → Contains ys x → Exists P ys
in_other P x ys p has = Exists-weaker (λ y. y ≡ x) P (λ y same. subst P (sym same) p) ys (exists_from_Contains ys x has)

pub ordered_has : (old sorted new : List Pair) → IsPermutation old sorted → new ≡ dedup pair_eq sorted → ArePairsKept old new
ordered_has old sorted new same is a b has =
    has_objects new a b (subst (Exists (λ (p : Pair). objects_of p ≡ (a, b))) (sym is)
    (moved (λ (p : Pair). objects_of p ≡ (a, b)) sorted (dedup pair_eq sorted)
    (λ p there here. Exists-weaker (λ q. pair_eq p q ≡ true) (λ (q : Pair). objects_of q ≡ (a, b)) (λ q equal. sym (same_objects p q equal) ∙ here) (dedup pair_eq sorted)
    (exists_from_Any (λ q. pair_eq p q ≡ true) (dedup pair_eq sorted) (Any-dedup equivalence sorted p (Contains-from_exists sorted p there))))
    (moved (λ (p : Pair). objects_of p ≡ (a, b)) old sorted
    (λ p there here. in_other (λ (q : Pair). objects_of q ≡ (a, b)) p sorted here (Contains-permutation old sorted p same (Contains-from_exists old p there)))
    (of_objects old a b has))))

pub ordered_from : (old sorted new : List Pair) → IsPermutation old sorted → new ≡ dedup pair_eq sorted → ArePairsKept new old
ordered_from old sorted new same is a b has =
    has_objects old a b
    (moved (λ (p : Pair). objects_of p ≡ (a, b)) sorted old
    (λ p there here. in_other (λ (q : Pair). objects_of q ≡ (a, b)) p old here (Contains-permutation sorted old p (IsPermutation-sym old sorted same) (Contains-from_exists sorted p there)))
    (moved (λ (p : Pair). objects_of p ≡ (a, b)) (dedup pair_eq sorted) sorted
    (λ p there here. in_other (λ (q : Pair). objects_of q ≡ (a, b)) p sorted here (Contains-from_dedup pair_eq sorted p (Contains-from_exists (dedup pair_eq sorted) p there)))
    (subst (Exists (λ (p : Pair). objects_of p ≡ (a, b))) is (of_objects new a b has))))

-- ---- all candidates, in order

not_both : (p q : ℕ × ℕ) → IsPairBefore p q → IsPairBefore q p → ⊥
not_both p q h j =
    let a = h.first_object in
    let b = j.first_object in
    let c = h.second_object (omega arith) in
    let d = j.second_object (omega arith) in
    omega arith

passing : {X : Type 0} (test : X → Bool) (xs : List X) → Each (λ x. test x ≡ true) (filter test xs)
passing test [] = tt
passing {X = X} test (x ∷ xs) = go (test x) refl (passing test xs)
  where
    go : (b : Bool) → test x ≡ b → Each (λ y. test y ≡ true) (filter test xs) → Each (λ y. test y ≡ true) (cond b (x ∷ filter test xs) (filter test xs))
    go true is rest = (is, rest)
    go false is rest = rest

-- of n objects a pair that is a candidate
record IsFound (n : ℕ) (candidate : ℕ × ℕ → Bool) (p : ℕ × ℕ) : Type 0 where
  ordered : p.0 < p.1
  exists : p.1 < n
  passes : candidate p ≡ true

pub found_pairs : (n : ℕ) (candidate : ℕ × ℕ → Bool) (found pairs : List Pair) → All (λ pair. pair.b < n) found → All (λ pair. candidate (objects_of pair) ≡ true) found
    → ((a b : ℕ) → a < b → b < n → candidate (a, b) ≡ true → HasPair found a b) → AreInOrder pairs → ArePairsKept pairs found → ArePairsKept found pairs
    → map objects_of pairs ≡ filter candidate (pairs_of n)
found_pairs n candidate found pairs exist are each order from kept =
    ordered_same IsPairBefore not_both (map objects_of pairs) (filter candidate (pairs_of n)) (ordered_from_AllPairs IsPairBefore (map objects_of pairs) order)
    (ordered_filter IsPairBefore candidate (pairs_of n)
    (ordered_with (λ p. Unit {0}) PairBefore IsPairBefore (λ p q _ _ is. record { first_object = is.first_object; second_object = is.second_object }) (pairs_of n) (anything (pairs_of n)) (Ordered-pairs n)))
    (λ x there.
    let is = each_member (IsFound n candidate) (map objects_of found) x all (exists_from_Contains (map objects_of found) x (from x.0 x.1 (Contains-from_exists (map objects_of pairs) x there))) in
    member_passes candidate x is.passes (pairs_of n) (Exists-pairs n x.0 x.1 is.ordered is.exists))
    (λ x there.
    let is = each_member (IsPair n) (filter candidate (pairs_of n)) x (Each-filter (IsPair n) candidate (pairs_of n) (Each-pairs n)) there in
    exists_from_Contains (map objects_of pairs) x
    (kept x.0 x.1 (each x.0 x.1 is.ordered is.exists (each_member (λ p. candidate p ≡ true) (filter candidate (pairs_of n)) x (passing candidate (pairs_of n)) there))))
  where
    anything : (ps : List (ℕ × ℕ)) → Each (λ p. Unit {0}) ps
    anything [] = tt
    anything (p ∷ ps) = (tt, anything ps)

    each_found : (ps : List Pair) → Each (λ (p : Pair). p.b < n) ps → Each (λ (p : Pair). candidate (objects_of p) ≡ true) ps → Each (λ (p : Pair). IsFound n candidate (objects_of p)) ps
    each_found [] one other = tt
    each_found (p ∷ ps) one other = (record { ordered = p.ordered; exists = one.0; passes = other.0 }, each_found ps one.1 other.1)

    all : Each (IsFound n candidate) (map objects_of found)
    all = Each-map (IsFound n candidate) objects_of found
        (each_found found (each_from_All (λ (p : Pair). p.b < n) found exist) (each_from_All (λ (p : Pair). candidate (objects_of p) ≡ true) found are))

-- pairs that are of a list too have its objects
pub kept_exist : (n : ℕ) (found pairs : List Pair) → All (λ pair. pair.b < n) found → ArePairsKept pairs found → All (λ pair. pair.b < n) pairs
kept_exist n found pairs exist from =
    All-from_each (λ (p : Pair). p.b < n) pairs (go pairs (λ a b there. from a b (Contains-from_exists (map objects_of pairs) (a, b) there)))
  where
    all : Each (λ (x : ℕ × ℕ). x.1 < n) (map objects_of found)
    all = Each-map (λ (x : ℕ × ℕ). x.1 < n) objects_of found (each_from_All (λ (p : Pair). p.b < n) found exist)

    go : (ps : List Pair) → ((a b : ℕ) → Exists (λ (x : ℕ × ℕ). x ≡ (a, b)) (map objects_of ps) → HasPair found a b) → Each (λ (p : Pair). p.b < n) ps
    go [] there = tt
    go (p ∷ ps) there = (
      each_member (λ (x : ℕ × ℕ). x.1 < n) (map objects_of found) (p.a, p.b) all (exists_from_Contains (map objects_of found) (p.a, p.b) (there p.a p.b (inl refl))),
      go ps (λ a b later. there a b (inr later)),
    )
