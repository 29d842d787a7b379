-- A binary search in a list of pairs says whether a pair is in it.
use Rattle.std.proofs.Common.{◌≡◌, ◌⊎◌, inl, inr, ℕ, zero, suc, ◌<◌, ◌≤◌, ◌&&◌, Bool, true, false, cond, List, [], ◌∷◌, length, get_or, map, filter, Result, Ok, Err, refl, sym, ap, subst, ◌∙◌, arith, nat_cmp}
use Rattle.std.specs.Prelude.{◌||◌, nat_eq, is_ok, AllPairs}
use Rattle.std.specs.List.Sorted.{IsBinarySearchResult, IsNonDecreasingBy, IsSearchInRange}
use Rattle.std.specs.declared.cmp.Ordering.{Ordering}
use Rattle.std.specs.declared.cmp.Ordering.TheVariants.{Less, Equal, Greater}
use Rattle.std.specs.Ordering.{ordering_index, ordering_then}
use Rattle.std.proofs.lemmas.Bool.{cases_lt}
use Rattle.std.proofs.lemmas.Bool.Decides.{nat_tests}
use Rattle.cj_interval.proofs.ListLemmas.{Ordered, AllPairs-from_ordered, Each, Each-filter, each_from_map}
use Rattle.cj_case.specs.declared.pair.Pair.{Pair}
use Rattle.cj_case.specs.Pairs.{objects_of, pairs_of}
use Rattle.cj_case.proofs.PairLemmas.{PairBefore, Ordered-pairs}
use Rattle.cj_candidates.specs.SoughtPairs.{ArePairsOf, is_listed}

abbrev pub pair_cmp : Pair → Pair → Ordering
pair_cmp p q = ordering_then (nat_cmp p.a q.a) (nat_cmp p.b q.b)

-- ---- pairs in order

ordered_filtered : (test : ℕ × ℕ → Bool) (ps : List (ℕ × ℕ)) → Ordered PairBefore ps → Ordered PairBefore (filter test ps)
ordered_filtered test [] o = tt
ordered_filtered test (p ∷ ps) o = go (test p) (ordered_filtered test ps o.1)
  where
    go : (c : Bool) → Ordered PairBefore (filter test ps) → Ordered PairBefore (cond c (p ∷ filter test ps) (filter test ps))
    go true rest = (Each-filter (PairBefore p) test ps o.0, rest)
    go false rest = rest

ordered_before_map : (pairs : List Pair) → Ordered PairBefore (map objects_of pairs) → Ordered (λ p q. PairBefore (objects_of p) (objects_of q)) pairs
ordered_before_map [] o = tt
ordered_before_map (p ∷ pairs) o = (each_from_map (PairBefore (objects_of p)) objects_of pairs o.0, ordered_before_map pairs o.1)

in_order : (n : ℕ) (pairs : List Pair) → ArePairsOf n (map objects_of pairs) → AllPairs (λ p q. PairBefore (objects_of p) (objects_of q)) pairs
in_order n pairs are =
    AllPairs-from_ordered (λ p q. PairBefore (objects_of p) (objects_of q)) pairs
    (ordered_before_map pairs (subst (Ordered PairBefore) (sym are) (ordered_filtered (is_listed (map objects_of pairs)) (pairs_of n) (Ordered-pairs n))))

-- the comparisons with a pair rise along them
index_up : (a b c d x y : ℕ) → a ≤ c → (a ≡ c → b < d) → ordering_index (ordering_then (nat_cmp a x) (nat_cmp b y)) ≤ ordering_index (ordering_then (nat_cmp c x) (nat_cmp d y))
index_up a b c d x y le lt = grind (arith, nat_tests)

comparisons_rise : (n : ℕ) (pairs : List Pair) (x : Pair) → ArePairsOf n (map objects_of pairs) → IsNonDecreasingBy (λ y. ordering_index (pair_cmp y x)) pairs
comparisons_rise n pairs x are i j d le lt = go (cases_lt i j)
  where
    go : (i < j) ⊎ (j ≤ i) → ordering_index (pair_cmp (get_or pairs i d) x) ≤ ordering_index (pair_cmp (get_or pairs j d) x)
    go (inl before) =
        let p = get_or pairs i d in
        let q = get_or pairs j d in
        let up = in_order n pairs are i j d before lt in
        index_up p.a p.b q.a q.b x.a x.b up.first_object up.second_object
    go (inr behind) =
        let same : i ≡ j = omega arith in
        subst (λ (k : ℕ). ordering_index (pair_cmp (get_or pairs i d) x) ≤ ordering_index (pair_cmp (get_or pairs k d) x)) same (omega arith)

-- ---- what is found

equal_same : (a b x y : ℕ) → ordering_then (nat_cmp a x) (nat_cmp b y) ≡ Equal → (nat_eq a x && nat_eq b y) ≡ true
equal_same a b x y is = grind (arith, nat_tests)

less_differs : (a b x y : ℕ) → ordering_then (nat_cmp a x) (nat_cmp b y) ≡ Less → (nat_eq a x && nat_eq b y) ≡ false
less_differs a b x y is = grind (arith, nat_tests)

greater_differs : (a b x y : ℕ) → ordering_then (nat_cmp a x) (nat_cmp b y) ≡ Greater → (nat_eq a x && nat_eq b y) ≡ false
greater_differs a b x y is = grind (arith, nat_tests)

or_true : (a : Bool) → (a || true) ≡ true
or_true true = refl
or_true false = refl

some_listed : (pairs : List Pair) (x : Pair) (k : ℕ) (d : Pair) → k < length pairs → pair_cmp (get_or pairs k d) x ≡ Equal → is_listed (map objects_of pairs) (objects_of x) ≡ true
some_listed [] x k d lt is = absurd (omega (arith, lt))
some_listed (p ∷ pairs) x zero d lt is = ap (λ (c : Bool). c || is_listed (map objects_of pairs) (objects_of x)) (equal_same p.a p.b x.a x.b is)
some_listed (p ∷ pairs) x (suc k) d lt is =
    ap (λ (c : Bool). (nat_eq p.a x.a && nat_eq p.b x.b) || c) (some_listed pairs x k d (omega (arith, lt)) is) ∙ or_true (nat_eq p.a x.a && nat_eq p.b x.b)

none_listed : (pairs : List Pair) (x : Pair) → ((k : ℕ) (d : Pair) → k < length pairs → (nat_eq (get_or pairs k d).a x.a && nat_eq (get_or pairs k d).b x.b) ≡ false)
    → is_listed (map objects_of pairs) (objects_of x) ≡ false
none_listed [] x differ = refl
none_listed (p ∷ pairs) x differ =
    ap (λ (c : Bool). c || is_listed (map objects_of pairs) (objects_of x)) (differ 0 p (omega arith)) ∙ none_listed pairs x (λ k d lt. differ (suc k) d (omega (arith, lt)))

pub searched : (n : ℕ) (pairs : List Pair) (x : Pair) (r : Result ℕ ℕ) → ArePairsOf n (map objects_of pairs) → IsSearchInRange r (length pairs)
    → IsBinarySearchResult (λ y. pair_cmp y x) pairs r → is_ok r ≡ is_listed (map objects_of pairs) (objects_of x)
searched n pairs x (Ok k) are lt equal = sym (some_listed pairs x k x lt (equal x))
searched n pairs x (Err at) are within parted = sym (none_listed pairs x differ)
  where
    differ : (k : ℕ) (d : Pair) → k < length pairs → (nat_eq (get_or pairs k d).a x.a && nat_eq (get_or pairs k d).b x.b) ≡ false
    differ k d lt = go (cases_lt k at)
      where
        go : (k < at) ⊎ (at ≤ k) → (nat_eq (get_or pairs k d).a x.a && nat_eq (get_or pairs k d).b x.b) ≡ false
        go (inl before) = less_differs (get_or pairs k d).a (get_or pairs k d).b x.a x.b ((parted (comparisons_rise n pairs x are)).0 k d (omega arith) before)
        go (inr behind) = greater_differs (get_or pairs k d).a (get_or pairs k d).b x.a x.b ((parted (comparisons_rise n pairs x are)).1 k d behind lt)
