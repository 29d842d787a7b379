-- Pairs that are in a list.
use Rattle.std.proofs.Common.{◌≡◌, ◌⊎◌, inl, inr, ℕ, ◌<◌, ◌≤◌, ◌&&◌, Bool, true, false, cond, List, [], ◌∷◌, length, filter, All, refl, sym, ap, subst, ◌∙◌, arith}
use Rattle.std.specs.Prelude.{◌||◌, nat_eq}
use Rattle.std.proofs.lemmas.Bool.Decides.{nat_tests}
use Rattle.std.proofs.lemmas.List.Sums.{length-filter, count_by-le-length}
use Rattle.cj_interval.proofs.ListLemmas.{Each, Each-weaker, Exists, All-from_each, member_passes}
use Rattle.cj_case.specs.Pairs.{pairs_of}
use Rattle.cj_case.proofs.PairLemmas.{IsPair, Each-pairs}
use Rattle.cj_candidates.specs.SoughtPairs.{ArePairsOf, is_listed}
use Rattle.cj_candidates.proofs.ObjectLemmas.{each_filtered, filter_both}

-- ---- what is listed

same_pair : (p x : ℕ × ℕ) → p ≡ x → (nat_eq p.0 x.0 && nat_eq p.1 x.1) ≡ true
same_pair p x is = let a : p.0 ≡ x.0 = ap (λ (q : ℕ × ℕ). q.0) is in let b : p.1 ≡ x.1 = ap (λ (q : ℕ × ℕ). q.1) is in grind (arith, nat_tests)

pair_same : (p x : ℕ × ℕ) → (nat_eq p.0 x.0 && nat_eq p.1 x.1) ≡ true → p ≡ x
pair_same p x h = λ i. (first i, second i)
  where
    first : p.0 ≡ x.0
    first = grind (arith, nat_tests)

    second : p.1 ≡ x.1
    second = grind (arith, nat_tests)

either : (a b : Bool) → (a || b) ≡ true → (a ≡ true) ⊎ (b ≡ true)
either true b h = inl refl
either false b h = inr h

or_true : (a : Bool) → (a || true) ≡ true
or_true true = refl
or_true false = refl

pub listed_from : (ps : List (ℕ × ℕ)) (x : ℕ × ℕ) → Exists (λ y. y ≡ x) ps → is_listed ps x ≡ true
listed_from [] x e = absurd e
listed_from (p ∷ ps) x (inl is) = ap (λ (c : Bool). c || is_listed ps x) (same_pair p x is)
listed_from (p ∷ ps) x (inr there) = ap (λ (c : Bool). (nat_eq p.0 x.0 && nat_eq p.1 x.1) || c) (listed_from ps x there) ∙ or_true (nat_eq p.0 x.0 && nat_eq p.1 x.1)

pub listed_to : (ps : List (ℕ × ℕ)) (x : ℕ × ℕ) → is_listed ps x ≡ true → Exists (λ y. y ≡ x) ps
listed_to [] x h = absurd cc
listed_to (p ∷ ps) x h = go (either (nat_eq p.0 x.0 && nat_eq p.1 x.1) (is_listed ps x) h) (λ k. listed_to ps x k)
  where
    go : ((nat_eq p.0 x.0 && nat_eq p.1 x.1) ≡ true) ⊎ (is_listed ps x ≡ true) → (is_listed ps x ≡ true → Exists (λ y. y ≡ x) ps) → Exists (λ y. y ≡ x) (p ∷ ps)
    go (inl here) behind = inl (pair_same p x here)
    go (inr there) behind = inr (behind there)

-- ---- those of a list that pass a test

passed : (test : ℕ × ℕ → Bool) (ps : List (ℕ × ℕ)) (x : ℕ × ℕ) → Exists (λ y. y ≡ x) (filter test ps) → test x ≡ true
passed test [] x e = absurd e
passed test (p ∷ ps) x e = go (λ there. passed test ps x there) (test p) refl e
  where
    go : (Exists (λ y. y ≡ x) (filter test ps) → test x ≡ true) → (c : Bool) → test p ≡ c → Exists (λ y. y ≡ x) (cond c (p ∷ filter test ps) (filter test ps)) → test x ≡ true
    go behind true passes (inl is) = ap test (sym is) ∙ passes
    go behind true passes (inr there) = behind there
    go behind false fails there = behind there

tested : (test : ℕ × ℕ → Bool) (ps : List (ℕ × ℕ)) (x : ℕ × ℕ) → Exists (λ y. y ≡ x) ps → test x ≡ is_listed (filter test ps) x
tested test ps x there = go (test x) refl (is_listed (filter test ps) x) refl
  where
    go : (c : Bool) → test x ≡ c → (d : Bool) → is_listed (filter test ps) x ≡ d → test x ≡ is_listed (filter test ps) x
    go true passes d is = passes ∙ sym (listed_from (filter test ps) x (member_passes test x passes ps there))
    go false fails true is = let yes = passed test ps x (listed_to (filter test ps) x is) in absurd cc
    go false fails false is = fails ∙ sym is

filter_alike : (p q : ℕ × ℕ → Bool) (xs : List (ℕ × ℕ)) → Each (λ x. p x ≡ q x) xs → filter p xs ≡ filter q xs
filter_alike p q [] same = refl
filter_alike p q (x ∷ xs) same = (λ i. cond (same.0 i) (x ∷ filter_alike p q xs same.1 i) (filter_alike p q xs same.1 i))

each_is_there : (ps : List (ℕ × ℕ)) → Each (λ x. Exists (λ y. y ≡ x) ps) ps
each_is_there [] = tt
each_is_there (p ∷ ps) = (inl refl, Each-weaker (λ x. Exists (λ y. y ≡ x) ps) (λ x. Exists (λ y. y ≡ x) (p ∷ ps)) (λ x there. inr there) ps (each_is_there ps))

-- the pairs of n objects that pass a test
pub tested_are : (n : ℕ) (test : ℕ × ℕ → Bool) (pairs : List (ℕ × ℕ)) → pairs ≡ filter test (pairs_of n) → ArePairsOf n pairs
tested_are n test pairs same =
    same
    ∙ filter_alike test (is_listed (filter test (pairs_of n))) (pairs_of n)
    (Each-weaker (λ x. Exists (λ y. y ≡ x) (pairs_of n)) (λ x. test x ≡ is_listed (filter test (pairs_of n)) x) (λ x there. tested test (pairs_of n) x there) (pairs_of n) (each_is_there (pairs_of n)))
    ∙ ap (λ (ps : List (ℕ × ℕ)). filter (is_listed ps) (pairs_of n)) (sym same)

pub all_wanted : (pairs : List (ℕ × ℕ)) → pairs ≡ filter (λ pair. true) pairs
all_wanted [] = refl
all_wanted (pair ∷ pairs) = ap (λ (some : List (ℕ × ℕ)). pair ∷ some) (all_wanted pairs)

-- all of them
pub all_are : (n : ℕ) → ArePairsOf n (pairs_of n)
all_are n = tested_are n (λ pair. true) (pairs_of n) (all_wanted (pairs_of n))

-- ---- what is so of them

-- they are of existing objects
pub are_existing : (n : ℕ) (pairs : List (ℕ × ℕ)) → ArePairsOf n pairs → All (λ pair. pair.1 < n) pairs
are_existing n pairs are =
    All-from_each (λ pair. pair.1 < n) pairs
    (subst (Each (λ (q : ℕ × ℕ). q.1 < n)) (sym are)
    (each_filtered (λ (q : ℕ × ℕ). q.1 < n) (is_listed pairs) (pairs_of n)
    (Each-weaker (IsPair n) (λ (q : ℕ × ℕ). q.1 < n) (λ q is. is.exists) (pairs_of n) (Each-pairs n))))

-- and no more than there are
pub are_few : (n : ℕ) (pairs : List (ℕ × ℕ)) → ArePairsOf n pairs → length pairs ≤ length (pairs_of n)
are_few n pairs are = omega (arith, ap (λ (ps : List (ℕ × ℕ)). length ps) are, length-filter (is_listed pairs) (pairs_of n), count_by-le-length (is_listed pairs) (pairs_of n))

either_order : (p q : ℕ × ℕ → Bool) (ps : List (ℕ × ℕ)) → filter q (filter p ps) ≡ filter p (filter q ps)
either_order p q ps = filter_both p q ps ∙ filter_alike (λ x. p x && q x) (λ x. q x && p x) ps (all ps) ∙ sym (filter_both q p ps)
  where
    turned : (a b : Bool) → (a && b) ≡ (b && a)
    turned true true = refl
    turned true false = refl
    turned false true = refl
    turned false false = refl

    all : (ps : List (ℕ × ℕ)) → Each (λ x. (p x && q x) ≡ (q x && p x)) ps
    all [] = tt
    all (x ∷ ps) = (turned (p x) (q x), all ps)

-- of all pairs that pass a test those that are listed are those of the list that pass it
pub listed_of_passing : (n : ℕ) (test : ℕ × ℕ → Bool) (pairs some found : List (ℕ × ℕ)) → ArePairsOf n pairs → some ≡ filter test (pairs_of n) → found ≡ filter (is_listed pairs) some → found ≡ filter test pairs
listed_of_passing n test pairs some found are same listed =
    listed ∙ ap (filter (is_listed pairs)) same ∙ either_order test (is_listed pairs) (pairs_of n) ∙ ap (filter test) (sym are)
