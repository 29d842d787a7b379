-- Found pairs: sorted, each once, they are the pairs that touch, in order.
use Rattle.std.proofs.Common.{◌≡◌, ◌⊎◌, inl, inr, ℕ, suc, ◌+◌, ◌<◌, ◌≤◌, Bool, true, false, cond, List, [], ◌∷◌, ◌++◌, length, map, drop, drop-cons, filter, get_or, Option, Some, None, refl, sym, ap, subst, ◌∙◌, arith, is_lt, nat_cmp}
use Rattle.std.specs.Prelude.{◌&&◌, nat_eq}
use Rattle.std.specs.Ordering.{ordering_then}
use Rattle.std.specs.declared.cmp.Ordering.{Ordering}
use Rattle.std.specs.Cmp.{IsTotalOrder}
use Rattle.std.specs.List.Sorted.{IsSorted, IsPermutation}
use Rattle.std.proofs.lemmas.Bool.Decides.{nat_tests}
use Rattle.std.proofs.lemmas.Cmp.{then_total, on_total, nat_cmp_total}
use Rattle.std.proofs.lemmas.List.Sorted.{sorted_far, ranks_by, All-permutation, Contains-permutation, IsPermutation-map}
use Rattle.cj_interval.proofs.ListLemmas.{Each, Exists, Ordered, Each-weaker, each_from_All, AreWithin, Each-filter, each_member, exists_from_Contains, member_passes, ordered_same}
use Rattle.cj_case.specs.declared.pair.Pair.{Pair}
use Rattle.cj_case.specs.Pairs.{HasPair, objects_of, pairs_of}
use Rattle.cj_case.proofs.PairLemmas.{IsPair, PairBefore, Each-pairs, Ordered-pairs, Exists-pairs}
use Rattle.cj_case.specs.declared.axis_box.AxisBox.{AxisBox}
use Rattle.cj_case.specs.Boxes.{plain_boxes}
use Rattle.cj_bezier.specs.SlotBoxes.{touch_between}
use Rattle.cj_grid.specs.declared.entries.Entry.{Entry}
use Rattle.cj_grid.specs.Found.{AreTouching, AreInOrder, entry_at, is_again, unrepeated}
use Rattle.cj_grid.proofs.BucketLemmas.{touching_near}

-- ---- entries in order

abbrev pub entry_cmp : Entry → Entry → Ordering
entry_cmp a b = ordering_then (nat_cmp a.bucket b.bucket) (nat_cmp a.object b.object)

entries_total : IsTotalOrder entry_cmp
entries_total = then_total (on_total (λ (e : Entry). e.bucket) nat_cmp_total) (on_total (λ (e : Entry). e.object) nat_cmp_total)

first_up : (a b a' b' : ℕ) → is_lt (ordering_then (nat_cmp a' a) (nat_cmp b' b)) ≡ false → a ≤ a'
first_up a b a' b' h = grind (arith, nat_tests)

second_up : (a b a' b' : ℕ) → is_lt (ordering_then (nat_cmp a' a) (nat_cmp b' b)) ≡ false → a ≡ a' → b ≤ b'
second_up a b a' b' h e = grind (arith, nat_tests)

pub in_order : (entries : List Entry) → IsSorted entry_cmp entries → AreInOrder entries
in_order entries up = record {
  buckets = λ j k le lt. first_up (entry_at entries j).bucket (entry_at entries j).object (entry_at entries k).bucket (entry_at entries k).object (far j k le lt);
  objects = λ j k le lt same. second_up (entry_at entries j).bucket (entry_at entries j).object (entry_at entries k).bucket (entry_at entries k).object (far j k le lt) same;
}
  where
    far : (j k : ℕ) → j ≤ k → k < length entries → is_lt (entry_cmp (entry_at entries k) (entry_at entries j)) ≡ false
    far j k le lt = sorted_far (λ a b. is_lt (entry_cmp a b)) (ranks_by entries_total (λ e. e)) entries up j k (record { bucket = 0; object = 0 }) le lt

-- ---- pairs in order

-- q does not come before p
pub record PairUpTo (p q : ℕ × ℕ) : Type 0 where
  pub first_object : p.0 ≤ q.0
  pub second_object : p.0 ≡ q.0 → p.1 ≤ q.1

up_to_trans : (p q r : ℕ × ℕ) → PairUpTo p q → PairUpTo q r → PairUpTo p r
up_to_trans p q r h k = record {
  first_object = let a = h.first_object in let b = k.first_object in omega arith;
  second_object = λ e.
      let a = h.first_object in let b = k.first_object in
      let ab : p.0 ≡ q.0 = omega arith in
      let bc : q.0 ≡ r.0 = omega arith in
      let c = h.second_object ab in
      let d = k.second_object bc in
      omega arith;
}

abbrev pub pair_cmp : Pair → Pair → Ordering
pair_cmp p q = ordering_then (nat_cmp p.a q.a) (nat_cmp p.b q.b)

next_up_to : (p q : Pair) → is_lt (pair_cmp q p) ≡ false → PairUpTo (objects_of p) (objects_of q)
next_up_to p q h = record { first_object = first_up p.a p.b q.a q.b h; second_object = second_up p.a p.b q.a q.b h }

-- neighbours in order are all in order
pub Ordered-sorted : (pairs : List Pair) → IsSorted pair_cmp pairs → Ordered PairUpTo (map objects_of pairs)
Ordered-sorted [] h = tt
Ordered-sorted (p ∷ []) h = (tt, tt)
Ordered-sorted (p ∷ q ∷ pairs) h =
    let first : PairUpTo (objects_of p) (objects_of q) = next_up_to p q (h 0 p (omega arith) (omega arith)) in
    let rest = Ordered-sorted (q ∷ pairs) (λ k x low lt. let n : suc (k + 1) ≡ suc k + 1 = omega arith in let step = h (suc k) x (omega arith) (omega arith) in rw (← n) at step) in
    ((first, Each-weaker (PairUpTo (objects_of q)) (PairUpTo (objects_of p)) (λ r later. up_to_trans (objects_of p) (objects_of q) r first later) (map objects_of pairs) rest.0), rest)

-- ---- each once

same_pair : (p q : ℕ × ℕ) → (nat_eq p.0 q.0 && nat_eq p.1 q.1) ≡ true → p ≡ q
same_pair p q h = λ i. (first i, second i)
  where
    first : p.0 ≡ q.0
    first = grind (arith, nat_tests)

    second : p.1 ≡ q.1
    second = grind (arith, nat_tests)

other_pair : (p q : ℕ × ℕ) → (nat_eq p.0 q.0 && nat_eq p.1 q.1) ≡ false → PairUpTo p q → PairBefore p q
other_pair p q h up = record {
  first_object = up.first_object;
  second_object = λ e. let le = up.second_object e in grind (arith, nat_tests);
}

before_up : (p q r : ℕ × ℕ) → PairBefore p q → PairUpTo q r → PairBefore p r
before_up p q r h k = record {
  first_object = let a = h.first_object in let b = k.first_object in omega arith;
  second_object = λ e.
      let a = h.first_object in let b = k.first_object in
      let ab : p.0 ≡ q.0 = omega arith in
      let bc : q.0 ≡ r.0 = omega arith in
      let c = h.second_object ab in
      let d = k.second_object bc in
      omega arith;
}

before_is_up : (p q : ℕ × ℕ) → PairBefore p q → PairUpTo p q
before_is_up p q h = record { first_object = h.first_object; second_object = λ e. let lt = h.second_object e in omega arith }

-- what is given after q comes after it, each before those behind it
record IsRising (q : ℕ × ℕ) (ps : List (ℕ × ℕ)) : Type 0 where
  after : Each (PairBefore q) ps
  ordered : Ordered PairBefore ps

rising : (q : ℕ × ℕ) (ps : List (ℕ × ℕ)) → Each (PairUpTo q) ps → Ordered PairUpTo ps → IsRising q (unrepeated (Some q) ps)
rising q [] all o = record { after = tt; ordered = tt }
rising q (p ∷ ps) all o = decided (nat_eq q.0 p.0 && nat_eq q.1 p.1) refl (rising p ps o.0 o.1)
  where
    decided : (c : Bool) → (nat_eq q.0 p.0 && nat_eq q.1 p.1) ≡ c → IsRising p (unrepeated (Some p) ps) → IsRising q (cond c (unrepeated (Some p) ps) (p ∷ unrepeated (Some p) ps))
    decided true same rest = subst (λ (r : ℕ × ℕ). IsRising r (unrepeated (Some p) ps)) (sym (same_pair q p same)) rest
    decided false differ rest =
        let first = other_pair q p differ all.0 in
        record {
          after = (first, Each-weaker (PairBefore p) (PairBefore q) (λ r later. before_up q p r first (before_is_up p r later)) (unrepeated (Some p) ps) rest.after);
          ordered = (rest.after, rest.ordered);
        }

pub Ordered-unrepeated : (ps : List (ℕ × ℕ)) → Ordered PairUpTo ps → Ordered PairBefore (unrepeated None ps)
Ordered-unrepeated [] o = tt
Ordered-unrepeated (p ∷ ps) o = let rest = rising p ps o.0 o.1 in (rest.after, rest.ordered)

Each-after : (P : ℕ × ℕ → Type 0) (q : ℕ × ℕ) (ps : List (ℕ × ℕ)) → Each P ps → Each P (unrepeated (Some q) ps)
Each-after P q [] all = tt
Each-after P q (p ∷ ps) all = decided (nat_eq q.0 p.0 && nat_eq q.1 p.1) (Each-after P p ps all.1)
  where
    decided : (c : Bool) → Each P (unrepeated (Some p) ps) → Each P (cond c (unrepeated (Some p) ps) (p ∷ unrepeated (Some p) ps))
    decided true rest = rest
    decided false rest = (all.0, rest)

pub Each-unrepeated : (P : ℕ × ℕ → Type 0) (ps : List (ℕ × ℕ)) → Each P ps → Each P (unrepeated None ps)
Each-unrepeated P [] all = tt
Each-unrepeated P (p ∷ ps) all = (all.0, Each-after P p ps all.1)

Exists-after : (x q : ℕ × ℕ) (ps : List (ℕ × ℕ)) → Exists (λ y. y ≡ x) ps → (q ≡ x) ⊎ Exists (λ y. y ≡ x) (unrepeated (Some q) ps)
Exists-after x q [] e = absurd e
Exists-after x q (p ∷ ps) e = decided (nat_eq q.0 p.0 && nat_eq q.1 p.1) refl (here (λ later. Exists-after x p ps later) e)
  where
    here : (Exists (λ y. y ≡ x) ps → (p ≡ x) ⊎ Exists (λ y. y ≡ x) (unrepeated (Some p) ps)) → Exists (λ y. y ≡ x) (p ∷ ps) → (p ≡ x) ⊎ Exists (λ y. y ≡ x) (unrepeated (Some p) ps)
    here behind (inl same) = inl same
    here behind (inr later) = behind later

    decided : (c : Bool) → (nat_eq q.0 p.0 && nat_eq q.1 p.1) ≡ c → (p ≡ x) ⊎ Exists (λ y. y ≡ x) (unrepeated (Some p) ps)
        → (q ≡ x) ⊎ Exists (λ y. y ≡ x) (cond c (unrepeated (Some p) ps) (p ∷ unrepeated (Some p) ps))
    decided true same (inl is) = inl (same_pair q p same ∙ is)
    decided true same (inr later) = inr later
    decided false differ (inl is) = inr (inl is)
    decided false differ (inr later) = inr (inr later)

pub Exists-unrepeated : (x : ℕ × ℕ) (ps : List (ℕ × ℕ)) → Exists (λ y. y ≡ x) ps → Exists (λ y. y ≡ x) (unrepeated None ps)
Exists-unrepeated x [] e = absurd e
Exists-unrepeated x (p ∷ ps) (inl is) = inl is
Exists-unrepeated x (p ∷ ps) (inr later) = Exists-after x p ps later

not_both : (p q : ℕ × ℕ) → PairBefore p q → PairBefore q p → ⊥
not_both p q h k =
    let a = h.first_object in
    let b = k.first_object in
    let c = h.second_object (omega arith) in
    let d = k.second_object (omega arith) in
    omega arith

-- ---- the pairs that touch

Ordered-filter : (R : ℕ × ℕ → ℕ × ℕ → Type 0) (test : ℕ × ℕ → Bool) (ps : List (ℕ × ℕ)) → Ordered R ps → Ordered R (filter test ps)
Ordered-filter R test [] o = tt
Ordered-filter R test (p ∷ ps) o = decided (test p) (Ordered-filter R test ps o.1)
  where
    decided : (c : Bool) → Ordered R (filter test ps) → Ordered R (cond c (p ∷ filter test ps) (filter test ps))
    decided true rest = (Each-filter (R p) test ps o.0, rest)
    decided false rest = rest

-- those of a filtered list are of the whole one and pass
record IsPassing (test : ℕ × ℕ → Bool) (ps : List (ℕ × ℕ)) (x : ℕ × ℕ) : Type 0 where
  is_there : Exists (λ y. y ≡ x) ps
  passes : test x ≡ true

passing : (test : ℕ × ℕ → Bool) (ps : List (ℕ × ℕ)) (x : ℕ × ℕ) → Exists (λ y. y ≡ x) (filter test ps) → IsPassing test ps x
passing test [] x e = absurd e
passing test (p ∷ ps) x e = decided (λ there. passing test ps x there) (test p) refl e
  where
    further : IsPassing test ps x → IsPassing test (p ∷ ps) x
    further rest = record { is_there = inr rest.is_there; passes = rest.passes }

    decided : (Exists (λ y. y ≡ x) (filter test ps) → IsPassing test ps x) → (c : Bool) → test p ≡ c → Exists (λ y. y ≡ x) (cond c (p ∷ filter test ps) (filter test ps)) → IsPassing test (p ∷ ps) x
    decided behind true passes (inl is) = record { is_there = inl is; passes = ap test (sym is) ∙ passes }
    decided behind true passes (inr there) = further (behind there)
    decided behind false fails there = further (behind there)

-- found pairs that touch, with each that touches among them
abbrev pub AllFound : ℕ → List ℕ → List (Option AxisBox) → List Pair → Type 0
AllFound thr sizes boxes pairs = (a b : ℕ) → a < b → touch_between thr sizes (plain_boxes boxes) (a, b) ≡ true → HasPair pairs a b

pub record IsTouchingPair (thr : ℕ) (sizes : List ℕ) (boxes : List (Option AxisBox)) (p : ℕ × ℕ) : Type 0 where
  pub pair : IsPair (length boxes) p
  pub touches : touch_between thr sizes (plain_boxes boxes) p ≡ true

pub touching_ones : (thr : ℕ) (sizes : List ℕ) (boxes : List (Option AxisBox)) (pairs : List Pair) → AreTouching thr sizes boxes pairs → Each (IsTouchingPair thr sizes boxes) (map objects_of pairs)
touching_ones thr sizes boxes pairs all = go pairs (each_from_All (λ pair. touch_between thr sizes (plain_boxes boxes) (objects_of pair) ≡ true) pairs all)
  where
    go : (pairs : List Pair) → Each (λ pair. touch_between thr sizes (plain_boxes boxes) (objects_of pair) ≡ true) pairs → Each (IsTouchingPair thr sizes boxes) (map objects_of pairs)
    go [] all = tt
    go (p ∷ ps) all = (record { pair = record { ordered = p.ordered; exists = (touching_near thr sizes boxes p.a p.b all.0).second_exists }; touches = all.0 }, go ps all.1)

pub found_is : (thr : ℕ) (sizes : List ℕ) (boxes : List (Option AxisBox)) (ps : List (ℕ × ℕ)) → Ordered PairUpTo ps → Each (IsTouchingPair thr sizes boxes) ps
    → ((a b : ℕ) → a < b → touch_between thr sizes (plain_boxes boxes) (a, b) ≡ true → Exists (λ y. y ≡ (a, b)) ps)
    → unrepeated None ps ≡ filter (touch_between thr sizes (plain_boxes boxes)) (pairs_of (length boxes))
found_is thr sizes boxes ps o all each = ordered_same PairBefore not_both (unrepeated None ps) (filter test (pairs_of n)) (Ordered-unrepeated ps o) (Ordered-filter PairBefore test (pairs_of n) (Ordered-pairs n)) there back
  where
    n : ℕ
    n = length boxes

    test : ℕ × ℕ → Bool
    test = touch_between thr sizes (plain_boxes boxes)

    there : AreWithin (unrepeated None ps) (filter test (pairs_of n))
    there x e =
        let is = each_member (IsTouchingPair thr sizes boxes) (unrepeated None ps) x (Each-unrepeated (IsTouchingPair thr sizes boxes) ps all) e in
        member_passes test x is.touches (pairs_of n) (Exists-pairs n x.0 x.1 is.pair.ordered is.pair.exists)

    back : AreWithin (filter test (pairs_of n)) (unrepeated None ps)
    back x e =
        let is = passing test (pairs_of n) x e in
        let pair = each_member (IsPair n) (pairs_of n) x (Each-pairs n) is.is_there in
        Exists-unrepeated x ps (each x.0 x.1 pair.ordered is.passes)

-- found in any order, and then sorted
pub found_sorted : (thr : ℕ) (sizes : List ℕ) (boxes : List (Option AxisBox)) (found sorted : List Pair) → IsPermutation found sorted → IsSorted pair_cmp sorted → AreTouching thr sizes boxes found → AllFound thr sizes boxes found
    → unrepeated None (map objects_of sorted) ≡ filter (touch_between thr sizes (plain_boxes boxes)) (pairs_of (length boxes))
found_sorted thr sizes boxes found sorted moved up touching each =
    found_is thr sizes boxes (map objects_of sorted) (Ordered-sorted sorted up)
    (touching_ones thr sizes boxes sorted (All-permutation (λ pair. touch_between thr sizes (plain_boxes boxes) (objects_of pair) ≡ true) found sorted moved touching))
    (λ a b lt touch. exists_from_Contains (map objects_of sorted) (a, b) (Contains-permutation (map objects_of found) (map objects_of sorted) (a, b) (IsPermutation-map objects_of found sorted moved) (each a b lt touch)))

-- ---- each once

ahead : (sorted : List Pair) (i : ℕ) (pair : Pair) → i < length sorted → pair ≡ get_or sorted i pair → map objects_of (drop i sorted) ≡ objects_of pair ∷ map objects_of (drop (i + 1) sorted)
ahead sorted i pair below is =
    let next : i + 1 ≡ suc i = omega arith in
    rw next (ap (map objects_of) (drop-cons sorted i pair below ∙ ap (λ (p : Pair). p ∷ drop (suc i) sorted) (sym is)))

-- a turn of the loop: a pair that was the last one, and another
pub turn_again : (sorted : List Pair) (i : ℕ) (pair : Pair) (kept whole : List (ℕ × ℕ)) (last : Option (ℕ × ℕ)) → i < length sorted → pair ≡ get_or sorted i pair → is_again last (objects_of pair) ≡ true
    → kept ++ unrepeated last (map objects_of (drop i sorted)) ≡ whole → kept ++ unrepeated (Some (objects_of pair)) (map objects_of (drop (i + 1) sorted)) ≡ whole
turn_again sorted i pair kept whole last below is again so_far =
    let here = ap (unrepeated last) (ahead sorted i pair below is) in
    let left : unrepeated last (objects_of pair ∷ map objects_of (drop (i + 1) sorted)) ≡ unrepeated (Some (objects_of pair)) (map objects_of (drop (i + 1) sorted)) = rw again refl in
    ap (λ (xs : List (ℕ × ℕ)). kept ++ xs) (sym (here ∙ left)) ∙ so_far

pub turn_new : (sorted : List Pair) (i : ℕ) (pair : Pair) (pairs : List Pair) (whole : List (ℕ × ℕ)) (last : Option (ℕ × ℕ)) → i < length sorted → pair ≡ get_or sorted i pair → is_again last (objects_of pair) ≡ false
    → map objects_of pairs ++ unrepeated last (map objects_of (drop i sorted)) ≡ whole → map objects_of (pairs ++ pair ∷ []) ++ unrepeated (Some (objects_of pair)) (map objects_of (drop (i + 1) sorted)) ≡ whole
turn_new sorted i pair pairs whole last below is fresh so_far =
    let rest = unrepeated (Some (objects_of pair)) (map objects_of (drop (i + 1) sorted)) in
    let here = ap (unrepeated last) (ahead sorted i pair below is) in
    let left : unrepeated last (objects_of pair ∷ map objects_of (drop (i + 1) sorted)) ≡ objects_of pair ∷ rest = rw fresh refl in
    pushed pairs pair rest ∙ ap (λ (xs : List (ℕ × ℕ)). map objects_of pairs ++ xs) (sym (here ∙ left)) ∙ so_far
  where
    pushed : (pairs : List Pair) (pair : Pair) (rest : List (ℕ × ℕ)) → map objects_of (pairs ++ pair ∷ []) ++ rest ≡ map objects_of pairs ++ objects_of pair ∷ rest
    pushed [] pair rest = refl
    pushed (p ∷ pairs) pair rest = ap (λ (xs : List (ℕ × ℕ)). objects_of p ∷ xs) (pushed pairs pair rest)
