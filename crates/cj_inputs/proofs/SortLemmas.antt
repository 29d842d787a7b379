-- Sorting by insertion: what std's sort gives is what insertion does.
use Rattle.std.proofs.Common.{◌≡◌, ◌+◌, List, [], ◌∷◌, Bool, true, false, cond, refl, sym, ap, ◌∙◌, arith}
use Rattle.std.specs.declared.cmp.Ordering.{Ordering}
use Rattle.std.specs.declared.cmp.Ordering.TheVariants.{Less, Equal, Greater}
use Rattle.std.specs.Cmp.{IsTotalOrder}
use Rattle.std.specs.Ordering.{is_lt, is_eq, is_gt, ordering_reverse}
use Rattle.std.specs.List.Sorted.{IsSorted, IsPermutation}
use Rattle.std.proofs.lemmas.Cmp.{upto}
use Rattle.std.proofs.lemmas.List.Sorted.{sum_by-IsPermutation}
use Rattle.std.proofs.lemmas.Map.Lookups.{CmpEqualImpliesEq}
use Rattle.cj_interval.proofs.OrderLemmas.{NoneBefore, Rises, count, count_cons, lt_of, rising_unique, rises_from_sorted}
use Rattle.cj_inputs.specs.Orders.{inserted, sorted}

-- ---- sorting by insertion

-- an item that is inserted counts once more
count_inserted : {K : Type 0} (R : K → K → Ordering) (z x : K) (ys : List K) → count R z (inserted R x ys) ≡ cond (is_eq (R z x)) 1 0 + count R z ys
count_inserted R z x [] = count_cons R z x []
count_inserted {K} R z x (y ∷ ys) = chosen (is_lt (R y x)) (count_inserted R z x ys)
  where
    chosen : (b : Bool) → count R z (inserted R x ys) ≡ cond (is_eq (R z x)) 1 0 + count R z ys → count R z (cond b (y ∷ inserted R x ys) (x ∷ y ∷ ys)) ≡ cond (is_eq (R z x)) 1 0 + count R z (y ∷ ys)
    chosen true later = omega (arith, count_cons R z y (inserted R x ys), later, count_cons R z y ys)
    chosen false later = count_cons R z x (y ∷ ys)

pub count_sorted : {K : Type 0} (R : K → K → Ordering) (z : K) (xs : List K) → count R z (sorted R xs) ≡ count R z xs
count_sorted R z [] = refl
count_sorted R z (x ∷ xs) = omega (arith, count_inserted R z x (sorted R xs), count_sorted R z xs, count_cons R z x xs)

-- what comes before none of the items and not before x comes before none of them with x inserted
none_inserted : {K : Type 0} (R : K → K → Ordering) (z x : K) (ys : List K) → is_lt (R x z) ≡ false → NoneBefore R z ys → NoneBefore R z (inserted R x ys)
none_inserted R z x [] h none = (h, tt)
none_inserted {K} R z x (y ∷ ys) h none = chosen (is_lt (R y x)) (none_inserted R z x ys h none.1)
  where
    chosen : (b : Bool) → NoneBefore R z (inserted R x ys) → NoneBefore R z (cond b (y ∷ inserted R x ys) (x ∷ y ∷ ys))
    chosen true later = (none.0, later)
    chosen false later = (h, none)

-- where y does not come before x, none of the items after y does
none_after : {K : Type 0} {R : K → K → Ordering} (o : IsTotalOrder R) (x y : K) (ys : List K) → is_lt (R y x) ≡ false → NoneBefore R y ys → NoneBefore R x ys
none_after o x y [] h none = tt
none_after {K} {R} o x y (z ∷ zs) h none =
    (turned x z ∙ upto o x y z (sym (turned x y) ∙ h) (sym (turned y z) ∙ none.0), none_after o x y zs h none.1)
  where
    turned_answer : (r : Ordering) → is_lt (ordering_reverse r) ≡ is_gt r
    turned_answer Less = refl
    turned_answer Equal = refl
    turned_answer Greater = refl

    turned : (a b : K) → is_lt (R b a) ≡ is_gt (R a b)
    turned a b = ap is_lt (o.antisymm b a) ∙ turned_answer (R a b)

flipped : {K : Type 0} {R : K → K → Ordering} (o : IsTotalOrder R) (x y : K) → is_lt (R y x) ≡ true → is_lt (R x y) ≡ false
flipped {K} {R} o x y h = ap is_lt (o.antisymm x y ∙ ap ordering_reverse (lt_of (R y x) h))

rises_inserted : {K : Type 0} {R : K → K → Ordering} (o : IsTotalOrder R) (x : K) (ys : List K) → Rises R ys → Rises R (inserted R x ys)
rises_inserted o x [] p = (tt, tt)
rises_inserted {K} {R} o x (y ∷ ys) p = decided (is_lt (R y x)) refl (rises_inserted o x ys p.1)
  where
    decided : (b : Bool) → is_lt (R y x) ≡ b → Rises R (inserted R x ys) → Rises R (cond b (y ∷ inserted R x ys) (x ∷ y ∷ ys))
    decided true h later = (none_inserted R y x ys (flipped o x y h) p.0, later)
    decided false h later = ((h, none_after o x y ys h p.0), p)

pub rises_sorted : {K : Type 0} {R : K → K → Ordering} → IsTotalOrder R → (xs : List K) → Rises R (sorted R xs)
rises_sorted o [] = tt
rises_sorted o (x ∷ xs) = rises_inserted o x (sorted _ xs) (rises_sorted o xs)

-- std's sort gives what insertion does
pub sort_is : {K : Type 0} {R : K → K → Ordering} → IsTotalOrder R → CmpEqualImpliesEq R → (old new : List K) → IsPermutation old new → IsSorted R new → new ≡ sorted R old
sort_is {K} {R} o exact old new moved up =
    rising_unique o exact new (sorted R old) (rises_from_sorted o new up) (rises_sorted o old)
    (λ z. sum_by-IsPermutation (λ x. cond (is_eq (R z x)) 1 0) old new moved ∙ sym (count_sorted R z old))
