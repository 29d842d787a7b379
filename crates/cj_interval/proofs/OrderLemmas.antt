-- Lists in order, with as many of each item, are one list.
use Rattle.std.proofs.Common.{◌≡◌, ℕ, suc, ◌+◌, ◌<◌, List, [], ◌∷◌, length, get_or, Bool, true, false, cond, refl, sym, ap, subst, ◌∙◌, arith}
use Rattle.std.specs.Prelude.{count_by}
use Rattle.std.specs.declared.cmp.Ordering.{Ordering}
use Rattle.std.specs.declared.cmp.Ordering.TheVariants.{Less, Equal, Greater}
use Rattle.std.specs.Cmp.{IsTotalOrder}
use Rattle.std.specs.Ordering.{is_lt, is_eq, ordering_reverse}
use Rattle.std.specs.List.{AllByRecursion}
use Rattle.std.specs.List.Sorted.{IsSorted}
use Rattle.std.proofs.lemmas.Cmp.{tied_itself, tied_back}
use Rattle.std.proofs.lemmas.List.Sums.{sum_by-cons}
use Rattle.std.proofs.lemmas.List.Sorted.{sorted_far, ranks_by}
use Rattle.std.proofs.lemmas.Map.Lookups.{CmpEqualImpliesEq}

-- none of the items comes before x
abbrev pub NoneBefore : {K : Type 0} → (K → K → Ordering) → K → List K → Type 0
NoneBefore R x ys = AllByRecursion (λ y. is_lt (R y x) ≡ false) ys

-- none comes before one that stands earlier
abbrev pub Rises : {K : Type 0} → (K → K → Ordering) → List K → Type 0
Rises R [] = Unit {0}
Rises R (x ∷ xs) = NoneBefore R x xs × Rises R xs

-- how many of the items tie with z
abbrev pub count : {K : Type 0} → (K → K → Ordering) → K → List K → ℕ
count R z xs = count_by (λ x. is_eq (R z x)) xs

pub count_cons : {K : Type 0} (R : K → K → Ordering) (z x : K) (xs : List K) → count R z (x ∷ xs) ≡ cond (is_eq (R z x)) 1 0 + count R z xs
count_cons R z x xs = sum_by-cons (λ y. cond (is_eq (R z y)) 1 0) x xs

-- ---- three answers of an order

less_not : (o : Ordering) → is_lt (ordering_reverse o) ≡ false → is_lt o ≡ false → o ≡ Equal
less_not Less p q = absurd cc
less_not Equal p q = refl
less_not Greater p q = absurd cc

pub lt_of : (o : Ordering) → is_lt o ≡ true → o ≡ Less
lt_of Less h = refl
lt_of Equal h = absurd cc
lt_of Greater h = absurd cc

-- the two items tie, where neither comes before the other
tie : {K : Type 0} {R : K → K → Ordering} (o : IsTotalOrder R) (x y : K) → is_lt (R x y) ≡ false → is_lt (R y x) ≡ false → R x y ≡ Equal
tie {K} {R} o x y p q = less_not (R x y) (subst (λ (r : Ordering). is_lt r ≡ false) (o.antisymm y x) q) p

-- what comes before the first of a rising list, and is no item that ties with it, ties with none
none_ties : {K : Type 0} {R : K → K → Ordering} (o : IsTotalOrder R) (x : K) (ys : List K) → AllByRecursion (λ y. is_lt (R x y) ≡ true) ys → count R x ys ≡ 0
none_ties {K} {R} o x [] all = refl
none_ties {K} {R} o x (y ∷ ys) all =
    let here : is_eq (R x y) ≡ false = ap is_eq (lt_of (R x y) all.0) in
    let rest = none_ties o x ys all.1 in
    let first : cond {A = ℕ} (is_eq (R x y)) 1 0 ≡ 0 = ap (λ (b : Bool). cond {A = ℕ} b 1 0) here in
    omega (arith, count_cons R x y ys, rest, first)

-- what is before y is before all that y is not after
before_all : {K : Type 0} {R : K → K → Ordering} (o : IsTotalOrder R) (x y : K) (ys : List K) → is_lt (R x y) ≡ true → NoneBefore R y ys → AllByRecursion (λ z. is_lt (R x z) ≡ true) ys
before_all o x y [] less none = tt
before_all {K} {R} o x y (z ∷ zs) less none = (goes_on (R y z) refl, before_all o x y zs less none.1)
  where
    same : (z y : K) → R z y ≡ Equal → R x y ≡ R x z
    same z y h = o.antisymm x y ∙ ap ordering_reverse (sym (o.congr z y x h)) ∙ sym (o.antisymm x z)

    contradiction : (r : Ordering) → r ≡ Less → is_lt r ≡ false → ⊥
    contradiction r e f = absurd cc

    goes_on : (r : Ordering) → R y z ≡ r → is_lt (R x z) ≡ true
    goes_on Less h = ap is_lt (o.trans x y z (lt_of (R x y) less) h)
    goes_on Equal h = ap is_lt (sym (same z y (tied_back o y z h)) ∙ lt_of (R x y) less)
    goes_on Greater h = absurd (contradiction (R z y) (o.antisymm z y ∙ ap ordering_reverse h) none.0)

one_if : (b : Bool) → b ≡ true → cond {A = ℕ} b 1 0 ≡ 1
one_if b h = ap (λ (b : Bool). cond {A = ℕ} b 1 0) h

one_more : (b : Bool) (m n : ℕ) → cond b 1 0 + m ≡ cond b 1 0 + n → m ≡ n
one_more b m n h = omega arith

-- rising lists with as many of each item are one
pub rising_unique : {K : Type 0} {R : K → K → Ordering} → IsTotalOrder R → CmpEqualImpliesEq R → (xs ys : List K) → Rises R xs → Rises R ys
    → ((z : K) → count R z xs ≡ count R z ys) → xs ≡ ys
rising_unique o exact [] [] p q same = refl
rising_unique {K} {R} o exact [] (y ∷ ys) p q same =
    absurd (omega (arith, same y, count_cons R y y ys, one_if (is_eq (R y y)) (ap is_eq (tied_itself o y))))
rising_unique {K} {R} o exact (x ∷ xs) [] p q same =
    absurd (omega (arith, same x, count_cons R x x xs, one_if (is_eq (R x x)) (ap is_eq (tied_itself o x))))
rising_unique {K} {R} o exact (x ∷ xs) (y ∷ ys) p q same =
    let heads : x ≡ y = exact x y (tie o x y (not_before x y xs ys p q (λ z. same z)) (not_before y x ys xs q p (λ z. sym (same z)))) in
    let tails : xs ≡ ys = rising_unique o exact xs ys p.1 q.1 (λ z.
    one_more (is_eq (R z x)) (count R z xs) (count R z ys)
    (sym (count_cons R z x xs) ∙ same z ∙ count_cons R z y ys ∙ ap (λ (w : K). cond (is_eq (R z w)) 1 0 + count R z ys) (sym heads))) in
    ap (λ (w : K). w ∷ xs) heads ∙ ap (λ (ws : List K). y ∷ ws) tails
  where
    not_before : (x y : K) (xs ys : List K) → Rises R (x ∷ xs) → Rises R (y ∷ ys) → ((z : K) → count R z (x ∷ xs) ≡ count R z (y ∷ ys)) → is_lt (R x y) ≡ false
    not_before x y xs ys p q same = decided (is_lt (R x y)) refl
      where
        decided : (b : Bool) → is_lt (R x y) ≡ b → b ≡ false
        decided false h = refl
        decided true h =
            let none = none_ties o x (y ∷ ys) (h, before_all o x y ys h q.0) in
            let some = one_if (is_eq (R x x)) (ap is_eq (tied_itself o x)) in
            absurd (omega (arith, same x, count_cons R x x xs, none, some))

-- ---- what std's sort ensures

-- a list that is sorted by its neighbours rises
pub rises_from_sorted : {K : Type 0} {R : K → K → Ordering} → IsTotalOrder R → (xs : List K) → IsSorted R xs → Rises R xs
rises_from_sorted o [] up = tt
rises_from_sorted {K} {R} o (x ∷ xs) up = (none xs (λ k d below. sorted_far (λ a b. is_lt (R a b)) (ranks_by o (λ k. k)) (x ∷ xs) up 0 (suc k) d (omega arith) (omega arith)), rises_from_sorted o xs (λ k d low below. further k d (up (suc k) d (omega arith) (omega arith))))
  where
    next : (k : ℕ) → suc k + 1 ≡ suc (k + 1)
    next k = omega arith

    further : (k : ℕ) (d : K) → is_lt (R (get_or (x ∷ xs) (suc k + 1) d) (get_or (x ∷ xs) (suc k) d)) ≡ false → is_lt (R (get_or xs (k + 1) d) (get_or xs k d)) ≡ false
    further k d h = subst (λ (n : ℕ). is_lt (R (get_or (x ∷ xs) n d) (get_or xs k d)) ≡ false) (next k) h

    none : (ys : List K) → ((k : ℕ) (d : K) → k < length ys → is_lt (R (get_or ys k d) x) ≡ false) → NoneBefore R x ys
    none [] h = tt
    none (y ∷ ys) h = (h 0 y (omega arith), none ys (λ k d below. h (suc k) d (omega arith)))
