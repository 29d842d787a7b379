-- Numbers that follow one another, and the elements of a list with their numbers.
use Rattle.std.proofs.Common.{◌≡◌, ℕ, zero, suc, ◌+◌, ◌<◌, ◌≤◌, Bool, false, List, [], ◌∷◌, ◌++◌, filter, Option, Some, refl, ap, ◌∙◌, subst, inl, inr, arith, append-nil}
use Rattle.std.specs.Prelude.{slice_get}
use Rattle.std.specs.List.{cons_option, enumerate_from, filter_map, flat_map, list_all, range_with_len}
use Rattle.std.proofs.lemmas.Bool.{and_left, and_right, cases_eq}
use Rattle.std.proofs.lemmas.List.Concat.{flat_map-append}
use Rattle.std.proofs.lemmas.List.Elements.{filter_map-append}
use Rattle.cj_interval.proofs.ListLemmas.{Each, Exists}

-- ---- a range cut in two

pub range_cut : (a m n : ℕ) → range_with_len a (m + n) ≡ range_with_len a m ++ range_with_len (a + m) n
range_cut a zero n =
    let len : 0 + n ≡ n = omega arith in
    let at : a + 0 ≡ a = omega arith in
    rw (len, at) refl
range_cut a (suc m) n =
    let len : suc m + n ≡ suc (m + n) = omega arith in
    let at : a + 1 + m ≡ a + suc m = omega arith in
    rw len (ap (λ (ks : List ℕ). a ∷ ks) (range_cut (a + 1) m n ∙ ap (λ (k : ℕ). range_with_len (a + 1) m ++ range_with_len k n) at))

-- one number more
pub range_more : (a n : ℕ) → range_with_len a (n + 1) ≡ range_with_len a n ++ (a + n) ∷ []
range_more a n = range_cut a n 1

pub flat_map-range_more : {A : Type 0} (f : ℕ → List A) (a n j : ℕ) → a + n ≡ j → flat_map f (range_with_len a (n + 1)) ≡ flat_map f (range_with_len a n) ++ f j
flat_map-range_more {A = A} f a n j at =
    ap (flat_map f) (range_more a n) ∙ flat_map-append f (range_with_len a n) ((a + n) ∷ [])
    ∙ ap (λ (xs : List A). flat_map f (range_with_len a n) ++ xs) (append-nil (f (a + n)))
    ∙ ap (λ (k : ℕ). flat_map f (range_with_len a n) ++ f k) at

pub filter_map-range_more : {A : Type 0} (f : ℕ → Option A) (a n j : ℕ) → a + n ≡ j
    → filter_map f (range_with_len a (n + 1)) ≡ filter_map f (range_with_len a n) ++ cons_option (f j) []
filter_map-range_more f a n j at =
    ap (filter_map f) (range_more a n) ∙ filter_map-append f (range_with_len a n) ((a + n) ∷ [])
    ∙ ap (λ (k : ℕ). filter_map f (range_with_len a n) ++ cons_option (f k) []) at

-- ---- numbers of a range

-- what holds of each of them, of one of them
pub each_in_range : (P : ℕ → Type 0) (a n : ℕ) → Each P (range_with_len a n) → (k : ℕ) → a ≤ k → k < a + n → P k
each_in_range P a zero each k low high = absurd (omega arith)
each_in_range P a (suc n) each k low high = elim (cases_eq a k) [
  | inl same ↦ subst P same each.0
  | inr other ↦ each_in_range P (a + 1) n each.1 k (omega arith) (omega arith)
]

-- one of them fails a test
pub one_in_range_fails : (test : ℕ → Bool) (a n k : ℕ) → a ≤ k → k < a + n → test k ≡ false → list_all test (range_with_len a n) ≡ false
one_in_range_fails test a zero k low high fails = absurd (omega arith)
one_in_range_fails test a (suc n) k low high fails = elim (cases_eq a k) [
  | inl same ↦ and_left (test a) (list_all test (range_with_len (a + 1) n)) (ap test same ∙ fails)
  | inr other ↦ and_right (test a) (list_all test (range_with_len (a + 1) n)) (one_in_range_fails test (a + 1) n k (omega arith) (omega arith) fails)
]

-- none of them passes one
pub none_in_range_passes : (test : ℕ → Bool) (a n : ℕ) → ((k : ℕ) → a ≤ k → k < a + n → test k ≡ false) → filter test (range_with_len a n) ≡ []
none_in_range_passes test a zero none = refl
none_in_range_passes test a (suc n) none = rw (none a (omega arith) (omega arith)) (none_in_range_passes test (a + 1) n (λ k low high. none k (omega arith) (omega arith)))

-- ---- elements with their numbers

pub Each-enumerated : {X : Type 0} (P : ℕ × X → Type 0) (n : ℕ) (xs : List X) → ((i : ℕ) (x : X) → slice_get xs i ≡ Some x → P (n + i, x)) → Each P (enumerate_from n xs)
Each-enumerated P n [] f = tt
Each-enumerated {X = X} P n (x ∷ xs) f =
    let here : n + 0 ≡ n = omega arith in
    let first : P (n, x) = subst (λ (k : ℕ). let p : ℕ × X = (k, x) in P p) here (f 0 x refl) in
    (first, Each-enumerated P (n + 1) xs (λ i y is. let at : n + suc i ≡ n + 1 + i = omega arith in subst (λ (k : ℕ). let p : ℕ × X = (k, y) in P p) at (f (suc i) y is)))

pub each_from_enumerated : {X : Type 0} (P : ℕ × X → Type 0) (n : ℕ) (xs : List X) → Each P (enumerate_from n xs) → (i : ℕ) (x : X) → slice_get xs i ≡ Some x → P (n + i, x)
each_from_enumerated P n [] e i x is = absurd cc
each_from_enumerated {X = X} P n (y ∷ xs) e zero x is =
    let same : y ≡ x = cc in
    let here : n ≡ n + 0 = omega arith in
    subst (λ (k : ℕ). let p : ℕ × X = (k, x) in P p) here (subst (λ (z : X). let p : ℕ × X = (n, z) in P p) same e.0)
each_from_enumerated {X = X} P n (y ∷ xs) e (suc i) x is =
    let at : n + 1 + i ≡ n + suc i = omega arith in
    subst (λ (k : ℕ). let p : ℕ × X = (k, x) in P p) at (each_from_enumerated P (n + 1) xs e.1 i x is)

pub Exists-enumerated : {X : Type 0} (P : ℕ × X → Type 0) (n i : ℕ) (xs : List X) (x : X) → slice_get xs i ≡ Some x → P (n + i, x) → Exists P (enumerate_from n xs)
Exists-enumerated P n i [] x is holds = absurd cc
Exists-enumerated {X = X} P n zero (y ∷ xs) x is holds =
    let same : x ≡ y = cc in
    let here : n + 0 ≡ n = omega arith in
    inl (subst (λ (k : ℕ). let p : ℕ × X = (k, y) in P p) here (subst (λ (z : X). let p : ℕ × X = (n + 0, z) in P p) same holds))
Exists-enumerated {X = X} P n (suc i) (y ∷ xs) x is holds =
    let at : n + suc i ≡ n + 1 + i = omega arith in
    inr (Exists-enumerated P (n + 1) i xs x is (subst (λ (k : ℕ). let p : ℕ × X = (k, x) in P p) at holds))

-- the same, numbered from 0
pub Each-numbered : {X : Type 0} (P : ℕ × X → Type 0) (xs : List X) → ((i : ℕ) (x : X) → slice_get xs i ≡ Some x → P (i, x)) → Each P (enumerate_from 0 xs)
Each-numbered {X = X} P xs f = Each-enumerated P 0 xs (λ i x is. let same : i ≡ 0 + i = omega arith in subst (λ (k : ℕ). let p : ℕ × X = (k, x) in P p) same (f i x is))

pub each_from_numbered : {X : Type 0} (P : ℕ × X → Type 0) (xs : List X) → Each P (enumerate_from 0 xs) → (i : ℕ) (x : X) → slice_get xs i ≡ Some x → P (i, x)
each_from_numbered {X = X} P xs e i x is = let same : 0 + i ≡ i = omega arith in subst (λ (k : ℕ). let p : ℕ × X = (k, x) in P p) same (each_from_enumerated P 0 xs e i x is)
