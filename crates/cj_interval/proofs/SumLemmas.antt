-- Sums over lists: the same items in another order have the same sums, and lists in order with the same sums are the same.
use Rattle.std.proofs.Common.{◌≡◌, ℕ, ◌+◌, ◌<◌, Bool, true, false, cond, List, [], ◌∷◌, ◌++◌, refl, sym, ap, ◌∙◌, subst, inl, inr, arith}
use Rattle.std.specs.Prelude.{filter}
use Rattle.std.specs.List.{sum_by, flat_map}
use Rattle.std.specs.List.Sorted.{IsPermutation}
use Rattle.std.proofs.lemmas.List.Sums.{sum_by-cons}
use Rattle.std.proofs.lemmas.List.Sorted.{sum_by-IsPermutation}
use Rattle.std.proofs.lemmas.Bool.{cases_Bool}
use Rattle.cj_interval.proofs.ListLemmas.{Each, Exists, Ordered}

-- the sum of a number of each element
unfoldable pub total : {X : Type 0} → (X → ℕ) → List X → ℕ
total f [] = 0
total f (x ∷ xs) = f x + total f xs

total_is : {X : Type 0} (f : X → ℕ) (xs : List X) → sum_by f xs ≡ total f xs
unfolding total
total_is f [] = refl
total_is f (x ∷ xs) = sum_by-cons f x xs ∙ ap (λ n. f x + n) (total_is f xs)

pub same_totals : {X : Type 0} (f : X → ℕ) (xs ys : List X) → IsPermutation xs ys → total f ys ≡ total f xs
same_totals f xs ys moved = sym (total_is f ys) ∙ sum_by-IsPermutation f xs ys moved ∙ total_is f xs

pub total-append : {X : Type 0} (f : X → ℕ) (xs ys : List X) → total f (xs ++ ys) ≡ total f xs + total f ys
unfolding total
total-append f [] ys = omega arith
total-append f (x ∷ xs) ys = let rest = total-append f xs ys in omega arith

pub total-flat_map : {X Y : Type 0} (f : Y → ℕ) (g : X → List Y) (xs : List X) → total f (flat_map g xs) ≡ total (λ x. total f (g x)) xs
unfolding total
total-flat_map f g [] = refl
total-flat_map f g (x ∷ xs) = total-append f (g x) (flat_map g xs) ∙ ap (λ n. total f (g x) + n) (total-flat_map f g xs)

pub total_same : {X : Type 0} (f g : X → ℕ) → ((x : X) → f x ≡ g x) → (xs : List X) → total f xs ≡ total g xs
unfolding total
total_same f g e [] = refl
total_same f g e (x ∷ xs) = let here = e x in let rest = total_same f g e xs in omega arith

pub total-zero : {X : Type 0} (xs : List X) → total (λ x. 0) xs ≡ 0
unfolding total
total-zero [] = refl
total-zero (x ∷ xs) = let rest = total-zero xs in omega arith

pub total-add : {X : Type 0} (f g : X → ℕ) (xs : List X) → total (λ x. f x + g x) xs ≡ total f xs + total g xs
unfolding total
total-add f g [] = refl
total-add f g (x ∷ xs) = let rest = total-add f g xs in omega arith

-- row by row or column by column
pub total-swap : {X Y : Type 0} (h : X → Y → ℕ) (xs : List X) (ys : List Y) → total (λ x. total (h x) ys) xs ≡ total (λ y. total (λ x. h x y) xs) ys
unfolding total
total-swap h [] ys = sym (total-zero ys)
total-swap h (x ∷ xs) ys = ap (λ n. total (h x) ys + n) (total-swap h xs ys) ∙ sym (total-add (h x) (λ y. total (λ x. h x y) xs) ys)

either : {X : Type 0} (f : X → ℕ) (c : Bool) (x : X) (xs : List X) (n : ℕ) → total f xs ≡ n → total f (cond c (x ∷ xs) xs) ≡ cond c (f x) 0 + n
unfolding total
either f true x xs n e = ap (λ k. f x + k) e
either f false x xs n e = e ∙ omega arith

pub total-filter : {X : Type 0} (f : X → ℕ) (p : X → Bool) (xs : List X) → total f (filter p xs) ≡ total (λ x. cond (p x) (f x) 0) xs
unfolding total
total-filter f p [] = refl
total-filter f p (x ∷ xs) = either f (p x) x (filter p xs) (total (λ x. cond (p x) (f x) 0) xs) (total-filter f p xs)

pub total-taken : {X : Type 0} (f : X → ℕ) (c : Bool) (xs : List X) → total f (cond c xs []) ≡ cond c (total f xs) 0
unfolding total
total-taken f true xs = refl
total-taken f false xs = refl

-- ---- lists in order with the same totals are the same

-- a test of whether two items are the same
pub record IsSameTest {X : Type 0} (is : X → X → Bool) : Type 0 where
  pub itself : (x : X) → is x x ≡ true
  pub exact : (x y : X) → is x y ≡ true → x ≡ y

-- one for each place at which the item stands
abbrev count : {X : Type 0} → (X → X → Bool) → X → List X → ℕ
count is x ys = total (λ y. cond (is x y) 1 0) ys

count_here : {X : Type 0} (is : X → X → Bool) → IsSameTest is → (x : X) (xs : List X) → 0 < count is x (x ∷ xs)
unfolding total
count_here is test x xs = let here : ◌≡◌ {A = ℕ} (cond (is x x) 1 0) 1 = ap (λ c. cond {A = ℕ} c 1 0) (test.itself x) in omega arith

found : {X : Type 0} (is : X → X → Bool) → IsSameTest is → (x : X) (ys : List X) → 0 < count is x ys → Exists (λ y. x ≡ y) ys
unfolding total
found is test x [] some = absurd (omega arith)
found is test x (y ∷ ys) some = elim (cases_Bool (is x y)) [
  | inl e ↦ inl (test.exact x y e)
  | inr e ↦ inr (found is test x ys (let none : ◌≡◌ {A = ℕ} (cond (is x y) 1 0) 0 = ap (λ c. cond {A = ℕ} c 1 0) e in omega arith))
]

one_of : {X : Type 0} (P : X → Type 0) (x : X) (xs : List X) → Each P xs → Exists (λ y. x ≡ y) xs → P x
one_of P x [] p e = absurd e
one_of P x (y ∷ ys) p (inl e) = subst P (sym e) p.0
one_of P x (y ∷ ys) p (inr e) = one_of P x ys p.1 e

-- two lists in orders that do not go against each other for an item of which P holds
pub same_list : {X : Type 0} (is : X → X → Bool) → IsSameTest is → (P : X → Type 0) (R S : X → X → Type 0) → ((x y : X) → P x → R x y → S y x → ⊥) →
    (xs ys : List X) → Each P xs → Ordered R xs → Ordered S ys → ((f : X → ℕ) → total f xs ≡ total f ys) → xs ≡ ys
unfolding total
same_list is test P R S clash [] [] some first second same = refl
same_list is test P R S clash [] (y ∷ ys) some first second same = let no = same (λ x. 1) in absurd (omega arith)
same_list is test P R S clash (x ∷ xs) [] some first second same = let no = same (λ x. 1) in absurd (omega arith)
same_list {X} is test P R S clash (x ∷ xs) (y ∷ ys) some first second same =
    let e : x ≡ y = heads (found is test x (y ∷ ys) (omega (arith, count_here is test x xs, same_counts x))) (found is test y (x ∷ xs) (omega (arith, count_here is test y ys, same_counts y))) in
    let rest : xs ≡ ys = same_list is test P R S clash xs ys some.1 first.1 second.1 (λ f. let all = same f in let here : f x ≡ f y = ap f e in omega arith) in
    rw (e, rest)
  where
    heads : Exists (λ z. x ≡ z) (y ∷ ys) → Exists (λ z. y ≡ z) (x ∷ xs) → x ≡ y
    heads (inl e) later = e
    heads (inr after) (inl e) = sym e
    heads (inr after) (inr behind) = absurd (clash x y some.0 (one_of (R x) y xs first.0 behind) (one_of (S y) x ys second.0 after))

    same_counts : (z : X) → count is z (x ∷ xs) ≡ count is z (y ∷ ys)
    same_counts z = same (λ y. cond (is z y) 1 0)
