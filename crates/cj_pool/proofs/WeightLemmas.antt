-- Weights of lists that grow or change in one place.
use Rattle.std.proofs.Common.{◌≡◌, ℕ, zero, suc, ◌+◌, ◌<◌, List, [], ◌∷◌, ◌++◌, length, set, refl, sym, ap, ◌∙◌, arith}
use Rattle.std.specs.List.{sum_by}
use Rattle.std.specs.List.Sorted.{IsPermutation}
use Rattle.std.proofs.lemmas.List.Sorted.{sum_by-IsPermutation}
use Rattle.std.proofs.lemmas.List.Sums.{sum_by-cons}
use mathlib.Core.Option.{some, some-ne-none, some-injective}
use lib.ListN.{get_elem?}
use Rattle.cj_interval.proofs.SumLemmas.{total}
use Rattle.cj_case.specs.declared.cell.Cell.{Cell}
use Rattle.cj_pool.specs.Passes.{taken_at}
use Rattle.cj_pool.specs.Weights.{weigh}

pub weigh_append : {X : Type 0} (f : X → ℕ) (xs ys : List X) → weigh f (xs ++ ys) ≡ weigh f xs + weigh f ys
weigh_append f [] ys = omega arith
weigh_append f (x ∷ xs) ys = let rest = weigh_append f xs ys in omega arith

pub weigh_snoc : {X : Type 0} (f : X → ℕ) (xs : List X) (x : X) → weigh f (xs ++ x ∷ []) ≡ weigh f xs + f x
weigh_snoc f [] x = omega arith
weigh_snoc f (y ∷ ys) x = let rest = weigh_snoc f ys x in omega arith

pub weigh_set : {X : Type 0} (f : X → ℕ) (xs : List X) (i : ℕ) (x y : X) → get_elem? xs i ≡ some x → weigh f (set xs i y) + f x ≡ weigh f xs + f y
weigh_set f [] i x y e = absurd (some-ne-none x (sym e))
weigh_set f (z ∷ zs) zero x y e = let here : f z ≡ f x = ap f (some-injective z x e) in omega arith
weigh_set f (z ∷ zs) (suc i) x y e = let rest = weigh_set f zs i x y e in omega arith

pub weigh_one : {X : Type 0} (xs : List X) → weigh (λ (x : X). 1) xs ≡ length xs
weigh_one [] = refl
weigh_one (x ∷ xs) = let rest = weigh_one xs in omega arith

-- a list of no length weighs nothing
pub weigh_none : {X : Type 0} (f : X → ℕ) (xs : List X) → length xs ≡ 0 → weigh f xs ≡ 0
weigh_none f [] e = refl
weigh_none f (x ∷ xs) e = absurd (omega arith)

-- one more cell was taken from a deque
pub weigh_taken : (w : Cell → ℕ) (taken : List (List Cell)) (d : ℕ) (c : Cell) → d < length taken → weigh (weigh w) (taken_at taken d c) ≡ weigh (weigh w) taken + w c
weigh_taken w [] d c lt = absurd (omega arith)
weigh_taken w (x ∷ xs) zero c lt = omega (arith, weigh_append w x (c ∷ []))
weigh_taken w (x ∷ xs) (suc d) c lt = let rest = weigh_taken w xs d c (omega arith) in omega arith

-- it is the sum of std
weigh_sum : {X : Type 0} (f : X → ℕ) (xs : List X) → weigh f xs ≡ sum_by f xs
weigh_sum f [] = refl
weigh_sum f (x ∷ xs) = ap (λ n. f x + n) (weigh_sum f xs) ∙ sym (sum_by-cons f x xs)

-- it is the landed sum
pub weigh_is : {X : Type 0} (f : X → ℕ) (xs : List X) → weigh f xs ≡ total f xs
unfolding total
weigh_is f [] = refl
weigh_is f (x ∷ xs) = ap (λ n. f x + n) (weigh_is f xs)

-- moved items weigh the same
pub weigh_moved : {X : Type 0} (f : X → ℕ) (xs ys : List X) → IsPermutation xs ys → weigh f ys ≡ weigh f xs
weigh_moved f xs ys moved = weigh_sum f ys ∙ sum_by-IsPermutation f xs ys moved ∙ sym (weigh_sum f xs)
