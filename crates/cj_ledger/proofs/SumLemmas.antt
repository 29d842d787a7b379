-- Sums over the shares when one of them changes, and what one share with all parts knows of them.
use Rattle.std.proofs.Common.{◌≡◌, ◌≢◌, ℕ, zero, suc, ◌+◌, ◌≤◌, List, [], ◌∷◌, ◌++◌, set, refl, sym, ap, ◌∙◌, subst, ⊎_elim, arith}
use Rattle.std.specs.List.{sum_by}
use Rattle.std.proofs.lemmas.List.Sums.{sum_by-cons}
use mathlib.Core.Option.{some, some-ne-none, some-injective}
use lib.ListN.{get_elem?}
use Rattle.atomic_table.proofs.Lists.{at_set, at_snoc}
use Rattle.cj_ledger.specs.Counts.{nobody}
use Rattle.cj_ledger.specs.Words.{Fits}
use Rattle.cj_ledger.specs.declared.count.Count.{Count}
use Rattle.cj_ledger.specs.declared.count.Opening.{Opening}

pub sum_set : (f : Count → ℕ) (vs : List Count) (i : ℕ) (v w : Count) → get_elem? vs i ≡ some v → sum_by f (set vs i w) + f v ≡ sum_by f vs + f w
sum_set f [] i v w at = absurd (some-ne-none v (sym at))
sum_set f (x ∷ xs) zero v w at =
    let same : f x ≡ f v = ap f (some-injective x v at) in
    ap (λ n. n + f v) (sum_by-cons f w xs) ∙ omega arith ∙ ap (λ n. n + f w) (sym (sum_by-cons f x xs))
sum_set f (x ∷ xs) (suc i) v w at =
    let rest = sum_set f xs i v w at in
    ap (λ n. n + f v) (sum_by-cons f x (set xs i w)) ∙ omega arith ∙ ap (λ n. n + f w) (sym (sum_by-cons f x xs))

pub sum_same : (f : Count → ℕ) (vs : List Count) (i : ℕ) (v w : Count) → get_elem? vs i ≡ some v → f w ≡ f v → sum_by f (set vs i w) ≡ sum_by f vs
sum_same f vs i v w at same = let changed = sum_set f vs i v w at in omega arith

pub sum_more : (f : Count → ℕ) (vs : List Count) (i : ℕ) (v w : Count) (k : ℕ) → get_elem? vs i ≡ some v → f w ≡ f v + k → sum_by f (set vs i w) ≡ sum_by f vs + k
sum_more f vs i v w k at more = let changed = sum_set f vs i v w at in omega arith

pub at_most_sum : (f : Count → ℕ) (vs : List Count) (i : ℕ) (v : Count) → f nobody ≡ 0 → get_elem? vs i ≡ some v → f v ≤ sum_by f vs
at_most_sum f vs i v none at = let without = sum_set f vs i v nobody at in omega arith

-- each of these views fits
abbrev pub AreFit : Opening → List Count → Type 0
AreFit o vs = (i : ℕ) (v : Count) → get_elem? vs i ≡ some v → Fits o v

pub fits_set : (o : Opening) (vs : List Count) (i : ℕ) (w : Count) → Fits o w → AreFit o vs → AreFit o (set vs i w)
fits_set o vs i w mine others j u at =
    ⊎_elim
    (λ (x : (j ≡ i) × (w ≡ u)). subst (Fits o) x.1 mine)
    (λ (x : (j ≢ i) × (get_elem? vs j ≡ some u)). others j u x.1)
    (at_set vs i j w u at)

pub fits_push : (o : Opening) (vs : List Count) (w : Count) → Fits o w → AreFit o vs → AreFit o (vs ++ w ∷ [])
fits_push o vs w mine others j u at = ⊎_elim (λ (x : get_elem? vs j ≡ some u). others j u x) (λ (x : w ≡ u). subst (Fits o) x mine) (at_snoc vs w u j at)

-- shares without parts have counted nothing
nothing : (f : Count → ℕ) (vs : List Count) → f nobody ≡ 0 → ((j : ℕ) (u : Count) → get_elem? vs j ≡ some u → u.parts ≡ 0 → u ≡ nobody) → sum_by (λ u. u.parts) vs ≡ 0 → sum_by f vs ≡ 0
nothing f [] none spent no_parts = refl
nothing f (x ∷ xs) none spent no_parts =
    let parts : x.parts + sum_by (λ u. u.parts) xs ≡ 0 = sym (sum_by-cons (λ (u : Count). u.parts) x xs) ∙ no_parts in
    let here : f x ≡ 0 = ap f (spent 0 x refl (omega (arith, parts))) ∙ none in
    let rest : sum_by f xs ≡ 0 = nothing f xs none (λ j u at. spent (suc j) u at) (omega (arith, parts)) in
    sum_by-cons f x xs ∙ omega (arith, here, rest)

-- the counts of the one share with all parts are the sums
pub alone : (f : Count → ℕ) (o : Opening) (vs : List Count) (i : ℕ) (v : Count) → f nobody ≡ 0 → get_elem? vs i ≡ some v → AreFit o vs → sum_by (λ u. u.parts) vs ≡ v.parts → sum_by f vs ≡ f v
alone f o vs i v none at fit whole =
    let parts = sum_set (λ (u : Count). u.parts) vs i v nobody at in
    let spent : (j : ℕ) (u : Count) → get_elem? (set vs i nobody) j ≡ some u → u.parts ≡ 0 → u ≡ nobody = λ j u there empty.
    ⊎_elim
    (λ (x : (j ≡ i) × (nobody ≡ u)). sym x.1)
    (λ (x : (j ≢ i) × (get_elem? vs j ≡ some u)). (fit j u x.1).spent empty)
    (at_set vs i j nobody u there) in
    let rest = nothing f (set vs i nobody) none spent (omega arith) in
    let mine = sum_set f vs i v nobody at in omega arith
