-- Elements of lists: some, all and all pairs, and the first of them.
use Rattle.std.proofs.Common.{◌≡◌, zero, suc, List, [], ◌∷◌, All, AllPairs, Any, Contains, ◌⊎◌, inl, inr, arith, refl, subst, sym}

pub any_here : {X : Type 0} (P : X → Type 0) (x : X) (xs : List X) → P x → Any P (x ∷ xs)
any_here P x xs p = (0, x, omega arith, refl, p)

pub any_later : {X : Type 0} (P : X → Type 0) (x : X) (xs : List X) → Any P xs → Any P (x ∷ xs)
any_later P x xs (k, y, within, at, p) = (suc k, y, omega arith, at, p)

pub any_cases : {X : Type 0} (P : X → Type 0) (x : X) (xs : List X) → Any P (x ∷ xs) → P x ⊎ Any P xs
any_cases P x xs (zero, y, within, at, p) = inl (subst P (sym at) p)
any_cases P x xs (suc k, y, within, at, p) = inr (k, y, omega arith, at, p)

pub any_none : {X : Type 0} (P : X → Type 0) → Any P [] → ⊥
any_none P (k, y, within, at, p) = omega arith

pub any_weaker : {X : Type 0} (P Q : X → Type 0) (xs : List X) → ((x : X) → P x → Q x) → Any P xs → Any Q xs
any_weaker P Q xs h (k, y, within, at, p) = (k, y, within, at, h y p)

-- none that all are not
pub any_all : {X : Type 0} (P : X → Type 0) (xs : List X) → All (λ x. P x → ⊥) xs → Any P xs → ⊥
any_all P xs all (k, y, within, at, p) = subst (λ z. P z → ⊥) at (all k y within) p

pub any_at : {X : Type 0} (P : X → Type 0) (xs : List X) (x : X) → Contains xs x → P x → Any P xs
any_at P xs x (k, within, at) p = (k, x, within, at, p)

pub contains_cases : {X : Type 0} (x : X) (xs : List X) (y : X) → Contains (x ∷ xs) y → (x ≡ y) ⊎ Contains xs y
contains_cases x xs y (zero, within, at) = inl at
contains_cases x xs y (suc k, within, at) = inr (k, omega arith, at)

pub contains_none : {X : Type 0} (y : X) → Contains [] y → ⊥
contains_none y (k, within, at) = omega arith

pub pairs_head : {X : Type 0} (R : X → X → Type 0) (x : X) (xs : List X) → AllPairs R (x ∷ xs) → All (R x) xs
pairs_head R x xs h k d within = h 0 (suc k) d (omega arith) (omega arith)

pub pairs_tail : {X : Type 0} (R : X → X → Type 0) (x : X) (xs : List X) → AllPairs R (x ∷ xs) → AllPairs R xs
pairs_tail R x xs h i j d below within = h (suc i) (suc j) d (omega arith) (omega arith)
