-- The first member of a list that meets a test, from a place on.
use Rattle.std.proofs.Common.{◌≡◌, ℕ, ◌+◌, ◌<◌, Bool, List, length, drop, get_or, true, false, Some, ap, ◌∙◌, refl}
use Rattle.std.specs.Prelude.{find}
use Rattle.std.proofs.lemmas.List.{drop_more}

pub find_here : {X : Type 0} (p : X → Bool) (xs : List X) (i : ℕ) (d : X) → i < length xs → p (get_or xs i d) ≡ true
    → find p (drop i xs) ≡ Some (get_or xs i d)
find_here p xs i d inside test = ap (λ ys. find p ys) (drop_more xs i d inside) ∙ (rw test refl)

pub find_later : {X : Type 0} (p : X → Bool) (xs : List X) (i : ℕ) (d : X) → i < length xs → p (get_or xs i d) ≡ false
    → find p (drop i xs) ≡ find p (drop (i + 1) xs)
find_later p xs i d inside test = ap (λ ys. find p ys) (drop_more xs i d inside) ∙ (rw test refl)
