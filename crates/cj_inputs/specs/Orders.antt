-- Sorting by insertion.
use Rattle.std.specs.Prelude.{if◌then◌else◌, List, [], ◌∷◌}
use Rattle.std.specs.declared.cmp.Ordering.{Ordering}
use Rattle.std.specs.Ordering.{is_lt}

-- an item at its place among others that are in order
abbrev pub inserted : {K : Type 0} → (K → K → Ordering) → K → List K → List K
inserted cmp x [] = x ∷ []
inserted cmp x (y ∷ ys) = if is_lt (cmp y x) then y ∷ inserted cmp x ys else x ∷ y ∷ ys

-- the items in order, ties as they stood
abbrev pub sorted : {K : Type 0} → (K → K → Ordering) → List K → List K
sorted cmp [] = []
sorted cmp (x ∷ xs) = inserted cmp x (sorted cmp xs)
