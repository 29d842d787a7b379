-- The fields of a row.
use Rattle.std.proofs.Common.{◌≡◌, ◌≢◌, ℕ, List, [], ◌∷◌, length, Some, None, slice_get, arith}

-- two fields and no third are all of them
pub two_alone : (parts : List (List ℕ)) (a b : List ℕ) → Some a ≡ slice_get parts 0 → Some b ≡ slice_get parts 1 → None ≡ slice_get parts 2 → parts ≡ a ∷ b ∷ []
two_alone [] a b first second third = cc
two_alone (x ∷ []) a b first second third = cc
two_alone (x ∷ y ∷ []) a b first second third = cc
two_alone (x ∷ y ∷ z ∷ rest) a b first second third = cc

pub three_are_not_two : (parts : List (List ℕ)) (c : List ℕ) → Some c ≡ slice_get parts 2 → length parts ≢ 2
three_are_not_two [] c third = λ two. cc
three_are_not_two (x ∷ []) c third = λ two. cc
three_are_not_two (x ∷ y ∷ []) c third = λ two. cc
three_are_not_two (x ∷ y ∷ z ∷ rest) c third = λ two. omega arith
