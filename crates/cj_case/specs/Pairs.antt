-- Pairs of objects, the lower number first, and what a list of pairs has.
use Rattle.std.specs.Prelude.{◌≡◌, ◌⊎◌, ℕ, ◌+◌, ◌-◌, List, map}
use Rattle.std.specs.List.{Contains, flat_map, range_with_len}
use Rattle.cj_case.specs.declared.pair.Pair.{Pair}

-- the pairs of n objects, in order
abbrev pub pairs_of : ℕ → List (ℕ × ℕ)
pairs_of n = flat_map (λ a. map (λ b. (a, b)) (range_with_len (a + 1) (n - (a + 1)))) (range_with_len 0 n)

-- the objects of a pair
abbrev pub objects_of : Pair → ℕ × ℕ
objects_of pair = (pair.a, pair.b)

-- the pair of two objects is in the list
abbrev pub HasPair : List Pair → ℕ → ℕ → Type 0
HasPair pairs a b = Contains (map objects_of pairs) (a, b)

-- each pair of a list is in a later one too
abbrev pub ArePairsKept : List Pair → List Pair → Type 0
ArePairsKept old new = (a b : ℕ) → HasPair old a b → HasPair new a b

-- two objects are a and b, whichever comes first
abbrev pub AreBoth : ℕ → ℕ → ℕ → ℕ → Type 0
AreBoth one other a b = (one ≡ a) × (other ≡ b) ⊎ (one ≡ b) × (other ≡ a)
