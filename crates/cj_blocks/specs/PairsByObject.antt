-- The pairs that are entered for each object.
use Rattle.std.specs.Prelude.{ℕ, List, [], slice_index_or}
use Rattle.cj_case.specs.declared.pair.Pair.{Pair}

-- the pairs that stand in the list of an object
abbrev pub pairs_at : List (List Pair) → ℕ → List Pair
pairs_at lists object = slice_index_or lists object []
