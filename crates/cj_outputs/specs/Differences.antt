-- Where a text first differs from another.
use Rattle.std.specs.Prelude.{ℕ, ◌+◌, ◌==◌, Bool, List, count_by}
use Rattle.std.specs.List.{take_while, zip}

abbrev pub is_same : ℕ × ℕ → Bool
is_same pair = pair.0 == pair.1

abbrev pub ends_line : ℕ × ℕ → Bool
ends_line pair = pair.0 == 10

-- the bytes with which two texts both begin, each as a pair
abbrev pub common_front : List ℕ → List ℕ → List (ℕ × ℕ)
common_front bytes others = take_while is_same (zip bytes others)

-- the number of the line in which a text first differs from another, counted from 1: one more than so many lines end before it in both
abbrev pub differing_line : List ℕ → List ℕ → ℕ
differing_line bytes others = count_by ends_line (common_front bytes others) + 1
