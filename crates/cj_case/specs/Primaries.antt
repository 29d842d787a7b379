-- Primaries: the objects whose pairs are looked at. Where none are named, each object is one.
use Rattle.std.specs.Prelude.{ℕ, Bool, true, false, ◌||◌, List, [], Option, Some, None, filter, length, slice_index_or}
use Rattle.std.specs.List.{range_with_len}
use Rattle.cj_case.specs.PlainProblems.{PlainProblem}

-- an object is a primary, by a mark for each object, where primaries are named
abbrev pub is_marked : Option (List Bool) → ℕ → Bool
is_marked None object = true
is_marked (Some marks) object = slice_index_or marks object false

-- it is one of those that are named
abbrev pub is_named : Option (List Bool) → ℕ → Bool
is_named None object = false
is_named (Some marks) object = slice_index_or marks object false

-- the numbers of those that are named, in order
abbrev pub named : Option (List Bool) → List ℕ
named None = []
named (Some marks) = filter (λ object. slice_index_or marks object false) (range_with_len 0 (length marks))

-- a pair has a primary
unfoldable pub has_primary : Option (List Bool) → ℕ × ℕ → Bool
has_primary primaries pair = is_marked primaries pair.0 || is_marked primaries pair.1

-- an object of a case is a primary
abbrev pub is_primary : PlainProblem → ℕ → Bool
is_primary case object = is_marked case.primaries object

-- a pair of a case is looked at: one of its objects is a primary
abbrev pub concerns : PlainProblem → ℕ × ℕ → Bool
concerns case pair = has_primary case.primaries pair

-- how many objects are marked, of so many where none are named
abbrev pub marks_of : Option (List Bool) → ℕ → ℕ
marks_of None objects = objects
marks_of (Some marks) objects = length marks
