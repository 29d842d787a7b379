-- Values by object and slot: a row for each object, in which a value stands for each slot.
use Rattle.std.specs.Prelude.{◌≡◌, ℕ, ◌++◌, List, [], ◌∷◌, All, length, take, drop, replicate, Option, option_and_then, slice_get, slice_index_or, slice_set}

-- a row for each object, and how many slots there are
pub record Table (X : Type 0) : Type 0 where
  pub rows : List (List X)
  pub slots : ℕ

-- each row has a value for each slot
abbrev pub IsEven : {X : Type 0} → Table X → Type 0
IsEven t = All (λ row. length row ≡ t.slots) t.rows

-- the row of an object
abbrev pub row_of : {X : Type 0} → List (List X) → ℕ → List X
row_of rows object = slice_index_or rows object []

-- the value of an object in a slot, where there is one
abbrev pub value_at : {X : Type 0} → List (List X) → ℕ → ℕ → Option X
value_at rows object slot = option_and_then (λ row. slice_get row slot) (slice_get rows object)

-- the table with one row more, for the next object
abbrev pub with_row : {X : Type 0} → List X → Table X → Table X
with_row row t = record { rows = t.rows ++ row ∷ []; slots = t.slots }

-- one value for so many objects in so many slots
abbrev pub even_table : {X : Type 0} → ℕ → ℕ → X → Table X
even_table objects slots x = record { rows = replicate objects (replicate slots x); slots = slots }

-- a row that has one value in so many slots from a first one on
abbrev pub filled_row : {X : Type 0} → ℕ → ℕ → X → List X → List X
filled_row first count x row = take first row ++ (replicate count x ++ drop count (drop first row))

-- the table in which an object has one value in so many slots from a first one on
abbrev pub filled : {X : Type 0} → ℕ → ℕ → ℕ → X → Table X → Table X
filled object first count x t = record { rows = slice_set t.rows object (filled_row first count x (row_of t.rows object)); slots = t.slots }
