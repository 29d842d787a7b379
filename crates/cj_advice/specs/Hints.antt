-- What a hint is.
use Rattle.std.specs.Prelude.{ℕ, ◌≡◌, List, [], ◌∷◌, ◌++◌}

-- a text that is not empty and ends with a line feed
abbrev pub IsOfLines : List ℕ → Type 0
IsOfLines text = (front : List ℕ) × (text ≡ front ++ 10 ∷ [])
