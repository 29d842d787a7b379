-- Lines of key-value notation as they are written, and lines of words.
use Rattle.std.specs.Prelude.{ℕ, List, [], ◌∷◌, ◌++◌, codes}
use Rattle.std.specs.List.{join_with_byte}

-- a text and the end of its line
abbrev pub line : List ℕ → List ℕ
line text = text ++ 10 ∷ []

-- a key with its value
abbrev pub entry : List ℕ → List ℕ → List ℕ
entry key value = line (key ++ codes " = " ++ value)

-- a line of words with a space between them
abbrev pub line_of_words : List (List ℕ) → List ℕ
line_of_words words = line (join_with_byte 32 words)
