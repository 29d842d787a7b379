-- Words of a file: keys, values and the like.
use Rattle.std.specs.Prelude.{ℕ, Bool, nat_eq, List, map}
use Rattle.std.specs.Char.{to_ascii_lowercase}
use Rattle.std.specs.Cmp.Lexicographic.{pointwise}

-- the same text
abbrev pub is_text : List ℕ → List ℕ → Bool
is_text word text = pointwise nat_eq text word

-- the same text, without regard to the case of letters of ASCII
unfoldable pub is_word : List ℕ → List ℕ → Bool
is_word word text = pointwise nat_eq (map to_ascii_lowercase text) (map to_ascii_lowercase word)
