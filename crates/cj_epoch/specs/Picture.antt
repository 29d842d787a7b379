-- Pictures of texts. Each letter but T stands for a digit, and each other byte for itself.
use Prim.Native.String.{String}
use Rattle.std.specs.Prelude.{ℕ, Bool, ◌&&◌, not, ◌==◌, nat_le, if◌then◌else◌, List, length, map, codes}
use Rattle.std.specs.Char.{is_ascii_digit, is_ascii_alphabetic}
use Rattle.std.specs.List.{list_all, list_any, filter, zip}
use Rattle.std.specs.Str.Parse.{digits_value}

-- the byte may stand in the place of this sign of a picture
abbrev pub stands_for : ℕ → ℕ → Bool
stands_for sign byte =
    if is_ascii_alphabetic sign && not (sign == 84) then is_ascii_digit byte else byte == sign

-- the text is as the picture shows, as far as both go
abbrev pub is_like : List ℕ → List ℕ → Bool
is_like picture text = list_all (λ p. stands_for p.0 p.1) (zip picture text)

-- the text begins as the picture shows
abbrev pub begins_like : List ℕ → List ℕ → Bool
begins_like picture text = nat_le (length picture) (length text) && is_like picture text

-- the digits of the text where the picture has the letter
abbrev pub digits_at : List ℕ → List ℕ → String → List ℕ
digits_at picture text letter = map (λ p. p.1) (filter (λ p. list_any (λ l. l == p.0) (codes letter)) (zip picture text))

-- the number that they write
abbrev pub number_at : List ℕ → List ℕ → String → ℕ
number_at picture text letter = digits_value 10 (digits_at picture text letter)
