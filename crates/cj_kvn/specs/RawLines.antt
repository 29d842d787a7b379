-- What is found of a line before it is told what the line says.
use Rattle.std.specs.Prelude.{◌≡◌, ℕ, ◌+◌, Bool, true, false, ◌&&◌, not, ◌==◌, if◌then◌else◌, List, [], ◌∷◌, Option, Some, None, position}
use Rattle.std.specs.List.{list_all}
use Rattle.std.specs.Option.{option_map}
use Rattle.cj_kvn.specs.Lines.{is_equals, is_printable}
use Rattle.cj_kvn.specs.Ranges.{text_at, IsWithin}
use Rattle.cj_kvn.specs.declared.range.Range32.{Range32}
use Rattle.cj_kvn.specs.declared.raw_line.RawLine.{RawLine}

-- a printable byte that is no equals sign
abbrev pub is_plain : ℕ → Bool
is_plain b = is_printable b && not (is_equals b)

abbrev pub begins_with_feed : List ℕ → Bool
begins_with_feed [] = false
begins_with_feed (b ∷ text) = b == 10

-- how long the end of a line is that stands at the front: a line feed, perhaps behind a carriage return, or nothing at the end of all
abbrev pub end_len : List ℕ → Option ℕ
end_len [] = Some 0
end_len (b ∷ text) = if b == 10 then Some 1 else if (b == 13) && begins_with_feed text then Some 2 else None

-- where the first equals sign of a part stands
abbrev pub equals_at : List ℕ → Range32 → Option ℕ
equals_at bytes part = option_map (λ i. part.first + i) (position is_equals (text_at bytes part))

-- the line lies in the bytes, and what is kept of it is so
pub record IsRaw (bytes : List ℕ) (line : RawLine) : Type 0 where
  pub within : IsWithin bytes line.text
  pub printable : line.printable ≡ list_all is_printable (text_at bytes line.text)
  pub equals : line.printable ≡ true → line.equals ≡ equals_at bytes line.text
