-- Who makes messages, as a value.
use Rattle.std.specs.Prelude.{ℕ, Bool, ◌&&◌, ◌||◌, ◌==◌, nat_le, List, length}
use Rattle.std.specs.Char.{is_ascii_alphanumeric}
use Rattle.std.specs.List.{list_all}

-- a letter, a digit, `_` or `-`
abbrev pub is_originator_byte : ℕ → Bool
is_originator_byte b = is_ascii_alphanumeric b || (b == 95) || (b == 45)

-- 1 to 40 such bytes
unfoldable pub is_originator : List ℕ → Bool
is_originator text = nat_le 1 (length text) && nat_le (length text) 40 && list_all is_originator_byte text
