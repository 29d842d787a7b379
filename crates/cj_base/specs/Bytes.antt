-- Bytes of texts.
use Rattle.std.specs.Prelude.{ℕ, Bool, ◌==◌, if◌then◌else◌}

-- a line feed
abbrev pub is_feed : ℕ → Bool
is_feed b = b == 10

-- a byte of a value, where a tab is read as a space
abbrev pub spaced : ℕ → ℕ
spaced b = if b == 9 then 32 else b
