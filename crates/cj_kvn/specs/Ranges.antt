-- Parts of the bytes of a file.
use Rattle.std.specs.Prelude.{ℕ, ◌≤◌, List, length, slice_range}
use Rattle.cj_kvn.specs.declared.range.Range32.{Range32}

-- the text of a part
abbrev pub text_at : List ℕ → Range32 → List ℕ
text_at bytes range = slice_range bytes range.first range.past

-- the part lies in the bytes
pub record IsWithin (bytes : List ℕ) (range : Range32) : Type 0 where
  pub ordered : range.first ≤ range.past
  pub inside : range.past ≤ length bytes
