-- The fields of a row.
use Rattle.std.specs.Prelude.{ℕ, nat_lt, List, length, filter, map, take}
use Rattle.std.specs.List.{slice_split}
use Rattle.cj_kvn.specs.Lines.{is_blank}
use Rattle.cj_kvn.specs.Ranges.{text_at}
use Rattle.cj_kvn.specs.declared.fields.RowFields.{RowFields}

-- the texts between blanks
unfoldable pub fields : List ℕ → List (List ℕ)
fields text = filter (λ part. nat_lt 0 (length part)) (slice_split is_blank text)

-- the texts of the fields that were found, up to ten
abbrev pub texts_of : List ℕ → RowFields → List (List ℕ)
texts_of bytes row = map (text_at bytes) (take row.count row.found)
