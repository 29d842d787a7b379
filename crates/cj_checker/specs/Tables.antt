-- The table of listed boxes: for each object in each slot the number of the line that has its box, counted from 1, or 0.
use Rattle.std.specs.Prelude.{ℕ, zero, suc, List, Option, None, option_map, option_and_then, slice_get}
use Rattle.cj_case.specs.Boxes.{PlainBox, plain_box}
use Rattle.cj_case.specs.Tables.{value_at}
use Rattle.cj_cert.specs.declared.cert_lines.BoxLine.{BoxLine}

-- the line with a number
abbrev pub line_numbered : List BoxLine → ℕ → Option BoxLine
line_numbered lines zero = None
line_numbered lines (suc before) = slice_get lines before

-- the box of an object in a slot
unfoldable pub box_in_table : List BoxLine → List (List ℕ) → ℕ → ℕ → Option PlainBox
box_in_table lines numbers slot object = option_map (λ line. plain_box line.area) (option_and_then (line_numbered lines) (value_at numbers object slot))
