-- Boxes in a row: so many boxes of one point each, 10,000 km apart along x.
use Rattle.std.specs.Prelude.{ℕ, ◌*◌, pos, List, map, Option, Some}
use Rattle.std.specs.List.{range_with_len}
use Rattle.cj_case.specs.Boxes.{Reach, PlainBox}

-- a reach of one coordinate
abbrev pub reach_at : ℕ → Reach
reach_at at = record { least = pos at; most = pos at }

-- the box of the object at a place of the row
abbrev pub box_in_row : ℕ → PlainBox
box_in_row k = record { x = reach_at (k * 10_000_000_000_000_000); y = reach_at 0; z = reach_at 0 }

-- the boxes of the first n
abbrev pub boxes_in_row : ℕ → List (Option PlainBox)
boxes_in_row n = map (λ k. Some (box_in_row k)) (range_with_len 0 n)
