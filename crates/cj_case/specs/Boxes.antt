-- Boxes along the axes as plain facts.
use Rattle.std.specs.Prelude.{ℤ, List, map, Option, option_map}
use Rattle.cj_case.specs.declared.axis_box.AxisBox.{AxisBox}

-- how far something reaches on an axis
pub record Reach : Type 0 where
  pub least : ℤ
  pub most : ℤ

-- how far something reaches on each axis
pub record PlainBox : Type 0 where
  pub x : Reach
  pub y : Reach
  pub z : Reach

-- how far a box reaches
abbrev pub plain_box : AxisBox → PlainBox
plain_box box = record {
  x = record { least = box.least.x; most = box.most.x };
  y = record { least = box.least.y; most = box.most.y };
  z = record { least = box.least.z; most = box.most.z };
}

-- how far the boxes of a list reach
abbrev pub plain_boxes : List (Option AxisBox) → List (Option PlainBox)
plain_boxes boxes = map (option_map plain_box) boxes

-- how far the boxes of objects reach, a row for each object
abbrev pub plain_rows : List (List (Option AxisBox)) → List (List (Option PlainBox))
plain_rows rows = map plain_boxes rows
