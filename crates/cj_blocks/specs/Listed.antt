-- Blocks as a program keeps them, what is given to it, and what it lists of an object.
use Rattle.std.specs.Prelude.{◌≡◌, ℕ, ◌+◌, ◌/◌, ◌<◌, ◌==◌, ◌&&◌, nat_le, nat_lt, if◌then◌else◌, List, map, Option}
use Rattle.std.specs.List.{range_with_len}
use Rattle.std.specs.Option.{option_or}
use Rattle.cj_case.specs.declared.pair.Pair.{Pair}
use Rattle.cj_case.specs.Pairs.{objects_of}
use Rattle.cj_case.specs.declared.axis_box.AxisBox.{AxisBox}
use Rattle.cj_case.specs.Boxes.{PlainBox, plain_box, plain_rows}
use Rattle.cj_blocks.specs.declared.block.Block.{Block}
use Rattle.cj_blocks.specs.Blocks.{PlainBlock, Given, BLOCK, first_slot, slots_in, joined_box, listed_in}
use Rattle.cj_blocks.specs.BoxRows.{box_at}

abbrev pub plain_block : Block → PlainBlock
plain_block b = record { object = b.object; first = b.first; last = b.last; area = plain_box b.area }

abbrev pub given : List Pair → ℕ → ℕ → List (List (Option AxisBox)) → List ℕ → ℕ → Given
given kept objects slots boxes sizes thr = record {
  objects = objects;
  slots = slots;
  boxes = plain_rows boxes;
  kept = map objects_of kept;
  sizes = sizes;
  threshold = thr;
}

-- ---- one object, in a window of so many slots

-- what an object's blocks are made of: its pairs, the boxes that are given and the current ones, the sizes and the threshold
pub record Treated : Type 0 where
  pub pairs : List Pair
  pub slots : ℕ
  pub boxes : List (List (Option AxisBox))
  pub current : List (List (Option AxisBox))
  pub sizes : List ℕ
  pub threshold : ℕ

-- the joined box of an object in so many slots from a first one on
abbrev pub joined_of : Treated → ℕ → ℕ → ℕ → Option PlainBox
joined_of t object first count =
    joined_box t.threshold t.sizes (map objects_of t.pairs) (box_at (plain_rows t.boxes)) (box_at (plain_rows t.current)) object (range_with_len first count)

-- what is listed of it there
abbrev pub listed_of : Treated → ℕ → ℕ → ℕ → List PlainBlock
listed_of t object first count = listed_in (box_at (plain_rows t.boxes)) object first count (joined_of t object first count)

-- what is listed of it in a block
abbrev pub block_of : Treated → ℕ → ℕ → List PlainBlock
block_of t object block = listed_of t object (first_slot block) (slots_in t.slots block)

-- after this an object has one box, where there is one, in so many slots from a first one on, and all else is as before
abbrev pub IsFilled : ℕ → ℕ → ℕ → ℕ → Option PlainBox → List (List (Option AxisBox)) → List (List (Option AxisBox)) → Type 0
IsFilled slots object first count area old new = (other slot : ℕ) → slot < slots → box_at (plain_rows new) other slot
    ≡ (if other == object && nat_le first slot && nat_lt slot (first + count) then option_or area (box_at (plain_rows old) other slot) else box_at (plain_rows old) other slot)

-- after this an object has its listed boxes, and all else is as before
abbrev pub IsTreated : Treated → ℕ → List (List (Option AxisBox)) → Type 0
IsTreated t object new = (other slot : ℕ) → slot < t.slots → box_at (plain_rows new) other slot
    ≡ (if other == object then option_or (joined_of t object (first_slot (slot / BLOCK)) (slots_in t.slots (slot / BLOCK))) (box_at (plain_rows t.current) other slot)
    else box_at (plain_rows t.current) other slot)
