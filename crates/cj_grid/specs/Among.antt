-- The objects among which pairs are looked for in a slot: what is defined by threshold, sizes and boxes, of all three together.
use Rattle.std.specs.Prelude.{◌≡◌, ℕ, ◌<◌, Bool, true, List, Option}
use Rattle.cj_case.specs.declared.pair.Pair.{Pair}
use Rattle.cj_case.specs.Boxes.{plain_boxes}
use Rattle.cj_bezier.specs.SlotBoxes.{touch_between}
use Rattle.cj_grid.specs.declared.entries.Entry.{Entry}
use Rattle.cj_grid.specs.declared.slot_objects.SlotObjects.{SlotObjects}
use Rattle.cj_grid.specs.Buckets.{PlainBlock, block_in, entries_of, wide_of, step_bound}
use Rattle.cj_case.specs.Pairs.{HasPair}
use Rattle.cj_grid.specs.Found.{AreTouching, entry_at}

-- the boxes of two of them touch, by the threshold between them
abbrev pub touch_among : SlotObjects → ℕ × ℕ → Bool
touch_among objects = touch_between objects.thr objects.sizes.now (plain_boxes objects.boxes.now)

-- the buckets that the box of one of them meets, where it has one
abbrev pub block_among : SlotObjects → ℕ → Option PlainBlock
block_among objects object = block_in objects.thr objects.sizes.now objects.boxes.now object

-- each in its buckets
abbrev pub entries_among : SlotObjects → List Entry
entries_among objects = entries_of objects.thr objects.sizes.now objects.boxes.now

-- those with wide boxes
abbrev pub wide_among : SlotObjects → List ℕ
wide_among objects = wide_of objects.thr objects.sizes.now objects.boxes.now

-- at most so many pairs of their boxes are compared
abbrev pub bound_among : SlotObjects → ℕ
bound_among objects = step_bound objects.thr objects.sizes.now objects.boxes.now

-- the boxes of each pair touch
abbrev pub TouchAmong : SlotObjects → List Pair → Type 0
TouchAmong objects pairs = AreTouching objects.thr objects.sizes.now objects.boxes.now pairs

-- where the boxes of each pair touched, they still do
abbrev pub StillTouchAmong : SlotObjects → List Pair → List Pair → Type 0
StillTouchAmong objects old new = TouchAmong objects old → TouchAmong objects new

-- of the pairs for which something is so, each whose boxes touch is in the list
abbrev pub AreFound : SlotObjects → (ℕ → ℕ → Type 0) → List Pair → Type 0
AreFound objects IsSo pairs = (a b : ℕ) → a < b → IsSo a b → touch_among objects (a, b) ≡ true → HasPair pairs a b

-- the objects of two entries are found where they touch
abbrev pub AreFoundAt : SlotObjects → List Entry → ℕ → ℕ → List Pair → Type 0
AreFoundAt objects entries j k pairs =
    (a b : ℕ) → a ≡ (entry_at entries j).object → b ≡ (entry_at entries k).object → a < b → touch_among objects (a, b) ≡ true → HasPair pairs a b
