-- Blocks: one box for an object in four slots on end, where the object then touches nothing more.
use Rattle.std.specs.Prelude.{◌≡◌, ℕ, zero, suc, ◌+◌, ◌-◌, ◌*◌, ◌/◌, ◌<◌, ◌==◌, ◌&&◌, ◌||◌, not, min, nat_le, Bool, if◌then◌else◌, List, [], ◌∷◌, map, filter, All, Option, Some, None, option_map}
use Rattle.std.specs.List.{filter_map, find, flat_map, list_all, range_with_len}
use Rattle.std.specs.Option.{option_or}
use Rattle.cj_case.specs.PlainProblems.{threshold_between}
use Rattle.cj_case.specs.Boxes.{PlainBox}
use Rattle.cj_bezier.specs.SlotBoxes.{both_touch}
use Rattle.cj_blocks.specs.BoxRows.{box_at, round_all}

-- a box that is listed for an object in each of the slots from the first to the last
pub record PlainBlock : Type 0 where
  pub object : ℕ
  pub first : ℕ
  pub last : ℕ
  pub area : PlainBox

-- what is given: the box of each object in each slot, a row for each object; the pairs that are kept; the size of each object and a
-- threshold in nm
pub record Given : Type 0 where
  pub objects : ℕ
  pub slots : ℕ
  pub boxes : List (List (Option PlainBox))
  pub kept : List (ℕ × ℕ)
  pub sizes : List ℕ
  pub threshold : ℕ

-- the given box of an object in a slot
abbrev pub box_given : Given → ℕ → ℕ → Option PlainBox
box_given g = box_at g.boxes

-- ---- the slots of a block

-- of how many slots a block is, where the window does not end before
abbrev pub BLOCK : ℕ
BLOCK = 4

-- how many blocks have so many slots
abbrev pub block_count : ℕ → ℕ
block_count slots = (slots + (BLOCK - 1)) / BLOCK

abbrev pub first_slot : ℕ → ℕ
first_slot block = BLOCK * block

-- how many slots a block has
abbrev pub slots_in : ℕ → ℕ → ℕ
slots_in slots block = min BLOCK (slots - first_slot block)

-- the slots of a block
abbrev pub slots_of_block : ℕ → ℕ → List ℕ
slots_of_block slots block = range_with_len (first_slot block) (slots_in slots block)

-- ---- when a block is joined

-- the pair is one of this object
abbrev pub is_pair_of : ℕ → ℕ × ℕ → Bool
is_pair_of object pair = pair.0 == object || pair.1 == object

-- the other object of a pair of this one
abbrev pub partner_of : ℕ → ℕ × ℕ → ℕ
partner_of object pair = if pair.0 == object then pair.1 else pair.0

-- a box touches another's only where the own box does
abbrev pub touches_only_as : ℕ → Option PlainBox → Option PlainBox → Option PlainBox → Bool
touches_only_as thr round own other = not (both_touch thr round other) || both_touch thr own other

-- in each of these slots a box touches, of the partner in a pair, only such boxes as the object's own does
abbrev pub touches_as_own : ℕ → List ℕ → (ℕ → ℕ → Option PlainBox) → (ℕ → ℕ → Option PlainBox) → ℕ → List ℕ → Option PlainBox → ℕ × ℕ → Bool
touches_as_own thr sizes own current object slots round pair =
    list_all (λ slot. touches_only_as (threshold_between thr sizes pair.0 pair.1) round (own object slot) (current (partner_of object pair) slot)) slots

-- the box of an object round its own ones in some slots, where it has one in each, and where that box touches, of all partners in
-- its pairs, only such current boxes as the own one of the slot does
unfoldable pub joined_box : ℕ → List ℕ → List (ℕ × ℕ) → (ℕ → ℕ → Option PlainBox) → (ℕ → ℕ → Option PlainBox) → ℕ → List ℕ → Option PlainBox
joined_box thr sizes pairs own current object slots =
    let round = round_all (map (own object) slots) in
    if list_all (touches_as_own thr sizes own current object slots round) pairs then round else None

-- the joined box of an object's block by the current boxes, if it is joined
abbrev pub joined_in : Given → (ℕ → ℕ → Option PlainBox) → ℕ → ℕ → Option PlainBox
joined_in g current object block =
    joined_box g.threshold g.sizes (filter (is_pair_of object) g.kept) (box_given g) current object (slots_of_block g.slots block)

-- ---- object by object

-- the current boxes when the first n objects are treated: of each of these its listed box, of another its given one
unfoldable pub current_boxes : Given → ℕ → ℕ → ℕ → Option PlainBox
current_boxes g zero object slot = box_given g object slot
current_boxes g (suc n) object slot =
    if object == n then option_or (joined_in g (current_boxes g n) n (slot / BLOCK)) (box_given g n slot) else current_boxes g n object slot

-- the block of an object in a slot by itself, if it has a box there
abbrev pub single_in : (ℕ → ℕ → Option PlainBox) → ℕ → ℕ → Option PlainBlock
single_in own object slot = option_map (λ area. record { object = object; first = slot; last = slot; area = area }) (own object slot)

-- what is listed of an object in so many slots from a first one on: one box where they are joined, and else each box by itself
abbrev pub listed_in : (ℕ → ℕ → Option PlainBox) → ℕ → ℕ → ℕ → Option PlainBox → List PlainBlock
listed_in own object first count None = filter_map (single_in own object) (range_with_len first count)
listed_in own object first count (Some area) = record { object = object; first = first; last = first + count - 1; area = area } ∷ []

-- what is listed of an object in a block
abbrev pub blocks_in : Given → ℕ → ℕ → List PlainBlock
blocks_in g object block = listed_in (box_given g) object (first_slot block) (slots_in g.slots block) (joined_in g (current_boxes g object) object block)

-- what is listed of all objects, in order of object and slot
unfoldable pub blocks_of : Given → List PlainBlock
blocks_of g = flat_map (λ object. flat_map (blocks_in g object) (range_with_len 0 (block_count g.slots))) (range_with_len 0 g.objects)

-- ---- what touches by the listed boxes

-- the block tells of this object in this slot
abbrev pub is_block_of : ℕ → ℕ → PlainBlock → Bool
is_block_of object slot block = block.object == object && nat_le block.first slot && nat_le slot block.last

-- the box that blocks list for an object in a slot
abbrev pub box_listed : List PlainBlock → ℕ → ℕ → Option PlainBox
box_listed blocks object slot = option_map (λ block. block.area) (find (is_block_of object slot) blocks)

-- the boxes of a pair touch in a slot
abbrev pub pair_touches : Given → (ℕ → ℕ → Option PlainBox) → ℕ → ℕ × ℕ → Bool
pair_touches g boxes slot pair = both_touch (threshold_between g.threshold g.sizes pair.0 pair.1) (boxes pair.0 slot) (boxes pair.1 slot)

-- in every slot the listed boxes of a kept pair touch exactly where the given ones do
abbrev pub TouchAsGiven : Given → List PlainBlock → Type 0
TouchAsGiven g blocks = (slot : ℕ) → slot < g.slots → All (λ pair. pair_touches g (box_listed blocks) slot pair ≡ pair_touches g (box_given g) slot pair) g.kept
