-- A sweep along an axis, by which the pairs are found of which one has a wide box.
use Rattle.std.specs.Prelude.{◌≡◌, ◌⊎◌, ℕ, ◌+◌, ◌<◌, ◌≤◌, Bool, true, false, not, pos, ◌+ℤ◌, ◌-ℤ◌, ◌≤ℤ◌, List, All, filter, length, Option, Some, None, is_some, count_by, slice_index, slice_index_or}
use Rattle.std.specs.List.{AllPairs, Contains, range_with_len}
use Rattle.cj_case.specs.Pairs.{AreBoth}
use Rattle.cj_case.specs.declared.axis_box.AxisBox.{AxisBox}
use Rattle.cj_case.specs.Boxes.{PlainBox, plain_box}
use Rattle.cj_case.specs.Boxes as boxes
use Rattle.cj_grid.specs.declared.axis.Axis.{Axis}
use Rattle.cj_grid.specs.declared.axis.Axis.TheVariants as axes
use Rattle.cj_grid.specs.declared.reach.Reach.{Reach}
use Rattle.cj_grid.specs.declared.reaches.Reaches.{Reaches}
use Rattle.cj_grid.specs.declared.slot_objects.SlotObjects.{SlotObjects}
use Rattle.cj_grid.specs.Among.{block_among, touch_among, wide_among}
use Rattle.cj_grid.specs.Buckets.{PlainBlock, is_wide}

-- there is a box, and it is not wide
abbrev pub is_narrow_one : Option PlainBlock → Bool
is_narrow_one None = false
is_narrow_one (Some block) = not (is_wide block)

-- the objects with boxes that are not wide
unfoldable pub narrow_among : SlotObjects → List ℕ
narrow_among objects = filter (λ object. is_narrow_one (block_among objects object)) (range_with_len 0 (length objects.boxes.now))

-- from where to where a box reaches along an axis
abbrev pub side : Axis → PlainBox → boxes.Reach
side axes.X area = area.x
side axes.Y area = area.y
side axes.Z area = area.z

-- from where to where an object of this size is entered that reaches so far, where others are at most so long
abbrev pub reach_of : ℕ → ℕ → ℕ → ℕ → boxes.Reach → Reach
reach_of thr size longest object x = record {
  low = x.least -ℤ pos size;
  high = x.most +ℤ pos (size + thr);
  earliest = x.least -ℤ pos (size + longest);
  object = object;
}

-- an object with a box is entered along an axis
abbrev pub HasReach : SlotObjects → Axis → ℕ → List Reach → ℕ → Type 0
HasReach objects axis longest reaches object = (area : AxisBox) → slice_index_or objects.boxes.now object None ≡ Some area
    → Contains reaches (reach_of objects.thr (slice_index objects.sizes.now object) longest object (side axis (plain_box area)))

-- the reach of an object along an axis is at most so long
abbrev pub IsNoLonger : SlotObjects → Axis → ℕ → ℕ → Type 0
IsNoLonger objects axis longest object = (area : AxisBox) → slice_index_or objects.boxes.now object None ≡ Some area
    → ((side axis (plain_box area)).most +ℤ pos (slice_index objects.sizes.now object + objects.thr)) ≤ℤ (((side axis (plain_box area)).least -ℤ pos (slice_index objects.sizes.now object)) +ℤ pos longest)

-- none begins before one that stands earlier
abbrev pub IsInOrder : List Reach → Type 0
IsInOrder reaches = AllPairs (λ r s. r.low ≤ℤ s.low) reaches

-- each object exists
abbrev pub Exist : SlotObjects → List Reach → Type 0
Exist objects reaches = All (λ reach. reach.object < length objects.boxes.now) reaches

-- an object begins where one with a wide box is; one whose box is not wide may begin before it
pub record IsMetBy (reaches : Reaches) (own other : Reach) : Type 0 where
  pub there : Contains reaches.wide.items other × (own.low ≤ℤ other.low) ⊎ Contains reaches.others.items other × (own.earliest ≤ℤ other.low)
  pub before : other.low ≤ℤ own.high

-- one of two objects has a wide box, and the other begins where that is
pub record AreMet (reaches : Reaches) (a b : ℕ) : Type 0 where
  pub own : Reach
  pub other : Reach
  pub listed : Contains reaches.wide.items own
  pub met : IsMetBy reaches own other
  pub both : AreBoth own.object other.object a b

-- the entries are in order, are no more than there are boxes, and those of each pair that touches meet where one of its boxes is wide
pub record AreLaidOut (objects : SlotObjects) (reaches : Reaches) : Type 0 where
  pub wide_exist : Exist objects reaches.wide.items
  pub others_exist : Exist objects reaches.others.items
  pub wide_order : IsInOrder reaches.wide.items
  pub others_order : IsInOrder reaches.others.items
  pub wide_few : length reaches.wide.items ≤ length (wide_among objects)
  pub all_few : length reaches.wide.items + length reaches.others.items ≤ count_by is_some objects.boxes.now
  pub meet : (a b : ℕ) → a < b → touch_among objects (a, b) ≡ true → Contains (wide_among objects) a ⊎ Contains (wide_among objects) b → AreMet reaches a b
