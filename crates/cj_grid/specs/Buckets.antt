-- Buckets: cubes whose corners are multiples of their side, and the boxes that are entered in them. A bucket holds its least corner on each
-- axis, and not its greatest.
use Rattle.std.specs.Prelude.{ℕ, ◌+◌, ◌-◌, ◌*◌, ◌/◌, Bool, false, ◌||◌, if◌then◌else◌, ℤ, pos, negsuc, ◌+ℤ◌, ◌-ℤ◌, nat_eq, nat_lt, List, [], map, filter, length, Option, None, Some, option_map, is_some, count_by, slice_index, slice_index_or}
use Rattle.std.specs.List.{flat_map, range_with_len, sum_by}
use Rattle.cj_case.specs.declared.axis_box.AxisBox.{AxisBox}
use Rattle.cj_bezier.specs.Squares.{from_zero}
use Rattle.cj_case.specs.Boxes.{Reach, plain_box}
use Rattle.cj_grid.specs.declared.entries.Entry.{Entry}
use Rattle.cj_grid.specs.declared.bucket_ranges.BucketRange.{BucketRange}
use Rattle.cj_grid.specs.declared.bucket_ranges.BucketSpan.{BucketSpan}

-- the side of a bucket in nm
abbrev pub BUCKET_SIDE : ℕ
BUCKET_SIDE = 2_000_000_000_000_000

-- how far below 0 the first bucket of an axis begins: 4,613 sides, below all that is reached
abbrev pub FIRST_CORNER : ℕ
FIRST_CORNER = 9_226_000_000_000_000_000

-- the number of the bucket on an axis in which a coordinate lies, counted from the first one
abbrev pub bucket_on : ℤ → ℕ
bucket_on at = from_zero (at +ℤ pos FIRST_CORNER) / BUCKET_SIDE

-- the numbers of the buckets that are met on an axis, from the first to the last
pub record Numbers : Type 0 where
  pub first : ℕ
  pub last : ℕ

-- what the box of an object of this size reaches on an axis within a threshold: from its start moved back by both to its end moved on by the size
abbrev pub numbers_of : ℕ → ℕ → Reach → Numbers
numbers_of thr size r = record { first = bucket_on (r.least -ℤ pos (thr + size)); last = bucket_on (r.most +ℤ pos size) }

-- the numbers on each axis
pub record PlainBlock : Type 0 where
  pub x : Numbers
  pub y : Numbers
  pub z : Numbers

-- the buckets that the box of an object of this size meets
abbrev pub block_of : ℕ → ℕ → AxisBox → PlainBlock
block_of thr size box = record {
  x = numbers_of thr size (plain_box box).x;
  y = numbers_of thr size (plain_box box).y;
  z = numbers_of thr size (plain_box box).z;
}

-- as a program keeps them
abbrev pub numbers_in : BucketRange → Numbers
numbers_in r = record { first = r.first; last = r.last }

abbrev pub plain_block : BucketSpan → PlainBlock
plain_block b = record { x = numbers_in b.x; y = numbers_in b.y; z = numbers_in b.z }

-- more than four buckets are met on an axis
abbrev pub is_long : Numbers → Bool
is_long n = nat_lt (n.first + 3) n.last

-- a box is wide where it meets more than four buckets on some axis
abbrev pub is_wide : PlainBlock → Bool
is_wide b = is_long b.x || is_long b.y || is_long b.z

-- ---- entries

-- all numbers from the first to the last
abbrev pub each_number : Numbers → List ℕ
each_number n = range_with_len n.first (n.last + 1 - n.first)

-- one number for a bucket, by its numbers on the axes, which are below 16,384
abbrev pub bucket_number : ℕ → ℕ → ℕ → ℕ
bucket_number x y z = (x * 16_384 + y) * 16_384 + z

-- an object is entered in the buckets of a column, of a layer and of a block
abbrev pub in_column : ℕ → ℕ → ℕ → Numbers → List Entry
in_column object x y zs = map (λ z. record { bucket = bucket_number x y z; object = object }) (each_number zs)

abbrev pub in_layer : ℕ → ℕ → Numbers → Numbers → List Entry
in_layer object x ys zs = flat_map (λ y. in_column object x y zs) (each_number ys)

abbrev pub in_block : ℕ → PlainBlock → List Entry
in_block object b = flat_map (λ x. in_layer object x b.y b.z) (each_number b.x)

-- the buckets that the box of an object meets, where it has one
abbrev pub block_in : ℕ → List ℕ → List (Option AxisBox) → ℕ → Option PlainBlock
block_in thr sizes boxes object = option_map (block_of thr (slice_index sizes object)) (slice_index_or boxes object None)

-- an object without a box or with a wide one is not entered, any other in all buckets of its block
abbrev pub entered_by : ℕ → Option PlainBlock → List Entry
entered_by object None = []
entered_by object (Some block) = if is_wide block then [] else in_block object block

abbrev pub is_wide_one : Option PlainBlock → Bool
is_wide_one None = false
is_wide_one (Some block) = is_wide block

-- the objects of these boxes with these sizes, each in its buckets
unfoldable pub entries_of : ℕ → List ℕ → List (Option AxisBox) → List Entry
entries_of thr sizes boxes = flat_map (λ object. entered_by object (block_in thr sizes boxes object)) (range_with_len 0 (length boxes))

-- those with wide boxes
unfoldable pub wide_of : ℕ → List ℕ → List (Option AxisBox) → List ℕ
wide_of thr sizes boxes = filter (λ object. is_wide_one (block_in thr sizes boxes object)) (range_with_len 0 (length boxes))

-- ---- the bound

-- how many are entered in a bucket
abbrev pub entered_in : ℕ → List Entry → ℕ
entered_in bucket entries = count_by (λ e. nat_eq e.bucket bucket) entries

-- the sum over all buckets of the square of the number of entries: each entry counts with the number of those in its bucket
abbrev pub bucket_squares : List Entry → ℕ
bucket_squares entries = sum_by (λ e. entered_in e.bucket entries) entries

-- at most so many pairs of boxes are compared
unfoldable pub step_bound : ℕ → List ℕ → List (Option AxisBox) → ℕ
step_bound thr sizes boxes = bucket_squares (entries_of thr sizes boxes) + length (wide_of thr sizes boxes) * count_by is_some boxes
