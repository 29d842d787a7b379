-- Pairs that are found bucket by bucket.
use Rattle.std.specs.Prelude.{◌≡◌, ℕ, ◌<◌, ◌≤◌, Bool, true, false, ◌&&◌, if◌then◌else◌, nat_eq, List, [], ◌∷◌, length, Option, None, Some, All, slice_index_or}
use Rattle.cj_case.specs.declared.pair.Pair.{Pair}
use Rattle.cj_case.specs.Pairs.{objects_of}
use Rattle.cj_case.specs.declared.axis_box.AxisBox.{AxisBox}
use Rattle.cj_case.specs.Boxes.{plain_boxes}
use Rattle.cj_bezier.specs.SlotBoxes.{touch_between}
use Rattle.cj_grid.specs.declared.entries.Entry.{Entry}

-- the boxes of each pair touch
abbrev pub AreTouching : ℕ → List ℕ → List (Option AxisBox) → List Pair → Type 0
AreTouching thr sizes boxes pairs = All (λ pair. touch_between thr sizes (plain_boxes boxes) (objects_of pair) ≡ true) pairs

-- an entry of a list by its place
abbrev pub entry_at : List Entry → ℕ → Entry
entry_at entries k = slice_index_or entries k (record { bucket = 0; object = 0 })

-- the entry at k is there, and of the same bucket as that at j
abbrev pub ShareBucket : List Entry → ℕ → ℕ → Type 0
ShareBucket entries j k = (k < length entries) × ((entry_at entries j).bucket ≡ (entry_at entries k).bucket)

-- in order of buckets, and of objects in a bucket
pub record AreInOrder (entries : List Entry) : Type 0 where
  pub buckets : (j k : ℕ) → j ≤ k → k < length entries → (entry_at entries j).bucket ≤ (entry_at entries k).bucket
  pub objects : (j k : ℕ) → j ≤ k → k < length entries → (entry_at entries j).bucket ≡ (entry_at entries k).bucket → (entry_at entries j).object ≤ (entry_at entries k).object

-- a pair is the one given last
abbrev pub is_again : Option (ℕ × ℕ) → ℕ × ℕ → Bool
is_again None p = false
is_again (Some q) p = nat_eq q.0 p.0 && nat_eq q.1 p.1

-- the pairs of a list in order, one that stands there several times once, after one that has been given
abbrev pub unrepeated : Option (ℕ × ℕ) → List (ℕ × ℕ) → List (ℕ × ℕ)
unrepeated last [] = []
unrepeated last (p ∷ ps) = if is_again last p then unrepeated (Some p) ps else p ∷ unrepeated (Some p) ps
