-- Pairs that are appended where they touch, entry by entry and object by object.
use Rattle.std.proofs.Common.{◌≡◌, ◌⊎◌, inl, inr, ℕ, ◌<◌, ◌≤◌, true, false, List, [], ◌∷◌, ◌++◌, length, Option, sym, ap, ◌∙◌, arith}
use Rattle.std.specs.Prelude.{◌&&◌, nat_eq, nat_lt}
use Rattle.std.specs.List.Sorted.{IsPermutation}
use Rattle.std.proofs.lemmas.Bool.{cases_lt}
use Rattle.std.proofs.lemmas.Bool.Decides.{nat_tests}
use Rattle.std.proofs.lemmas.List.{get_or_default}
use Rattle.std.proofs.lemmas.List.Elements.{All-push}
use Rattle.std.proofs.lemmas.List.Sorted.{Contains-permutation}
use Rattle.cj_interval.proofs.ListLemmas.{Contains-from_exists}
use Rattle.cj_case.specs.declared.pair.Pair.{Pair}
use Rattle.cj_case.specs.Pairs.{objects_of}
use Rattle.cj_case.specs.declared.axis_box.AxisBox.{AxisBox}
use Rattle.cj_case.specs.Boxes.{plain_boxes}
use Rattle.cj_bezier.specs.SlotBoxes.{touch_between}
use Rattle.cj_grid.specs.declared.entries.Entry.{Entry}
use Rattle.cj_grid.specs.Found.{AreTouching, AreInOrder, entry_at}
use Rattle.cj_grid.proofs.BucketLemmas.{AreTogether, entry}

-- ---- one pair more

pub touching_more : (thr : ℕ) (sizes : List ℕ) (boxes : List (Option AxisBox)) (old : List Pair) (p : Pair) → touch_between thr sizes (plain_boxes boxes) (objects_of p) ≡ true
    → AreTouching thr sizes boxes old → AreTouching thr sizes boxes (old ++ p ∷ [])
touching_more thr sizes boxes old p touches all = All-push (λ pair. touch_between thr sizes (plain_boxes boxes) (objects_of pair) ≡ true) old p all touches

-- ---- entry by entry

pub in_bucket : (next n b bucket : ℕ) → (nat_lt next n && nat_eq b bucket) ≡ true → (next < n) × (b ≡ bucket)
in_bucket next n b bucket h = (grind (arith, nat_tests), grind (arith, nat_tests))

-- no entry of the bucket stands behind the first one that is of another
pub none_behind : (entries : List Entry) (at next k bucket : ℕ) → AreInOrder entries → at < next → k < length entries → (entry_at entries at).bucket ≡ bucket → (entry_at entries at).bucket ≡ (entry_at entries k).bucket
    → (nat_lt next (length entries) && nat_eq (entry_at entries next).bucket bucket) ≡ false → k < next
none_behind entries at next k bucket order above lt own same out = go (cases_lt k next)
  where
    go : (k < next) ⊎ (next ≤ k) → k < next
    go (inl before) = before
    go (inr behind) =
        let low = order.buckets at next (omega arith) (omega arith) in
        let high = order.buckets next k behind lt in
        let here : (entry_at entries next).bucket ≡ bucket = omega arith in
        let there : next < length entries = omega arith in
        absurd (contradiction (entry_at entries next).bucket there here out)
      where
        contradiction : (b : ℕ) → next < length entries → b ≡ bucket → (nat_lt next (length entries) && nat_eq b bucket) ≡ false → ⊥
        contradiction b there here out = grind (arith, nat_tests)

-- where the entries of two objects in one bucket stand
pub record ArePlaces (entries : List Entry) (a b : ℕ) : Type 0 where
  pub first : ℕ
  pub second : ℕ
  pub ordered : first < second
  pub exists : second < length entries
  pub bucket : (entry_at entries first).bucket ≡ (entry_at entries second).bucket
  pub one : a ≡ (entry_at entries first).object
  pub other : b ≡ (entry_at entries second).object

pub places : (old new : List Entry) (a b : ℕ) → IsPermutation old new → AreInOrder new → a < b → AreTogether old a b → ArePlaces new a b
places old new a b moved order lt both =
    let one = Contains-permutation old new (entry both.bucket a) moved (Contains-from_exists old (entry both.bucket a) both.one) in
    let other = Contains-permutation old new (entry both.bucket b) moved (Contains-from_exists old (entry both.bucket b) both.other) in
    let first : entry_at new one.0 ≡ entry both.bucket a = get_or_default new one.0 (record { bucket = 0; object = 0 }) (entry both.bucket a) one.1 ∙ one.2 in
    let second : entry_at new other.0 ≡ entry both.bucket b = get_or_default new other.0 (record { bucket = 0; object = 0 }) (entry both.bucket b) other.1 ∙ other.2 in
    let same : (entry_at new one.0).bucket ≡ (entry_at new other.0).bucket = ap (λ (e : Entry). e.bucket) first ∙ sym (ap (λ (e : Entry). e.bucket) second) in
    let is_a : a ≡ (entry_at new one.0).object = sym (ap (λ (e : Entry). e.object) first) in
    let is_b : b ≡ (entry_at new other.0).object = sym (ap (λ (e : Entry). e.object) second) in
    record { first = one.0; second = other.0; ordered = ordered one.0 other.0 one.1 same is_a is_b (cases_lt one.0 other.0); exists = other.1; bucket = same; one = is_a; other = is_b }
  where
    ordered : (j k : ℕ) → j < length new → (entry_at new j).bucket ≡ (entry_at new k).bucket → a ≡ (entry_at new j).object → b ≡ (entry_at new k).object → (j < k) ⊎ (k ≤ j) → j < k
    ordered j k below same is_a is_b (inl before) = before
    ordered j k below same is_a is_b (inr behind) = let up = order.objects k j behind below (sym same) in absurd (omega arith)
