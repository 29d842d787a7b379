-- A sweep: a touching pair of which one box is wide meets along each axis, and no more objects are entered than there are boxes.
use Rattle.std.proofs.Common.{◌≡◌, ◌⊎◌, ℕ, zero, suc, ◌+◌, ◌-◌, ◌*◌, ◌<◌, ◌≤◌, max, Bool, true, false, cond, not, List, [], ◌∷◌, drop, take, filter, length, get_or, Option, Some, None, refl, sym, ap, ◌∙◌, subst, inl, inr, arith, is_lt, nat_cmp}
use Rattle.std.specs.Prelude.{ℤ, pos, ◌≤ℤ◌, ◌<ℤ◌, ◌+ℤ◌, ◌-ℤ◌, int_le, int_lt, All, option_map, count_by, is_some, slice_index}
use Rattle.std.specs.declared.cmp.Ordering.{Ordering}
use Rattle.std.specs.declared.cmp.Ordering.TheVariants.{Less, Equal, Greater}
use Rattle.std.specs.Ordering.{MatchOrdering, ordering_then, int_cmp}
use Rattle.std.specs.List.{AllWithin, Contains, range_with_len}
use Rattle.std.specs.List.Sorted.{IsPartitionedBy, IsSorted}
use Rattle.std.proofs.lemmas.Bool.{cases_lt, cases_Bool}
use Rattle.std.proofs.lemmas.Int.{ints, by_lt_z}
use Rattle.std.specs.Cmp.{IsTotalOrder}
use Rattle.std.proofs.lemmas.Cmp.{then_total, on_total, nat_cmp_total, int_cmp_total, int_ranked}
use Rattle.std.proofs.lemmas.List.Sorted.{sorted_far, ranks_by}
use Rattle.std.proofs.lemmas.List.{get_or_default, get_or-drop, get_or-take, length-drop, length-take, take_all}
use Rattle.std.proofs.lemmas.List.Filters.{length-filter_more}
use Rattle.std.proofs.lemmas.List.FromFn.{get_or-range_with_len, length-range_with_len}
use Rattle.std.proofs.lemmas.List.Sums.{sum_by_more}
use Rattle.std.proofs.Math.Nat.{mul-le-mul_left, mul-le-mul_right}
use Rattle.cj_interval.proofs.ListLemmas.{Exists-range, Each-range, Each-filter, member_passes, All-from_each, Contains-from_exists}
use Rattle.cj_case.specs.Pairs.{AreBoth}
use Rattle.cj_case.specs.PlainProblems.{threshold_between}
use Rattle.cj_case.specs.declared.axis_box.AxisBox.{AxisBox}
use Rattle.cj_case.specs.Boxes.{PlainBox, plain_box}
use Rattle.cj_bezier.specs.SlotBoxes.{both_touch, reaches_touch}
use Rattle.cj_grid.specs.declared.axis.Axis.{Axis}
use Rattle.cj_grid.specs.declared.axis.Axis.TheVariants as axes
use Rattle.cj_grid.specs.declared.reach.Reach.{Reach}
use Rattle.cj_grid.specs.declared.reaches.Reaches.{Reaches}
use Rattle.cj_grid.specs.declared.slot_objects.SlotObjects.{SlotObjects}
use Rattle.cj_grid.specs.Among.{block_among, touch_among, wide_among}
use Rattle.cj_grid.specs.Buckets.{PlainBlock, block_of, is_wide, is_wide_one, wide_of}
use Rattle.cj_grid.specs.Sweeps.{AreMet, HasReach, IsInOrder, IsNoLonger, is_narrow_one, narrow_among, reach_of, side}
use Rattle.cj_grid.proofs.BucketLemmas.{touch_is, wide_exist, wide_listed}

-- ---- entries in order

-- entries that are sorted are in order of where they begin
abbrev pub reach_cmp : Reach → Reach → Ordering
reach_cmp r s = ordering_then (int_cmp r.low s.low) (ordering_then (int_cmp r.high s.high) (ordering_then (int_cmp r.earliest s.earliest) (nat_cmp r.object s.object)))

reaches_total : IsTotalOrder reach_cmp
reaches_total = then_total (on_total (λ (r : Reach). r.low) int_cmp_total) (then_total (on_total (λ (r : Reach). r.high) int_cmp_total)
    (then_total (on_total (λ (r : Reach). r.earliest) int_cmp_total) (on_total (λ (r : Reach). r.object) nat_cmp_total)))

first_not : (o p : Ordering) → is_lt (ordering_then o p) ≡ false → is_lt o ≡ false
first_not Less p h = absurd cc
first_not Equal p h = refl
first_not Greater p h = refl

not_below : (x y : ℤ) → is_lt (int_cmp y x) ≡ false → x ≤ℤ y
not_below x y h = go (int_cmp y x) refl h (int_ranked y x (int_cmp y x) refl)
  where
    go : (r : Ordering) → r ≡ int_cmp y x → is_lt r ≡ false → MatchOrdering r (y <ℤ x) (y ≡ x) (x <ℤ y) → x ≤ℤ y
    go Less e h m = absurd cc
    go Equal e h m = omega (arith, ints)
    go Greater e h m = omega (arith, ints)

pub sorted_in_order : (reaches : List Reach) → IsSorted reach_cmp reaches → IsInOrder reaches
sorted_in_order reaches up i j d lt below =
    let r = get_or reaches i d in
    let s = get_or reaches j d in
    let far : is_lt (reach_cmp s r) ≡ false = sorted_far (λ a b. is_lt (reach_cmp a b)) (ranks_by reaches_total (λ x. x)) reaches up i j d (omega arith) below in
    not_below r.low s.low (first_not (int_cmp s.low r.low) (ordering_then (int_cmp s.high r.high) (ordering_then (int_cmp s.earliest r.earliest) (nat_cmp s.object r.object))) far)

-- ---- entries from a place on, and up to a place

-- in order, those below a place stand in front
pub below_parted : (place : ℤ) (reaches : List Reach) → IsInOrder reaches → IsPartitionedBy (λ r. int_lt r.low place) reaches
below_parted place reaches order i j d le lt below = go (cases_lt i j)
  where
    go : (i < j) ⊎ (j ≤ i) → int_lt (get_or reaches i d).low place ≡ true
    go (inl before) =
        let x = (get_or reaches i d).low in
        let y = (get_or reaches j d).low in
        let up : x ≤ℤ y = order i j d before lt in
        trans x y up below
      where
        trans : (x y : ℤ) → x ≤ℤ y → int_lt y place ≡ true → int_lt x place ≡ true
        trans x y h k = grind (arith, ints)
    go (inr behind) = let same : j ≡ i = omega arith in subst (λ (k : ℕ). int_lt (get_or reaches k d).low place ≡ true) same below

-- those that are at most at a place do
pub within_parted : (place : ℤ) (reaches : List Reach) → IsInOrder reaches → IsPartitionedBy (λ r. int_le r.low place) reaches
within_parted place reaches order i j d le lt below = go (cases_lt i j)
  where
    go : (i < j) ⊎ (j ≤ i) → int_le (get_or reaches i d).low place ≡ true
    go (inl before) =
        let x = (get_or reaches i d).low in
        let y = (get_or reaches j d).low in
        let up : x ≤ℤ y = order i j d before lt in
        trans x y up below
      where
        trans : (x y : ℤ) → x ≤ℤ y → int_le y place ≡ true → int_le x place ≡ true
        trans x y h k = grind (arith, ints)
    go (inr behind) = let same : j ≡ i = omega arith in subst (λ (k : ℕ). int_le (get_or reaches k d).low place ≡ true) same below

-- the entries from a place on are the rest of the list
pub rest_is : (n : ℕ) (reaches : List Reach) → take (length reaches - n) (drop n reaches) ≡ drop n reaches
rest_is n reaches = take_all (length reaches - n) (drop n reaches) (omega (arith, length-drop n reaches))

pub drop_in_order : (n : ℕ) (reaches : List Reach) → IsInOrder reaches → IsInOrder (drop n reaches)
drop_in_order n reaches order i j d before lt =
    subst (λ (r : Reach). r.low ≤ℤ (get_or (drop n reaches) j d).low) (sym (get_or-drop n reaches i d))
    (subst (λ (s : Reach). (get_or reaches (n + i) d).low ≤ℤ s.low) (sym (get_or-drop n reaches j d)) (order (n + i) (n + j) d (omega arith) (omega (arith, lt, length-drop n reaches))))

-- one that does not begin before the place stands behind those that do
pub kept_behind : (place : ℤ) (n : ℕ) (reaches : List Reach) (r : Reach) → AllWithin (λ s. int_lt s.low place ≡ true) reaches 0 n → Contains reaches r → place ≤ℤ r.low → Contains (drop n reaches) r
kept_behind place n reaches r before has le = go (cases_lt has.0 n)
  where
    go : (has.0 < n) ⊎ (n ≤ has.0) → Contains (drop n reaches) r
    go (inl early) = absurd (not_both r.low le (subst (λ (x : Reach). int_lt x.low place ≡ true) has.2 (before has.0 r (omega arith) early)))
      where
        not_both : (x : ℤ) → place ≤ℤ x → int_lt x place ≡ true → ⊥
        not_both x h k = grind (arith, ints)
    go (inr late) =
        let lt = has.1 in
        let at : n + (has.0 - n) ≡ has.0 = omega arith in
        (has.0 - n, omega (arith, lt, length-drop n reaches), get_or-drop n reaches (has.0 - n) r ∙ ap (λ (k : ℕ). get_or reaches k r) at ∙ has.2)

-- one that begins at most at the place stands before those that do not
pub kept_before : (place : ℤ) (n : ℕ) (reaches : List Reach) (r : Reach) → AllWithin (λ s. int_le s.low place ≡ false) reaches n (length reaches) → Contains reaches r → r.low ≤ℤ place → Contains (take n reaches) r
kept_before place n reaches r behind has le = go (cases_lt has.0 n)
  where
    go : (has.0 < n) ⊎ (n ≤ has.0) → Contains (take n reaches) r
    go (inl early) = let lt = has.1 in (has.0, omega (arith, lt, early, length-take n reaches), get_or-take n reaches has.0 r early ∙ has.2)
    go (inr late) = absurd (not_both r.low le (subst (λ (x : Reach). int_le x.low place ≡ false) has.2 (behind has.0 r late has.1)))
      where
        not_both : (x : ℤ) → x ≤ℤ place → int_le x place ≡ false → ⊥
        not_both x h k = grind (arith, ints)

pub rest_few : (n : ℕ) (reaches : List Reach) → length (drop n reaches) ≤ length reaches
rest_few n reaches = omega (arith, length-drop n reaches)

pub front_few : (n : ℕ) (reaches : List Reach) → length (take n reaches) ≤ length reaches
front_few n reaches = omega (arith, length-take n reaches)

-- ---- objects with boxes that are wide, or not

-- a box is one of both
one_of : (f : AxisBox → PlainBlock) (box : Option AxisBox) → cond (is_wide_one (option_map f box)) 1 0 + cond (is_narrow_one (option_map f box)) 1 0 ≤ cond (is_some box) 1 0
one_of f None = omega arith
one_of f (Some box) = go (is_wide (f box))
  where
    go : (wide : Bool) → cond wide 1 0 + cond (not wide) 1 0 ≤ 1
    go true = omega arith
    go false = omega arith

-- how many of some objects have wide boxes, and others
abbrev wide_in : SlotObjects → List ℕ → ℕ
wide_in objects some = length (filter (λ object. is_wide_one (block_among objects object)) some)

abbrev narrow_in : SlotObjects → List ℕ → ℕ
narrow_in objects some = length (filter (λ object. is_narrow_one (block_among objects object)) some)

abbrev AreFewUpto : SlotObjects → ℕ → Type 0
AreFewUpto objects k = let all = range_with_len 0 (length objects.boxes.now) in wide_in objects (take k all) + narrow_in objects (take k all) ≤ count_by is_some (take k objects.boxes.now)

one_more : (a b c a' b' c' x y z : ℕ) → a' ≡ a + x → b' ≡ b + y → c' ≡ c + z → x + y ≤ z → a + b ≤ c → a' + b' ≤ c'
one_more a b c a' b' c' x y z e f g le before = omega arith

number_at : (n k : ℕ) → k < n → get_or (range_with_len 0 n) k 0 ≡ k
number_at n k lt = let there = get_or-range_with_len 0 n k 0 lt in omega arith

few_more : (objects : SlotObjects) (k : ℕ) → k < length objects.boxes.now → AreFewUpto objects k → AreFewUpto objects (k + 1)
few_more objects k lt before =
    one_more (wide_in objects (take k all)) (narrow_in objects (take k all)) (count_by is_some (take k boxes))
    (wide_in objects (take (k + 1) all)) (narrow_in objects (take (k + 1) all)) (count_by is_some (take (k + 1) boxes))
    (cond (is_wide_one (block_among objects k)) 1 0) (cond (is_narrow_one (block_among objects k)) 1 0) (cond (is_some (get_or boxes k None)) 1 0)
    (length-filter_more (λ object. is_wide_one (block_among objects object)) all k 0 within ∙ ap (λ (j : ℕ). wide_in objects (take k all) + cond (is_wide_one (block_among objects j)) 1 0) at)
    (length-filter_more (λ object. is_narrow_one (block_among objects object)) all k 0 within ∙ ap (λ (j : ℕ). narrow_in objects (take k all) + cond (is_narrow_one (block_among objects j)) 1 0) at)
    (sum_by_more (λ (b : Option AxisBox). cond {A = ℕ} (is_some b) 1 0) boxes k None lt)
    (one_of (block_of objects.thr (slice_index objects.sizes.now k)) (get_or boxes k None))
    before
  where
    boxes : List (Option AxisBox)
    boxes = objects.boxes.now

    all : List ℕ
    all = range_with_len 0 (length boxes)

    within : k < length all
    within = subst (λ (n : ℕ). k < n) (sym (length-range_with_len 0 (length boxes))) lt

    at : get_or all k 0 ≡ k
    at = number_at (length boxes) k lt

few_upto : (objects : SlotObjects) (k : ℕ) → k ≤ length objects.boxes.now → AreFewUpto objects k
few_upto objects zero le = omega arith
few_upto objects (suc k) le =
    let next : k + 1 ≡ suc k = omega arith in
    subst (λ (j : ℕ). AreFewUpto objects j) next (few_more objects k (omega arith) (few_upto objects k (omega arith)))

pub listed_few : (objects : SlotObjects) → length (wide_among objects) + length (narrow_among objects) ≤ count_by is_some objects.boxes.now
unfolding narrow_among wide_of
listed_few objects =
    let boxes = objects.boxes.now in
    let all = range_with_len 0 (length boxes) in
    let whole : take (length boxes) all ≡ all = take_all (length boxes) all (omega (arith, length-range_with_len 0 (length boxes))) in
    subst (λ (xs : List ℕ). wide_in objects xs + narrow_in objects xs ≤ count_by is_some boxes) whole
    (subst (λ (bs : List (Option AxisBox)). wide_in objects (take (length boxes) all) + narrow_in objects (take (length boxes) all) ≤ count_by is_some bs)
    (take_all (length boxes) boxes (omega arith)) (few_upto objects (length boxes) (omega arith)))

pub narrow_exist : (objects : SlotObjects) → All (λ object. object < length objects.boxes.now) (narrow_among objects)
unfolding narrow_among
narrow_exist objects =
    All-from_each (λ object. object < length objects.boxes.now) (filter (λ object. is_narrow_one (block_among objects object)) (range_with_len 0 (length objects.boxes.now)))
    (Each-filter (λ object. object < length objects.boxes.now) (λ object. is_narrow_one (block_among objects object)) (range_with_len 0 (length objects.boxes.now))
    (Each-range (λ object. object < length objects.boxes.now) 0 (length objects.boxes.now) (λ k low high. omega arith)))

pub wide_exist_too : (objects : SlotObjects) → All (λ object. object < length objects.boxes.now) (wide_among objects)
wide_exist_too objects =
    All-from_each (λ object. object < length objects.boxes.now) (wide_among objects) (wide_exist objects.thr objects.sizes.now objects.boxes.now)

narrow_listed : (objects : SlotObjects) (object : ℕ) → object < length objects.boxes.now → is_narrow_one (block_among objects object) ≡ true → Contains (narrow_among objects) object
unfolding narrow_among
narrow_listed objects object lt narrow =
    Contains-from_exists (narrow_among objects) object
    (member_passes (λ k. is_narrow_one (block_among objects k)) object narrow (range_with_len 0 (length objects.boxes.now)) (Exists-range 0 (length objects.boxes.now) object (omega arith) (omega arith)))

within : (boxes : List (Option AxisBox)) (k : ℕ) (p : AxisBox) → get_or boxes k None ≡ Some p → k < length boxes
within [] k p h = absurd cc
within (b ∷ boxes) zero p h = omega arith
within (b ∷ boxes) (suc k) p h = let e = within boxes k p h in omega arith

-- an object with a box is listed among the ones or the others
listed : (objects : SlotObjects) (object : ℕ) (box : AxisBox) → get_or objects.boxes.now object None ≡ Some box → Contains (wide_among objects) object ⊎ Contains (narrow_among objects) object
listed objects object box is = go (cases_Bool (is_wide block))
  where
    block : PlainBlock
    block = block_of objects.thr (slice_index objects.sizes.now object) box

    here : block_among objects object ≡ Some block
    here = ap (option_map (block_of objects.thr (slice_index objects.sizes.now object))) is

    lt : object < length objects.boxes.now
    lt = within objects.boxes.now object box is

    go : (is_wide block ≡ true) ⊎ (is_wide block ≡ false) → Contains (wide_among objects) object ⊎ Contains (narrow_among objects) object
    go (inl wide) = inl (Contains-from_exists (wide_among objects) object (wide_listed objects.thr objects.sizes.now objects.boxes.now object lt (ap is_wide_one here ∙ wide)))
    go (inr narrow) = inr (narrow_listed objects object lt (ap is_narrow_one here ∙ ap not narrow))

-- ---- pairs that touch

along_x : (thr : ℕ) (p q : PlainBox) → reaches_touch thr p q ≡ true → (p.x.least ≤ℤ (q.x.most +ℤ pos thr)) × (q.x.least ≤ℤ (p.x.most +ℤ pos thr))
along_x thr p q h = (grind (arith, ints), grind (arith, ints))

along_y : (thr : ℕ) (p q : PlainBox) → reaches_touch thr p q ≡ true → (p.y.least ≤ℤ (q.y.most +ℤ pos thr)) × (q.y.least ≤ℤ (p.y.most +ℤ pos thr))
along_y thr p q h = (grind (arith, ints), grind (arith, ints))

along_z : (thr : ℕ) (p q : PlainBox) → reaches_touch thr p q ≡ true → (p.z.least ≤ℤ (q.z.most +ℤ pos thr)) × (q.z.least ≤ℤ (p.z.most +ℤ pos thr))
along_z thr p q h = (grind (arith, ints), grind (arith, ints))

along : (thr : ℕ) (p q : PlainBox) → reaches_touch thr p q ≡ true → (axis : Axis)
    → ((side axis p).least ≤ℤ ((side axis q).most +ℤ pos thr)) × ((side axis q).least ≤ℤ ((side axis p).most +ℤ pos thr))
along thr p q touch axes.X = along_x thr p q touch
along thr p q touch axes.Y = along_y thr p q touch
along thr p q touch axes.Z = along_z thr p q touch

-- two objects with boxes of which each begins along an axis at most at the end of the other
pub record AreAbreast (objects : SlotObjects) (axis : Axis) (one other : ℕ) : Type 0 where
  pub first : AxisBox
  pub second : AxisBox
  pub first_is : get_or objects.boxes.now one None ≡ Some first
  pub second_is : get_or objects.boxes.now other None ≡ Some second
  pub there : (side axis (plain_box first)).least ≤ℤ ((side axis (plain_box second)).most +ℤ pos (objects.thr + slice_index objects.sizes.now one + slice_index objects.sizes.now other))
  pub back : (side axis (plain_box second)).least ≤ℤ ((side axis (plain_box first)).most +ℤ pos (objects.thr + slice_index objects.sizes.now one + slice_index objects.sizes.now other))

abreast : (objects : SlotObjects) (axis : Axis) (a b : ℕ) → touch_among objects (a, b) ≡ true → AreAbreast objects axis a b
abreast objects axis a b touch = go (get_or objects.boxes.now a None) (get_or objects.boxes.now b None) refl refl (touch_is objects.thr objects.sizes.now a b objects.boxes.now ∙ touch)
  where
    go : (x y : Option AxisBox) → get_or objects.boxes.now a None ≡ x → get_or objects.boxes.now b None ≡ y
        → both_touch (threshold_between objects.thr objects.sizes.now a b) (option_map plain_box x) (option_map plain_box y) ≡ true → AreAbreast objects axis a b
    go None y own other h = absurd cc
    go (Some p) None own other h = absurd cc
    go (Some p) (Some q) own other h =
        let each = along (threshold_between objects.thr objects.sizes.now a b) (plain_box p) (plain_box q) h axis in
        record { first = p; second = q; first_is = own; second_is = other; there = each.0; back = each.1 }

turned : (objects : SlotObjects) (axis : Axis) (a b : ℕ) → AreAbreast objects axis a b → AreAbreast objects axis b a
turned objects axis a b are =
    let sum : objects.thr + slice_index objects.sizes.now a + slice_index objects.sizes.now b ≡ objects.thr + slice_index objects.sizes.now b + slice_index objects.sizes.now a = omega arith in
    record {
      first = are.second;
      second = are.first;
      first_is = are.second_is;
      second_is = are.first_is;
      there = subst (λ (t : ℕ). (side axis (plain_box are.second)).least ≤ℤ ((side axis (plain_box are.first)).most +ℤ pos t)) sum are.back;
      back = subst (λ (t : ℕ). (side axis (plain_box are.first)).least ≤ℤ ((side axis (plain_box are.second)).most +ℤ pos t)) sum are.there;
    }

-- ---- entries that meet

other_way : (one other a b : ℕ) → AreBoth one other a b → AreBoth other one a b
other_way one other a b (inl both) = inr (both.1, both.0)
other_way one other a b (inr both) = inl (both.1, both.0)

weaker : (x y : ℤ) → x <ℤ y → x ≤ℤ y
weaker x y h = omega (arith, ints)

apart : (least most : ℤ) (thr s t : ℕ) → least ≤ℤ (most +ℤ pos (thr + s + t)) → (least -ℤ pos s) ≤ℤ (most +ℤ pos (t + thr))
apart least most thr s t h = omega (arith, ints)

apart_too : (least most : ℤ) (thr s t : ℕ) → least ≤ℤ (most +ℤ pos (thr + s + t)) → (least -ℤ pos t) ≤ℤ (most +ℤ pos (s + thr))
apart_too least most thr s t h = omega (arith, ints)

behind_earliest : (least least' most : ℤ) (longest thr s t : ℕ) → least ≤ℤ (most +ℤ pos (thr + s + t)) → (most +ℤ pos (t + thr)) ≤ℤ ((least' -ℤ pos t) +ℤ pos longest)
    → (least -ℤ pos (s + longest)) ≤ℤ (least' -ℤ pos t)
behind_earliest least least' most longest thr s t h k = omega (arith, ints)

-- what is known of the entries of all objects along an axis
pub record AreEntered (objects : SlotObjects) (axis : Axis) (longest : ℕ) (reaches : Reaches) : Type 0 where
  pub wide : (object : ℕ) → Contains (wide_among objects) object → HasReach objects axis longest reaches.wide.items object
  pub others : (object : ℕ) → Contains (narrow_among objects) object → HasReach objects axis longest reaches.others.items object
  pub longer : (object : ℕ) → Contains (narrow_among objects) object → IsNoLonger objects axis longest object

met_by : (objects : SlotObjects) (axis : Axis) (longest : ℕ) (reaches : Reaches) (one other a b : ℕ) → AreEntered objects axis longest reaches → AreAbreast objects axis one other → AreBoth one other a b
    → Contains (wide_among objects) one → AreMet reaches a b
met_by objects axis longest reaches one other a b entered are both wide = go (listed objects other are.second are.second_is)
  where
    s : ℕ
    s = slice_index objects.sizes.now one

    t : ℕ
    t = slice_index objects.sizes.now other

    own : Reach
    own = reach_of objects.thr s longest one (side axis (plain_box are.first))

    its : Reach
    its = reach_of objects.thr t longest other (side axis (plain_box are.second))

    here : Contains reaches.wide.items own
    here = entered.wide one wide are.first are.first_is

    ahead : its.low ≤ℤ own.high
    ahead = apart_too (side axis (plain_box are.second)).least (side axis (plain_box are.first)).most objects.thr s t are.back

    behind : own.low ≤ℤ its.high
    behind = apart (side axis (plain_box are.first)).least (side axis (plain_box are.second)).most objects.thr s t are.there

    go : Contains (wide_among objects) other ⊎ Contains (narrow_among objects) other → AreMet reaches a b
    go (inl too) =
        let there = entered.wide other too are.second are.second_is in
        by_lt_z own.low its.low
        (λ lt. record { own = own; other = its; listed = here; met = record { there = inl (there, weaker own.low its.low lt); before = ahead }; both = both })
        (λ le. record { own = its; other = own; listed = there; met = record { there = inl (here, le); before = behind }; both = other_way one other a b both })
    go (inr narrow) =
        let there = entered.others other narrow are.second are.second_is in
        let early : own.earliest ≤ℤ its.low =
        behind_earliest (side axis (plain_box are.first)).least (side axis (plain_box are.second)).least (side axis (plain_box are.second)).most longest objects.thr s t are.there
        (entered.longer other narrow are.second are.second_is) in
        record { own = own; other = its; listed = here; met = record { there = inr (there, early); before = ahead }; both = both }

-- a touching pair of which one box is wide meets
pub met : (objects : SlotObjects) (axis : Axis) (longest : ℕ) (reaches : Reaches) → AreEntered objects axis longest reaches
    → (a b : ℕ) → touch_among objects (a, b) ≡ true → Contains (wide_among objects) a ⊎ Contains (wide_among objects) b → AreMet reaches a b
met objects axis longest reaches entered a b touch (inl wide) = met_by objects axis longest reaches a b a b entered (abreast objects axis a b touch) (inl (refl, refl)) wide
met objects axis longest reaches entered a b touch (inr wide) = met_by objects axis longest reaches b a a b entered (turned objects axis a b (abreast objects axis a b touch)) (inr (refl, refl)) wide

-- ---- steps

pub row_more : (old so_far now n k m : ℕ) → so_far ≤ old + k * n → now ≤ so_far + n → m ≡ k + 1 → now ≤ old + m * n
row_more old so_far now n k m before more one = rw one (omega arith)

pub part_of_all : (old so_far now n k m : ℕ) → so_far ≤ old + k * n → now ≤ so_far + n → k < m → now ≤ old + m * n
part_of_all old so_far now n k m before more lt =
    let rest : k + 1 + (m - (k + 1)) ≡ m = omega arith in
    subst (λ (j : ℕ). now ≤ old + j * n) rest (omega arith)

-- so many rows of so many are within the bound
pub within_bound : (old now rows some wide all : ℕ) → now ≤ old + rows * some → rows ≤ wide → some ≤ all → now ≤ old + wide * all
within_bound old now rows some wide all few le le' =
    let first : rows * some ≤ wide * some = mul-le-mul_right some le in
    let second : wide * some ≤ wide * all = mul-le-mul_left wide le' in
    omega arith

-- ---- lengths

pub greater_first : (a b m : ℕ) → m ≡ max a b → a ≤ m
greater_first a b m is = omega arith

pub greater_second : (a b m : ℕ) → m ≡ max a b → b ≤ m
greater_second a b m is = omega arith

pub greater_few : (a b m n : ℕ) → m ≡ max a b → a ≤ n → b ≤ n → m ≤ n
greater_few a b m n is le le' = omega arith

pub longer_still : (x y : ℤ) (k m : ℕ) → x ≤ℤ (y +ℤ pos k) → k ≤ m → x ≤ℤ (y +ℤ pos m)
longer_still x y k m h le = omega (arith, ints)

pub both_few : (a b m n all : ℕ) → a ≤ m → b ≤ n → m + n ≤ all → a + b ≤ all
both_few a b m n all le le' few = omega arith

-- ---- an entry that is read

pub same_entry : (read kept : List Reach) (i : ℕ) (d own : Reach) → read ≡ kept → i < length read → get_or kept i own ≡ own → own ≡ get_or read i d
same_entry read kept i d own is lt at = sym (get_or_default read i d own lt ∙ ap (λ (rs : List Reach). get_or rs i own) is ∙ at)
