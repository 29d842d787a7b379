-- Objects whose boxes touch share a bucket, or one of the boxes is wide.
use Rattle.std.proofs.Common.{◌≡◌, ◌⊎◌, inl, inr, ℕ, zero, suc, ◌+◌, ◌-◌, ◌*◌, ◌/◌, ◌^◌, ◌<◌, ◌≤◌, max, Bool, true, false, cond, List, [], ◌∷◌, length, get_or, Option, Some, None, refl, sym, ap, subst, ◌∙◌, arith}
use Rattle.std.proofs.lemmas.Int.{ints}
use Rattle.std.proofs.lemmas.Bool.{cases_Bool}
use Rattle.std.proofs.lemmas.List.{get_or_default}
use Rattle.std.proofs.lemmas.Nat.{le-div}
use Rattle.std.proofs.Math.Nat.{div-mul-le_self}
use Rattle.std.specs.Prelude.{ℤ, pos, ◌+ℤ◌, ◌-ℤ◌, ◌≤ℤ◌, option_map, option_and_then, slice_get, slice_index}
use Rattle.std.specs.List.{range_with_len}
use Rattle.std.proofs.lemmas.Option.{slice_get-map}
use Rattle.cj_base.proofs.LogicLemmas.{all_three}
use Rattle.cj_interval.proofs.ListLemmas.{Each, Exists, Each-always, Each-map, Each-flat_map, Each-range, Exists-weaker, Exists-map, Exists-flat_map, Exists-range, Each-filter, member_passes}
use Rattle.cj_case.specs.PlainProblems.{threshold_between}
use Rattle.cj_case.specs.declared.axis_box.AxisBox.{AxisBox}
use Rattle.cj_bezier.specs.Squares.{from_zero}
use Rattle.cj_bezier.proofs.ShellLemmas.{from_zero-mono}
use Rattle.cj_case.specs.Boxes.{Reach, plain_box, plain_boxes}
use Rattle.cj_bezier.specs.SlotBoxes.{reaches_in, reach_touches, reaches_touch, both_touch, touch_between}
use Rattle.cj_grid.specs.declared.entries.Entry.{Entry}
use Rattle.cj_grid.specs.Buckets.{BUCKET_SIDE, FIRST_CORNER, bucket_on, Numbers, numbers_of, PlainBlock, block_of, is_wide, each_number, bucket_number, in_column, in_layer, in_block, block_in, entered_by, is_wide_one, entries_of, wide_of}

-- ---- on an axis

div_up : (a b k : ℕ) → 0 < k → a ≤ b → a / k ≤ b / k
div_up a b k some le = let part = div-mul-le_self a k in le-div (a / k) b k some (omega arith)

bucket_up : (a b : ℤ) → a ≤ℤ b → bucket_on a ≤ bucket_on b
bucket_up a b h = div_up (from_zero (a +ℤ pos FIRST_CORNER)) (from_zero (b +ℤ pos FIRST_CORNER)) BUCKET_SIDE (omega arith) (from_zero-mono (a +ℤ pos FIRST_CORNER) (b +ℤ pos FIRST_CORNER) (omega (arith, ints)))

-- a bucket is among those that are met on an axis
pub record IsMet (n : Numbers) (k : ℕ) : Type 0 where
  pub low : n.first ≤ k
  pub high : k ≤ n.last

-- the greater of the first buckets is met by both of two reaches that touch
pub record AreMet (a b : Numbers) (k : ℕ) : Type 0 where
  pub one : IsMet a k
  pub other : IsMet b k

both_ways : (thr : ℕ) (p q : Reach) → reach_touches thr p q ≡ true → (p.least ≤ℤ (q.most +ℤ pos thr)) × (q.least ≤ℤ (p.most +ℤ pos thr))
both_ways thr p q h = (grind (arith, ints), grind (arith, ints))

met_on : (thr s t : ℕ) (p q : Reach) → p.least ≤ℤ p.most → q.least ≤ℤ q.most → reach_touches (thr + s + t) p q ≡ true
    → AreMet (numbers_of thr s p) (numbers_of thr t q) (max (numbers_of thr s p).first (numbers_of thr t q).first)
met_on thr s t p q own own' h =
    let both = both_ways (thr + s + t) p q h in
    let there = both.0 in
    let back = both.1 in
    let a = bucket_up (p.least -ℤ pos (thr + s)) (q.most +ℤ pos t) (omega (arith, ints)) in
    let b = bucket_up (q.least -ℤ pos (thr + t)) (p.most +ℤ pos s) (omega (arith, ints)) in
    let c = bucket_up (p.least -ℤ pos (thr + s)) (p.most +ℤ pos s) (omega (arith, ints)) in
    let d = bucket_up (q.least -ℤ pos (thr + t)) (q.most +ℤ pos t) (omega (arith, ints)) in
    greater (numbers_of thr s p) (numbers_of thr t q) a b c d
  where
    greater : (m n : Numbers) → m.first ≤ n.last → n.first ≤ m.last → m.first ≤ m.last → n.first ≤ n.last → AreMet m n (max m.first n.first)
    greater m n a b c d = record { one = record { low = omega arith; high = omega arith }; other = record { low = omega arith; high = omega arith } }

-- ---- in a block

in_numbers : (n : Numbers) (k : ℕ) → IsMet n k → Exists (λ j. j ≡ k) (each_number n)
in_numbers n k met = Exists-range n.first (n.last + 1 - n.first) k met.low (let low = met.low in let high = met.high in omega arith)

-- the entry of an object in a bucket
abbrev pub entry : ℕ → ℕ → Entry
entry bucket object = record { bucket = bucket; object = object }

entered_column : (object x y z : ℕ) (zs : Numbers) → IsMet zs z → Exists (λ e. e ≡ entry (bucket_number x y z) object) (in_column object x y zs)
entered_column object x y z zs met =
    Exists-map (λ e. e ≡ entry (bucket_number x y z) object) (λ (k : ℕ). entry (bucket_number x y k) object) (each_number zs)
    (Exists-weaker (λ k. k ≡ z) (λ k. entry (bucket_number x y k) object ≡ entry (bucket_number x y z) object) (λ k e. ap (λ (j : ℕ). entry (bucket_number x y j) object) e) (each_number zs) (in_numbers zs z met))

entered_layer : (object x y z : ℕ) (ys zs : Numbers) → IsMet ys y → IsMet zs z → Exists (λ e. e ≡ entry (bucket_number x y z) object) (in_layer object x ys zs)
entered_layer object x y z ys zs met met' =
    Exists-flat_map (λ e. e ≡ entry (bucket_number x y z) object) (λ (k : ℕ). in_column object x k zs) (each_number ys)
    (Exists-weaker (λ k. k ≡ y) (λ k. Exists (λ e. e ≡ entry (bucket_number x y z) object) (in_column object x k zs)) (λ k e. rw e (entered_column object x y z zs met')) (each_number ys) (in_numbers ys y met))

entered_block : (object x y z : ℕ) (b : PlainBlock) → IsMet b.x x → IsMet b.y y → IsMet b.z z → Exists (λ e. e ≡ entry (bucket_number x y z) object) (in_block object b)
entered_block object x y z b on_x on_y on_z =
    Exists-flat_map (λ e. e ≡ entry (bucket_number x y z) object) (λ (k : ℕ). in_layer object k b.y b.z) (each_number b.x)
    (Exists-weaker (λ k. k ≡ x) (λ k. Exists (λ e. e ≡ entry (bucket_number x y z) object) (in_layer object k b.y b.z)) (λ k e. rw e (entered_layer object x y z b.y b.z on_y on_z)) (each_number b.x) (in_numbers b.x x on_x))

-- ---- objects that exist

column_exists : (n object x y : ℕ) (zs : Numbers) → object < n → Each (λ (e : Entry). e.object < n) (in_column object x y zs)
column_exists n object x y zs lt = Each-map (λ (e : Entry). e.object < n) (λ (k : ℕ). entry (bucket_number x y k) object) (each_number zs) (Each-always (λ k. object < n) (λ k. lt) (each_number zs))

layer_exists : (n object x : ℕ) (ys zs : Numbers) → object < n → Each (λ (e : Entry). e.object < n) (in_layer object x ys zs)
layer_exists n object x ys zs lt = Each-flat_map (λ (e : Entry). e.object < n) (λ (k : ℕ). in_column object x k zs) (each_number ys)
    (Each-always (λ k. Each (λ (e : Entry). e.object < n) (in_column object x k zs)) (λ k. column_exists n object x k zs lt) (each_number ys))

block_exists : (n object : ℕ) (b : PlainBlock) → object < n → Each (λ (e : Entry). e.object < n) (in_block object b)
block_exists n object b lt = Each-flat_map (λ (e : Entry). e.object < n) (λ (k : ℕ). in_layer object k b.y b.z) (each_number b.x)
    (Each-always (λ k. Each (λ (e : Entry). e.object < n) (in_layer object k b.y b.z)) (λ k. layer_exists n object k b.y b.z lt) (each_number b.x))

one_exists : (n object : ℕ) (block : Option PlainBlock) → object < n → Each (λ (e : Entry). e.object < n) (entered_by object block)
one_exists n object None lt = tt
one_exists n object (Some b) lt = chosen (is_wide b)
  where
    chosen : (wide : Bool) → Each (λ (e : Entry). e.object < n) (cond wide [] (in_block object b))
    chosen true = tt
    chosen false = block_exists n object b lt

pub entries_exist : (thr : ℕ) (sizes : List ℕ) (boxes : List (Option AxisBox)) → Each (λ (e : Entry). e.object < length boxes) (entries_of thr sizes boxes)
unfolding entries_of
entries_exist thr sizes boxes = Each-flat_map (λ (e : Entry). e.object < length boxes) (λ (k : ℕ). entered_by k (block_in thr sizes boxes k)) (range_with_len 0 (length boxes))
    (Each-range (λ k. Each (λ (e : Entry). e.object < length boxes) (entered_by k (block_in thr sizes boxes k))) 0 (length boxes)
    (λ k low high. one_exists (length boxes) k (block_in thr sizes boxes k) (omega arith)))

pub wide_exist : (thr : ℕ) (sizes : List ℕ) (boxes : List (Option AxisBox)) → Each (λ object. object < length boxes) (wide_of thr sizes boxes)
unfolding wide_of
wide_exist thr sizes boxes = Each-filter (λ object. object < length boxes) (λ object. is_wide_one (block_in thr sizes boxes object)) (range_with_len 0 (length boxes))
    (Each-range (λ object. object < length boxes) 0 (length boxes) (λ k low high. omega arith))

-- ---- two objects

-- an object's box, where it has one
abbrev box_in : List (Option AxisBox) → ℕ → Option AxisBox
box_in boxes object = get_or boxes object None

in_list : {A : Type 0} (xs : List (Option A)) (k : ℕ) → option_and_then (λ one. one) (slice_get xs k) ≡ get_or xs k None
in_list [] k = refl
in_list (x ∷ xs) zero = refl
in_list (x ∷ xs) (suc k) = in_list xs k

in_map : {A B : Type 0} (f : A → B) (o : Option (Option A)) → option_and_then (λ one. one) (option_map (option_map f) o) ≡ option_map f (option_and_then (λ one. one) o)
in_map f None = refl
in_map f (Some o) = refl

reaches_there : (boxes : List (Option AxisBox)) (object : ℕ) → reaches_in (plain_boxes boxes) object ≡ option_map plain_box (box_in boxes object)
reaches_there boxes object =
    ap (option_and_then (λ box. box)) (slice_get-map (option_map plain_box) boxes object) ∙ in_map plain_box (slice_get boxes object) ∙ ap (option_map plain_box) (in_list boxes object)

-- two objects touch where their boxes do
pub touch_is : (thr : ℕ) (sizes : List ℕ) (a b : ℕ) (boxes : List (Option AxisBox)) →
    both_touch (threshold_between thr sizes a b) (option_map plain_box (box_in boxes a)) (option_map plain_box (box_in boxes b)) ≡ touch_between thr sizes (plain_boxes boxes) (a, b)
touch_is thr sizes a b boxes = λ i. both_touch (threshold_between thr sizes a b) (sym (reaches_there boxes a) i) (sym (reaches_there boxes b) i)

within : (boxes : List (Option AxisBox)) (k : ℕ) (p : AxisBox) → box_in boxes k ≡ Some p → k < length boxes
within [] k p h = absurd cc
within (b ∷ boxes) zero p h = omega arith
within (b ∷ boxes) (suc k) p h = let e = within boxes k p h in omega arith

-- two objects are entered in one bucket
pub record AreTogether (entries : List Entry) (a b : ℕ) : Type 0 where
  pub bucket : ℕ
  pub one : Exists (λ e. e ≡ entry bucket a) entries
  pub other : Exists (λ e. e ≡ entry bucket b) entries

-- what two touching objects are found by
pub record AreNear (thr : ℕ) (sizes : List ℕ) (boxes : List (Option AxisBox)) (a b : ℕ) : Type 0 where
  pub first_exists : a < length boxes
  pub second_exists : b < length boxes
  pub by : AreTogether (entries_of thr sizes boxes) a b ⊎ (is_wide_one (block_in thr sizes boxes a) ≡ true) ⊎ (is_wide_one (block_in thr sizes boxes b) ≡ true)

entered_of : (thr : ℕ) (sizes : List ℕ) (boxes : List (Option AxisBox)) (object : ℕ) (e : Entry) → object < length boxes
    → Exists (λ d. d ≡ e) (entered_by object (block_in thr sizes boxes object)) → Exists (λ d. d ≡ e) (entries_of thr sizes boxes)
unfolding entries_of
entered_of thr sizes boxes object e lt there =
    Exists-flat_map (λ d. d ≡ e) (λ (k : ℕ). entered_by k (block_in thr sizes boxes k)) (range_with_len 0 (length boxes))
    (Exists-weaker (λ k. k ≡ object) (λ k. Exists (λ d. d ≡ e) (entered_by k (block_in thr sizes boxes k))) (λ k same. rw same there) (range_with_len 0 (length boxes))
    (Exists-range 0 (length boxes) object (omega arith) (omega arith)))

not_wide : (object : ℕ) (block : Option PlainBlock) (b : PlainBlock) (e : Entry) → block ≡ Some b → is_wide b ≡ false → Exists (λ d. d ≡ e) (in_block object b) → Exists (λ d. d ≡ e) (entered_by object block)
not_wide object block b e is narrow there =
    subst (λ (o : Option PlainBlock). Exists (λ d. d ≡ e) (entered_by object o)) (sym is)
    (subst (λ (wide : Bool). Exists (λ d. d ≡ e) (cond wide [] (in_block object b))) (sym narrow) there)

wide_is : (block : Option PlainBlock) (b : PlainBlock) → block ≡ Some b → is_wide b ≡ true → is_wide_one block ≡ true
wide_is block b is wide = ap is_wide_one is ∙ wide

boxes_near : (thr : ℕ) (sizes : List ℕ) (boxes : List (Option AxisBox)) (a b : ℕ) (p q : AxisBox) → a < length boxes → b < length boxes → box_in boxes a ≡ Some p → box_in boxes b ≡ Some q
    → reaches_touch (threshold_between thr sizes a b) (plain_box p) (plain_box q) ≡ true → AreNear thr sizes boxes a b
boxes_near thr sizes boxes a b p q lt lt' own other h = record { first_exists = lt; second_exists = lt'; by = decided (cases_Bool (is_wide one)) (cases_Bool (is_wide two)) }
  where
    s : ℕ
    s = slice_index sizes a

    t : ℕ
    t = slice_index sizes b

    one : PlainBlock
    one = block_of thr s p

    two : PlainBlock
    two = block_of thr t q

    here : block_in thr sizes boxes a ≡ Some one
    here = ap (option_map (block_of thr s)) own

    there : block_in thr sizes boxes b ≡ Some two
    there = ap (option_map (block_of thr t)) other

    axes : (reach_touches (thr + s + t) (plain_box p).x (plain_box q).x ≡ true) × (reach_touches (thr + s + t) (plain_box p).y (plain_box q).y ≡ true) × (reach_touches (thr + s + t) (plain_box p).z (plain_box q).z ≡ true)
    axes = all_three (reach_touches (thr + s + t) (plain_box p).x (plain_box q).x) (reach_touches (thr + s + t) (plain_box p).y (plain_box q).y) (reach_touches (thr + s + t) (plain_box p).z (plain_box q).z) h

    on_x : AreMet one.x two.x (max one.x.first two.x.first)
    on_x = met_on thr s t (plain_box p).x (plain_box q).x p.x_ordered q.x_ordered axes.0

    on_y : AreMet one.y two.y (max one.y.first two.y.first)
    on_y = met_on thr s t (plain_box p).y (plain_box q).y p.y_ordered q.y_ordered axes.1

    on_z : AreMet one.z two.z (max one.z.first two.z.first)
    on_z = met_on thr s t (plain_box p).z (plain_box q).z p.z_ordered q.z_ordered axes.2

    corner : ℕ
    corner = bucket_number (max one.x.first two.x.first) (max one.y.first two.y.first) (max one.z.first two.z.first)

    together : is_wide one ≡ false → is_wide two ≡ false → AreTogether (entries_of thr sizes boxes) a b
    together narrow narrow' = record {
      bucket = corner;
      one = entered_of thr sizes boxes a (entry corner a) lt (not_wide a (block_in thr sizes boxes a) one (entry corner a) here narrow
          (entered_block a (max one.x.first two.x.first) (max one.y.first two.y.first) (max one.z.first two.z.first) one on_x.one on_y.one on_z.one));
      other = entered_of thr sizes boxes b (entry corner b) lt' (not_wide b (block_in thr sizes boxes b) two (entry corner b) there narrow'
          (entered_block b (max one.x.first two.x.first) (max one.y.first two.y.first) (max one.z.first two.z.first) two on_x.other on_y.other on_z.other));
    }

    decided : (is_wide one ≡ true) ⊎ (is_wide one ≡ false) → (is_wide two ≡ true) ⊎ (is_wide two ≡ false)
        → AreTogether (entries_of thr sizes boxes) a b ⊎ (is_wide_one (block_in thr sizes boxes a) ≡ true) ⊎ (is_wide_one (block_in thr sizes boxes b) ≡ true)
    decided (inl wide) k = inr (inl (wide_is (block_in thr sizes boxes a) one here wide))
    decided (inr narrow) (inl wide) = inr (inr (wide_is (block_in thr sizes boxes b) two there wide))
    decided (inr narrow) (inr narrow') = inl (together narrow narrow')

pub touching_near : (thr : ℕ) (sizes : List ℕ) (boxes : List (Option AxisBox)) (a b : ℕ) → touch_between thr sizes (plain_boxes boxes) (a, b) ≡ true → AreNear thr sizes boxes a b
touching_near thr sizes boxes a b h = go (box_in boxes a) (box_in boxes b) refl refl (touch_is thr sizes a b boxes ∙ h)
  where
    go : (x y : Option AxisBox) → box_in boxes a ≡ x → box_in boxes b ≡ y → both_touch (threshold_between thr sizes a b) (option_map plain_box x) (option_map plain_box y) ≡ true → AreNear thr sizes boxes a b
    go None y own other touch = absurd cc
    go (Some p) None own other touch = absurd cc
    go (Some p) (Some q) own other touch = boxes_near thr sizes boxes a b p q (within boxes a p own) (within boxes b q other) own other touch

-- an object with a wide box is listed
pub wide_listed : (thr : ℕ) (sizes : List ℕ) (boxes : List (Option AxisBox)) (object : ℕ) → object < length boxes → is_wide_one (block_in thr sizes boxes object) ≡ true → Exists (λ k. k ≡ object) (wide_of thr sizes boxes)
unfolding wide_of
wide_listed thr sizes boxes object lt wide =
    member_passes (λ k. is_wide_one (block_in thr sizes boxes k)) object wide (range_with_len 0 (length boxes)) (Exists-range 0 (length boxes) object (omega arith) (omega arith))

-- whether two objects touch, by the boxes that were read of them
pub touch_by_boxes : (thr : ℕ) (sizes : List ℕ) (boxes : List (Option AxisBox)) (a b : ℕ) (x y d e : Option AxisBox) → a < length boxes → b < length boxes → get_or boxes a d ≡ x → get_or boxes b e ≡ y
    → both_touch (threshold_between thr sizes a b) (option_map plain_box x) (option_map plain_box y) ≡ touch_between thr sizes (plain_boxes boxes) (a, b)
touch_by_boxes thr sizes boxes a b x y d e first second own other =
    let t = threshold_between thr sizes a b in
    ap (λ (o : Option AxisBox). both_touch t (option_map plain_box o) (option_map plain_box y)) (sym (get_or_default boxes a None d first ∙ own))
    ∙ ap (λ (o : Option AxisBox). both_touch t (option_map plain_box (box_in boxes a)) (option_map plain_box o)) (sym (get_or_default boxes b None e second ∙ other))
    ∙ touch_is thr sizes a b boxes

pub earlier : (a b n : ℕ) → a < b → b < n → a < n
earlier a b n h k = omega arith

pub far_most : (t : ℕ) → t ≤ 1002 * 10 ^ 12 → t ≤ 10 ^ 16
far_most t h = omega arith

pub at_least : (a b c : ℕ) → a ≤ b → b ≤ c → a ≤ c
at_least a b c h k = omega arith
