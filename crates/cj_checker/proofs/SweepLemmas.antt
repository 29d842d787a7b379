-- A sweep: pairs that are appended where they are candidates, and boxes that stay active as long as they may be reached.
use Rattle.std.proofs.Common.{◌≡◌, ◌⊎◌, ℕ, zero, suc, ◌+◌, ◌-◌, ◌*◌, ◌/◌, ◌<◌, ◌≤◌, min, max, Bool, true, false, List, [], ◌∷◌, ◌++◌, drop, take, length, get_or, Option, Some, None, refl, sym, ap, ◌∙◌, subst, inl, inr, arith, is_lt, nat_cmp}
use Rattle.std.specs.Prelude.{ℤ, pos, ◌≤ℤ◌, ◌<ℤ◌, ◌+ℤ◌, ◌-ℤ◌, int_le, int_lt, option_map, option_and_then, slice_index}
use Rattle.std.specs.declared.cmp.Ordering.{Ordering}
use Rattle.std.specs.declared.cmp.Ordering.TheVariants.{Less, Equal, Greater}
use Rattle.std.specs.Ordering.{MatchOrdering, ordering_then, int_cmp}
use Rattle.std.specs.List.{AllWithin, Contains}
use Rattle.std.specs.List.Sorted.{IsPartitionedBy, IsSorted}
use Rattle.std.proofs.lemmas.Bool.{and_parts, cases_lt}
use Rattle.std.proofs.lemmas.Bool.Decides.{nat_tests}
use Rattle.std.proofs.lemmas.Int.{ints, clamps, by_lt_z}
use Rattle.std.proofs.lemmas.Nat.{le-div}
use Rattle.std.proofs.Math.Nat.{div-mul-le_self}
use Rattle.std.proofs.lemmas.Option.{slice_get_past}
use Rattle.std.specs.Cmp.{IsTotalOrder}
use Rattle.std.proofs.lemmas.Cmp.{then_total, on_total, nat_cmp_total, int_cmp_total, int_ranked}
use Rattle.std.proofs.lemmas.List.Sorted.{sorted_far, ranks_by}
use Rattle.std.proofs.lemmas.List.{get_or-drop, get_or-take, length-drop, length-take, take_all}
use Rattle.std.proofs.lemmas.List.Elements.{All-push}
use Rattle.cj_case.specs.declared.pair.Pair.{Pair}
use Rattle.cj_case.specs.Pairs.{AreBoth, ArePairsKept, HasPair, objects_of}
use Rattle.cj_case.specs.PlainProblems.{PlainProblem, threshold_between, threshold_of}
use Rattle.cj_case.specs.Primaries.{concerns}
use Rattle.cj_case.specs.declared.axis_box.AxisBox.{AxisBox}
use Rattle.cj_case.specs.declared.shells.Shell.{Shell}
use Rattle.cj_bezier.specs.Shells.{are_kept, keeps, keeps_between, shell_in}
use Rattle.cj_case.specs.Boxes.{PlainBox, plain_box, plain_boxes}
use Rattle.cj_bezier.specs.SlotBoxes.{reaches_in, reaches_touch, both_touch, touch_between}
use Rattle.cj_bezier.specs.Squares.{from_zero}
use Rattle.cj_bezier.proofs.ShellLemmas.{from_zero-mono}
use Rattle.cj_checker.specs.declared.axis.Axis.{Axis}
use Rattle.cj_checker.specs.declared.axis.Axis.TheVariants as axes
use Rattle.cj_checker.specs.declared.layout.Layout.{Layout}
use Rattle.cj_checker.specs.declared.reach.Reach.{Reach}
use Rattle.cj_checker.specs.Keys.{candidate_with}
use Rattle.cj_checker.specs.Sweeps.{AreCandidates, AreMet, HasReach, IsEntered, IsInOrder, Meet, MeetsStripe, across, moved, reach_of, side, stripe_in, stripe_of}

-- ---- one pair more

pub candidates_more : (case : PlainProblem) (shells : List (Option Shell)) (areas : List (Option PlainBox)) (old : List Pair) (p : Pair) → candidate_with case shells areas (objects_of p) ≡ true
    → AreCandidates case shells areas old → AreCandidates case shells areas (old ++ p ∷ [])
candidates_more case shells areas old p is all = All-push (λ pair. candidate_with case shells areas (objects_of pair) ≡ true) old p all is

-- ---- candidates

-- both objects of a candidate have a shell and a box, and along each axis each begins at most the threshold behind the other
pub record AreBoxed (case : PlainProblem) (shells : List (Option Shell)) (areas : List (Option PlainBox)) (a b : ℕ) : Type 0 where
  pub own : Shell
  pub other : Shell
  pub first : PlainBox
  pub second : PlainBox
  pub own_is : shell_in shells a ≡ Some own
  pub other_is : shell_in shells b ≡ Some other
  pub first_is : reaches_in areas a ≡ Some first
  pub second_is : reaches_in areas b ≡ Some second
  pub there : (axis : Axis) → (side axis own first).least ≤ℤ ((side axis other second).most +ℤ pos (threshold_between case.threshold case.sizes a b))
  pub back : (axis : Axis) → (side axis other second).least ≤ℤ ((side axis own first).most +ℤ pos (threshold_between case.threshold case.sizes a b))

shells_along : (thr : ℕ) (s t : Shell) → are_kept thr (Some s) (Some t) ≡ true → (s.lo ≤ t.hi + thr) × (t.lo ≤ s.hi + thr)
shells_along thr s t h = (grind (arith, nat_tests), grind (arith, nat_tests))

along_x : (thr : ℕ) (p q : PlainBox) → reaches_touch thr p q ≡ true → (p.x.least ≤ℤ (q.x.most +ℤ pos thr)) × (q.x.least ≤ℤ (p.x.most +ℤ pos thr))
along_x thr p q h = (grind (arith, ints), grind (arith, ints))

along_y : (thr : ℕ) (p q : PlainBox) → reaches_touch thr p q ≡ true → (p.y.least ≤ℤ (q.y.most +ℤ pos thr)) × (q.y.least ≤ℤ (p.y.most +ℤ pos thr))
along_y thr p q h = (grind (arith, ints), grind (arith, ints))

along_z : (thr : ℕ) (p q : PlainBox) → reaches_touch thr p q ≡ true → (p.z.least ≤ℤ (q.z.most +ℤ pos thr)) × (q.z.least ≤ℤ (p.z.most +ℤ pos thr))
along_z thr p q h = (grind (arith, ints), grind (arith, ints))

along : (thr : ℕ) (s t : Shell) (x y : PlainBox) → are_kept thr (Some s) (Some t) ≡ true → reaches_touch thr x y ≡ true → (axis : Axis)
    → ((side axis s x).least ≤ℤ ((side axis t y).most +ℤ pos thr)) × ((side axis t y).least ≤ℤ ((side axis s x).most +ℤ pos thr))
along thr s t x y kept touch axes.X = along_x thr x y touch
along thr s t x y kept touch axes.Y = along_y thr x y touch
along thr s t x y kept touch axes.Z = along_z thr x y touch
along thr s t x y kept touch axes.Radius = let both = shells_along thr s t kept in let there = both.0 in let back = both.1 in (omega (arith, ints, there), omega (arith, ints, back))

pub boxed : (case : PlainProblem) (shells : List (Option Shell)) (areas : List (Option PlainBox)) (a b : ℕ) → candidate_with case shells areas (a, b) ≡ true → AreBoxed case shells areas a b
boxed case shells areas a b is =
    let both = and_parts (keeps_between case.primaries case.threshold case.sizes shells (a, b)) (touch_between case.threshold case.sizes areas (a, b)) is in
    go (shell_in shells a) refl (shell_in shells b) refl (reaches_in areas a) refl (reaches_in areas b) refl (and_parts (concerns case (a, b)) (keeps (threshold_of case a b) shells (a, b)) both.0).1 both.1
  where
    go : (s : Option Shell) → shell_in shells a ≡ s → (t : Option Shell) → shell_in shells b ≡ t
        → (o : Option PlainBox) → reaches_in areas a ≡ o → (p : Option PlainBox) → reaches_in areas b ≡ p
        → are_kept (threshold_between case.threshold case.sizes a b) s t ≡ true → both_touch (threshold_between case.threshold case.sizes a b) o p ≡ true → AreBoxed case shells areas a b
    go None h t i o j p k kept touch = absurd cc
    go (Some s) h None i o j p k kept touch = absurd cc
    go (Some s) h (Some t) i None j p k kept touch = absurd cc
    go (Some s) h (Some t) i (Some x) j None k kept touch = absurd cc
    go (Some s) h (Some t) i (Some x) j (Some y) k kept touch =
        let each = along (threshold_between case.threshold case.sizes a b) s t x y kept touch in
        record { own = s; other = t; first = x; second = y; own_is = h; other_is = i; first_is = j; second_is = k; there = λ axis. (each axis).0; back = λ axis. (each axis).1 }

-- an object with a box is one of those with places in the list
pub boxed_exists : (areas : List (Option PlainBox)) (object : ℕ) (area : PlainBox) → reaches_in areas object ≡ Some area → object < length areas
boxed_exists areas object area is = go (cases_lt object (length areas))
  where
    go : (object < length areas) ⊎ (length areas ≤ object) → object < length areas
    go (inl lt) = lt
    go (inr past) = let none : reaches_in areas object ≡ None = ap (λ (o : Option (Option PlainBox)). option_and_then (λ box. box) o) (slice_get_past areas object past) in absurd cc

-- the box that is read at a place
pub area_read : (areas : List (Option AxisBox)) (object : ℕ) (x : Option AxisBox) → object < length areas → x ≡ get_or areas object x → reaches_in (plain_boxes areas) object ≡ option_map plain_box x
area_read [] object x lt is = absurd (omega arith)
area_read (y ∷ areas) zero x lt is = joined y ∙ ap (option_map plain_box) (sym is)
  where
    joined : (y : Option AxisBox) → option_and_then (λ (box : Option PlainBox). box) (Some (option_map plain_box y)) ≡ option_map plain_box y
    joined y = refl
area_read (y ∷ areas) (suc object) x lt is = area_read areas object x (omega arith) is

-- ---- stripes

div_up : (a b k : ℕ) → 0 < k → a ≤ b → a / k ≤ b / k
div_up a b k some le = let part = div-mul-le_self a k in le-div (a / k) b k some (omega arith)

min_up : (a b c : ℕ) → a ≤ b → min a c ≤ min b c
min_up a b c le = omega (arith, clamps)

stripe_up : (x y : ℤ) → x ≤ℤ y → stripe_of x ≤ stripe_of y
stripe_up x y h =
    let begin : ℤ = pos 64_000_000_000_000_000 in
    let behind = from_zero-mono (x +ℤ begin) (y +ℤ begin) (omega (arith, ints)) in
    div_up (min (from_zero (x +ℤ begin)) 127_999_999_999_999_999) (min (from_zero (y +ℤ begin)) 127_999_999_999_999_999) 1_000_000_000_000_000 (omega arith)
    (min_up (from_zero (x +ℤ begin)) (from_zero (y +ℤ begin)) 127_999_999_999_999_999 behind)

stripe_in_up : (striped : Bool) (x y : ℤ) → x ≤ℤ y → stripe_in striped x ≤ stripe_in striped y
stripe_in_up true x y h = stripe_up x y h
stripe_in_up false x y h = omega arith

-- two objects that reach each other across the stripes meet one stripe both
record ShareStripe (striped : Bool) (u v : Reach) : Type 0 where
  stripe : ℕ
  first : MeetsStripe striped u stripe
  second : MeetsStripe striped v stripe

the_later : (a b c d : ℕ) → a ≤ d → b ≤ c → (a ≤ max a b) × (max a b ≤ max c a) × (b ≤ max a b) × (max a b ≤ max d b)
the_later a b c d h k = (omega (arith, clamps), omega (arith, clamps), omega (arith, clamps), omega (arith, clamps))

share_stripe : (striped : Bool) (u v : Reach) → u.low ≤ℤ v.high → v.low ≤ℤ u.high → ShareStripe striped u v
share_stripe striped u v there back =
    let a = stripe_in striped u.low in
    let b = stripe_in striped v.low in
    let all = the_later a b (stripe_in striped u.high) (stripe_in striped v.high) (stripe_in_up striped u.low v.high there) (stripe_in_up striped v.low u.high back) in
    record { stripe = max a b; first = record { from = all.0; upto = all.1 }; second = record { from = all.2; upto = all.3 } }

-- an object is entered by its own shell and box
pub entered_by : (case : PlainProblem) (object : ℕ) (s own : Shell) (x box : PlainBox) (layout : Layout) (reaches : List Reach) (r t : Reach) → s ≡ own → x ≡ box
    → r ≡ reach_of case object (side layout.axis s x) → t ≡ reach_of case object (side (across layout.axis) s x)
    → ((stripe : ℕ) → MeetsStripe layout.striped t stripe → Contains reaches (moved stripe r)) → IsEntered case object own box layout reaches
entered_by case object s own x box layout reaches r t same same_too along beside all stripe meets =
    let first : r ≡ reach_of case object (side layout.axis own box) = along ∙ (λ i. reach_of case object (side layout.axis (same i) (same_too i))) in
    let second : t ≡ reach_of case object (side (across layout.axis) own box) = beside ∙ (λ i. reach_of case object (side (across layout.axis) (same i) (same_too i))) in
    subst (λ (e : Reach). Contains reaches (moved stripe e)) first (all stripe (subst (λ (e : Reach). MeetsStripe layout.striped e stripe) (sym second) meets))

both_moved : (x y : ℤ) (n : ℕ) → x ≤ℤ y → (x +ℤ pos n) ≤ℤ (y +ℤ pos n)
both_moved x y n h = omega (arith, ints)

-- the entries of a candidate meet
pub met : (case : PlainProblem) (shells : List (Option Shell)) (areas : List (Option PlainBox)) (layout : Layout) (rows others : List Reach) (first end objects a b : ℕ) → length areas ≡ objects
    → ((object : ℕ) → first ≤ object → object < end → HasReach case shells areas layout rows object)
    → ((object : ℕ) → end ≤ object → object < objects → HasReach case shells areas layout others object)
    → first ≤ a → a < end → a < b → candidate_with case shells areas (a, b) ≡ true → Meet rows others a b
met case shells areas layout rows others first end objects a b count in_rows in_others low high up is =
    let r = boxed case shells areas a b is in
    let x = reach_of case a (side layout.axis r.own r.first) in
    let y = reach_of case b (side layout.axis r.other r.second) in
    let u = reach_of case a (side (across layout.axis) r.own r.first) in
    let v = reach_of case b (side (across layout.axis) r.other r.second) in
    let along = both layout.axis r in
    let beside = both (across layout.axis) r in
    let shared = share_stripe layout.striped u v beside.0 beside.1 in
    let apart = shared.stripe * 4_000_000_000_000_000_000 in
    let exists = boxed_exists areas b r.second r.second_is in
    record {
      first = moved shared.stripe x;
      second = moved shared.stripe y;
      first_there = in_rows a low high r.own r.first r.own_is r.first_is shared.stripe shared.first;
      second_there = go (cases_lt b end) exists r.other r.second r.other_is r.second_is shared.stripe shared.second;
      first_is = refl;
      second_is = refl;
      there = both_moved x.low y.high apart along.0;
      back = both_moved y.low x.high apart along.1;
    }
  where
    apart_by : (least most : ℤ) (thr s t : ℕ) → least ≤ℤ (most +ℤ pos (thr + s + t)) → (least -ℤ pos s) ≤ℤ (most +ℤ pos (t + thr))
    apart_by least most thr s t h = omega (arith, ints)

    apart_back : (least most : ℤ) (thr s t : ℕ) → least ≤ℤ (most +ℤ pos (thr + s + t)) → (least -ℤ pos t) ≤ℤ (most +ℤ pos (s + thr))
    apart_back least most thr s t h = omega (arith, ints)

    -- each reaches the other along an axis
    both : (axis : Axis) (r : AreBoxed case shells areas a b) → ((reach_of case a (side axis r.own r.first)).low ≤ℤ (reach_of case b (side axis r.other r.second)).high)
        × ((reach_of case b (side axis r.other r.second)).low ≤ℤ (reach_of case a (side axis r.own r.first)).high)
    both axis r = (
      apart_by (side axis r.own r.first).least (side axis r.other r.second).most case.threshold (slice_index case.sizes a) (slice_index case.sizes b) (r.there axis),
      apart_back (side axis r.other r.second).least (side axis r.own r.first).most case.threshold (slice_index case.sizes a) (slice_index case.sizes b) (r.back axis),
    )

    go : (b < end) ⊎ (end ≤ b) → b < length areas → (own : Shell) (box : PlainBox) → shell_in shells b ≡ Some own → reaches_in areas b ≡ Some box
        → (stripe : ℕ) → MeetsStripe layout.striped (reach_of case b (side (across layout.axis) own box)) stripe
        → Contains rows (moved stripe (reach_of case b (side layout.axis own box))) ⊎ Contains others (moved stripe (reach_of case b (side layout.axis own box)))
    go (inl within) lt own box h k stripe meets = inl (in_rows b (omega arith) within own box h k stripe meets)
    go (inr behind) lt own box h k stripe meets = inr (in_others b behind (omega arith) own box h k stripe meets)

-- ---- entries in order

-- entries that are sorted are in order of where they begin
abbrev pub reach_cmp : Reach → Reach → Ordering
reach_cmp r s = ordering_then (int_cmp r.low s.low) (ordering_then (int_cmp r.high s.high) (nat_cmp r.object s.object))

reaches_total : IsTotalOrder reach_cmp
reaches_total = then_total (on_total (λ (r : Reach). r.low) int_cmp_total) (then_total (on_total (λ (r : Reach). r.high) int_cmp_total) (on_total (λ (r : Reach). r.object) nat_cmp_total))

first_not : (o p : Ordering) → is_lt (ordering_then o p) ≡ false → is_lt o ≡ false
first_not Less p h = absurd cc
first_not Equal p h = refl
first_not Greater p h = refl

not_below : (x y : ℤ) → is_lt (int_cmp y x) ≡ false → x ≤ℤ y
not_below x y h = go (int_cmp y x) refl h (int_ranked y x (int_cmp y x) refl)
  where
    go : (r : Ordering) → r ≡ int_cmp y x → is_lt r ≡ false → MatchOrdering r (y <ℤ x) (y ≡ x) (x <ℤ y) → x ≤ℤ y
    go Less e h m = absurd cc
    go Equal e h m = omega (arith, ints)
    go Greater e h m = omega (arith, ints)

pub sorted_in_order : (reaches : List Reach) → IsSorted reach_cmp reaches → IsInOrder reaches
sorted_in_order reaches up i j d lt below =
    let r = get_or reaches i d in
    let s = get_or reaches j d in
    let far : is_lt (reach_cmp s r) ≡ false = sorted_far (λ a b. is_lt (reach_cmp a b)) (ranks_by reaches_total (λ x. x)) reaches up i j d (omega arith) below in
    not_below r.low s.low (first_not (int_cmp s.low r.low) (ordering_then (int_cmp s.high r.high) (nat_cmp s.object r.object)) far)

-- ---- entries from a place on, and up to a place

lt_test : (x y : ℤ) → x <ℤ y → int_lt x y ≡ true
lt_test x y h = grind (arith, ints)

-- in order, those below a place stand in front
pub below_parted : (place : ℤ) (reaches : List Reach) → IsInOrder reaches → IsPartitionedBy (λ r. int_lt r.low place) reaches
below_parted place reaches order i j d le lt below = go (cases_lt i j)
  where
    go : (i < j) ⊎ (j ≤ i) → int_lt (get_or reaches i d).low place ≡ true
    go (inl before) =
        let x = (get_or reaches i d).low in
        let y = (get_or reaches j d).low in
        let up : x ≤ℤ y = order i j d before lt in
        trans x y up below
      where
        trans : (x y : ℤ) → x ≤ℤ y → int_lt y place ≡ true → int_lt x place ≡ true
        trans x y h k = grind (arith, ints)
    go (inr behind) = let same : j ≡ i = omega arith in subst (λ (k : ℕ). int_lt (get_or reaches k d).low place ≡ true) same below

-- those that are at most at a place do
pub within_parted : (place : ℤ) (reaches : List Reach) → IsInOrder reaches → IsPartitionedBy (λ r. int_le r.low place) reaches
within_parted place reaches order i j d le lt below = go (cases_lt i j)
  where
    go : (i < j) ⊎ (j ≤ i) → int_le (get_or reaches i d).low place ≡ true
    go (inl before) =
        let x = (get_or reaches i d).low in
        let y = (get_or reaches j d).low in
        let up : x ≤ℤ y = order i j d before lt in
        trans x y up below
      where
        trans : (x y : ℤ) → x ≤ℤ y → int_le y place ≡ true → int_le x place ≡ true
        trans x y h k = grind (arith, ints)
    go (inr behind) = let same : j ≡ i = omega arith in subst (λ (k : ℕ). int_le (get_or reaches k d).low place ≡ true) same below

-- the entries from a place on are the rest of the list
pub rest_is : (n : ℕ) (reaches : List Reach) → take (length reaches - n) (drop n reaches) ≡ drop n reaches
rest_is n reaches = take_all (length reaches - n) (drop n reaches) (omega (arith, length-drop n reaches))

pub drop_in_order : (n : ℕ) (reaches : List Reach) → IsInOrder reaches → IsInOrder (drop n reaches)
drop_in_order n reaches order i j d before lt =
    subst (λ (r : Reach). r.low ≤ℤ (get_or (drop n reaches) j d).low) (sym (get_or-drop n reaches i d))
    (subst (λ (s : Reach). (get_or reaches (n + i) d).low ≤ℤ s.low) (sym (get_or-drop n reaches j d)) (order (n + i) (n + j) d (omega arith) (omega (arith, lt, length-drop n reaches))))

-- one that does not begin before the place stands behind those that do
pub kept_behind : (place : ℤ) (n : ℕ) (reaches : List Reach) (r : Reach) → AllWithin (λ s. int_lt s.low place ≡ true) reaches 0 n → Contains reaches r → place ≤ℤ r.low → Contains (drop n reaches) r
kept_behind place n reaches r before has le = go (cases_lt has.0 n)
  where
    go : (has.0 < n) ⊎ (n ≤ has.0) → Contains (drop n reaches) r
    go (inl early) = absurd (not_both r.low le (subst (λ (x : Reach). int_lt x.low place ≡ true) has.2 (before has.0 r (omega arith) early)))
      where
        not_both : (x : ℤ) → place ≤ℤ x → int_lt x place ≡ true → ⊥
        not_both x h k = grind (arith, ints)
    go (inr late) =
        let lt = has.1 in
        let at : n + (has.0 - n) ≡ has.0 = omega arith in
        (has.0 - n, omega (arith, lt, length-drop n reaches), get_or-drop n reaches (has.0 - n) r ∙ ap (λ (k : ℕ). get_or reaches k r) at ∙ has.2)

-- one that begins at most at the place stands before those that do not
pub kept_before : (place : ℤ) (n : ℕ) (reaches : List Reach) (r : Reach) → AllWithin (λ s. int_le s.low place ≡ false) reaches n (length reaches) → Contains reaches r → r.low ≤ℤ place → Contains (take n reaches) r
kept_before place n reaches r behind has le = go (cases_lt has.0 n)
  where
    go : (has.0 < n) ⊎ (n ≤ has.0) → Contains (take n reaches) r
    go (inl early) = let lt = has.1 in (has.0, omega (arith, lt, early, length-take n reaches), get_or-take n reaches has.0 r early ∙ has.2)
    go (inr late) = absurd (not_both r.low le (subst (λ (x : Reach). int_le x.low place ≡ false) has.2 (behind has.0 r late has.1)))
      where
        not_both : (x : ℤ) → x ≤ℤ place → int_le x place ≡ false → ⊥
        not_both x h k = grind (arith, ints)

-- ---- pairs of entries that meet

other_way : (one other a b : ℕ) → AreBoth one other a b → AreBoth other one a b
other_way one other a b (inl both) = inr (both.1, both.0)
other_way one other a b (inr both) = inl (both.1, both.0)

-- two entries that meet are found, whichever of them begins first
pub found_there : (case : PlainProblem) (shells : List (Option Shell)) (areas : List (Option PlainBox)) (some others : List Reach) (pairs : List Pair) (r s : Reach) (a b : ℕ)
    → AreMet case shells areas some others pairs → AreMet case shells areas others some pairs
    → Contains some r → Contains others s → r.object ≡ a → s.object ≡ b → r.low ≤ℤ s.high → s.low ≤ℤ r.high → a < b → candidate_with case shells areas (a, b) ≡ true → HasPair pairs a b
found_there case shells areas some others pairs r s a b there back has has' own other before after up is =
    by_lt_z r.low s.low
    (λ lt. there r s has has' (weaker r.low s.low lt) after a b up (inl (own, other)) is)
    (λ le. back s r has' has le before a b up (inr (other, own)) is)
  where
    weaker : (x y : ℤ) → x <ℤ y → x ≤ℤ y
    weaker x y h = omega (arith, ints)

-- what was met stays met in a later list
met_still : (case : PlainProblem) (shells : List (Option Shell)) (areas : List (Option PlainBox)) (some others : List Reach) (old new : List Pair) → ArePairsKept old new
    → AreMet case shells areas some others old → AreMet case shells areas some others new
met_still case shells areas some others old new kept are r s has has' up within a b lt both is = kept a b (are r s has has' up within a b lt both is)

-- all candidates of the rows are found: those of two objects of the rows first, then those with an object behind
pub all_found : (case : PlainProblem) (shells : List (Option Shell)) (areas : List (Option PlainBox)) (rows others : List Reach) (old more all : List Pair) (a b : ℕ)
    → AreMet case shells areas rows rows old → AreMet case shells areas rows others more → AreMet case shells areas others rows all → ArePairsKept old more → ArePairsKept more all
    → Meet rows others a b → a < b → candidate_with case shells areas (a, b) ≡ true → HasPair all a b
all_found case shells areas rows others old more all a b within there back kept still meet up is = go meet.second_there
  where
    among : AreMet case shells areas rows rows all
    among = met_still case shells areas rows rows more all still (met_still case shells areas rows rows old more kept within)

    go : Contains rows meet.second ⊎ Contains others meet.second → HasPair all a b
    go (inl has) = found_there case shells areas rows rows all meet.first meet.second a b among among meet.first_there has meet.first_is meet.second_is meet.there meet.back up is
    go (inr has) =
        found_there case shells areas rows others all meet.first meet.second a b (met_still case shells areas rows others more all still there) back
        meet.first_there has meet.first_is meet.second_is meet.there meet.back up is
