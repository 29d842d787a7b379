-- The box round hulls: what it says of each part's, and that it holds the place at each tick.
use Rattle.std.proofs.Common.{◌≡◌, ℕ, ◌-◌, ◌≤◌, List, [], ◌∷◌, map, Some, None, refl, sym, ap, subst, arith}
use Rattle.std.specs.Prelude.{ℤ, pos, ◌*ℤ◌, ◌≤ℤ◌, IfSome}
use Rattle.std.specs.Int.{int_min, int_max}
use Rattle.std.specs.List.{fold}
use Rattle.std.proofs.lemmas.Int.{ints, clamps}
use Rattle.cj_interval.specs.Spans.{IsIn, least, greatest}
use Rattle.cj_interval.proofs.IntegerLemmas.{mul-le_right, le_trans_ℤ}
use Rattle.cj_interval.proofs.ListLemmas.{Each, Each-weaker, Each-both, Each-map, each_from_map}
use Rattle.cj_track.specs.PlainTracks.{PlainTrack}
use Rattle.cj_hermite.specs.Interpolant.{Four, Curve, place_numerator, place_denominator}
use Rattle.cj_hermite.specs.Pieces.{piece_holding, curve_of_piece}
use Rattle.cj_hermite.specs.Walks.{HasNone}
use Rattle.cj_case.specs.declared.axis_box.AxisBox.{AxisBox}
use Rattle.cj_bezier.specs.Hulls.{PlainHull, Ends, Encloses, EnclosesAxis}
use Rattle.cj_bezier.specs.Parts.{hulls_of, HaveParts, AreInTime}
use Rattle.cj_bezier.specs.SlotBoxes.{IsAtMostEach, IsAtLeastEach, IsExtent, IsBoxOf, least_four, greatest_four, reach_on, reaches_round, box_of, IsPlaceIn}
use Rattle.cj_case.specs.Boxes.{Reach, PlainBox, plain_box}
use Rattle.cj_bezier.proofs.HullLemmas.{encloses}
use Rattle.cj_bezier.proofs.HullListLemmas.{IsHullRound, of_each_hull, each_hull, no_hulls, no_state, at_each_tick}

-- ---- the least and the greatest of numbers

le_fold : (v a : ℤ) (xs : List ℤ) → v ≤ℤ a → Each (λ x. v ≤ℤ x) xs → v ≤ℤ fold int_min a xs
le_fold v a [] h e = h
le_fold v a (x ∷ xs) h e = let here = e.0 in le_fold v (int_min a x) xs (omega (arith, ints, clamps)) e.1

fold_le_first : (a : ℤ) (xs : List ℤ) → fold int_min a xs ≤ℤ a
fold_le_first a [] = omega (arith, ints)
fold_le_first a (x ∷ xs) = let rest = fold_le_first (int_min a x) xs in omega (arith, ints, clamps)

fold_le_each : (a : ℤ) (xs : List ℤ) → Each (λ x. fold int_min a xs ≤ℤ x) xs
fold_le_each a [] = tt
fold_le_each a (x ∷ xs) = (let first = fold_le_first (int_min a x) xs in omega (arith, ints, clamps), fold_le_each (int_min a x) xs)

fold_ge : (v a : ℤ) (xs : List ℤ) → a ≤ℤ v → Each (λ x. x ≤ℤ v) xs → fold int_max a xs ≤ℤ v
fold_ge v a [] h e = h
fold_ge v a (x ∷ xs) h e = let here = e.0 in fold_ge v (int_max a x) xs (omega (arith, ints, clamps)) e.1

first_le_fold : (a : ℤ) (xs : List ℤ) → a ≤ℤ fold int_max a xs
first_le_fold a [] = omega (arith, ints)
first_le_fold a (x ∷ xs) = let rest = first_le_fold (int_max a x) xs in omega (arith, ints, clamps)

each_le_fold : (a : ℤ) (xs : List ℤ) → Each (λ x. x ≤ℤ fold int_max a xs) xs
each_le_fold a [] = tt
each_le_fold a (x ∷ xs) = (let first = first_le_fold (int_max a x) xs in omega (arith, ints, clamps), each_le_fold (int_max a x) xs)

least_at_most : (v : ℤ) (k : Four) → IsAtMostEach v k → v ≤ℤ least_four k
unfolding least
least_at_most v k is = let a = is.k0 in let b = is.k1 in let c = is.k2 in let d = is.k3 in omega (arith, ints, clamps)

at_most_least : (v : ℤ) (k : Four) → v ≤ℤ least_four k → IsAtMostEach v k
unfolding least
at_most_least v k h = record { k0 = omega (arith, ints, clamps); k1 = omega (arith, ints, clamps); k2 = omega (arith, ints, clamps); k3 = omega (arith, ints, clamps) }

greatest_at_least : (v : ℤ) (k : Four) → IsAtLeastEach v k → greatest_four k ≤ℤ v
unfolding greatest
greatest_at_least v k is = let a = is.k0 in let b = is.k1 in let c = is.k2 in let d = is.k3 in omega (arith, ints, clamps)

at_least_greatest : (v : ℤ) (k : Four) → greatest_four k ≤ℤ v → IsAtLeastEach v k
unfolding greatest
at_least_greatest v k h = record { k0 = omega (arith, ints, clamps); k1 = omega (arith, ints, clamps); k2 = omega (arith, ints, clamps); k3 = omega (arith, ints, clamps) }

-- ---- on an axis

-- the ends of hulls lie within a reach
abbrev pub LiesWithin : Reach → Ends → Type 0
LiesWithin r e = IsAtMostEach r.least e.low × IsAtLeastEach r.most e.high

within_reach : (axis : PlainHull → Ends) (h : PlainHull) (hs : List PlainHull) → Each (λ g. LiesWithin (reach_on axis h hs) (axis g)) (h ∷ hs)
within_reach axis h hs =
    let down = λ (g : PlainHull). least_four (axis g).low in
    let up = λ (g : PlainHull). greatest_four (axis g).high in
    let l = fold int_min (down h) (map down hs) in
    let u = fold int_max (up h) (map up hs) in (
      (at_most_least l (axis h).low (fold_le_first (down h) (map down hs)), at_least_greatest u (axis h).high (first_le_fold (up h) (map up hs))),
      Each-both (λ g. IsAtMostEach l (axis g).low) (λ g. IsAtLeastEach u (axis g).high) hs
          (Each-weaker (λ g. l ≤ℤ down g) (λ g. IsAtMostEach l (axis g).low) (λ g m. at_most_least l (axis g).low m) hs (each_from_map (λ x. l ≤ℤ x) down hs (fold_le_each (down h) (map down hs))))
          (Each-weaker (λ g. up g ≤ℤ u) (λ g. IsAtLeastEach u (axis g).high) (λ g m. at_least_greatest u (axis g).high m) hs (each_from_map (λ x. x ≤ℤ u) up hs (each_le_fold (up h) (map up hs)))),
    )

-- no reach within which they lie is shorter
greatest_least : (axis : PlainHull → Ends) (h : PlainHull) (hs : List PlainHull) (v : ℤ) → Each (λ g. IsAtMostEach v (axis g).low) (h ∷ hs) → v ≤ℤ (reach_on axis h hs).least
greatest_least axis h hs v each =
    let down = λ (g : PlainHull). least_four (axis g).low in
    le_fold v (down h) (map down hs) (least_at_most v (axis h).low each.0) (Each-map (λ x. v ≤ℤ x) down hs (Each-weaker (λ g. IsAtMostEach v (axis g).low) (λ g. v ≤ℤ down g) (λ g m. least_at_most v (axis g).low m) hs each.1))

smallest_most : (axis : PlainHull → Ends) (h : PlainHull) (hs : List PlainHull) (v : ℤ) → Each (λ g. IsAtLeastEach v (axis g).high) (h ∷ hs) → (reach_on axis h hs).most ≤ℤ v
smallest_most axis h hs v each =
    let up = λ (g : PlainHull). greatest_four (axis g).high in
    fold_ge v (up h) (map up hs) (greatest_at_least v (axis h).high each.0) (Each-map (λ x. x ≤ℤ v) up hs (Each-weaker (λ g. IsAtLeastEach v (axis g).high) (λ g. up g ≤ℤ v) (λ g m. greatest_at_least v (axis g).high m) hs each.1))

extent_is : (e : PlainTrack) (from to : ℕ) (axis : PlainHull → Ends) (h : PlainHull) (hs : List PlainHull) (r : Reach) → HaveParts e from to from to → hulls_of e from to ≡ h ∷ hs → reach_on axis h hs ≡ r → IsExtent e from to axis r.least r.most
extent_is e from to axis h hs r have same is =
    let each = subst (λ (k : Reach). Each (λ g. LiesWithin k (axis g)) (h ∷ hs)) is (within_reach axis h hs) in
    record {
      low = of_each_hull e from to (λ g. IsAtMostEach r.least (axis g).low) (subst (Each (λ g. IsAtMostEach r.least (axis g).low)) (sym same) (Each-weaker (λ g. LiesWithin r (axis g)) (λ g. IsAtMostEach r.least (axis g).low) (λ g both. both.0) (h ∷ hs) each));
      greatest = λ v all. subst (λ (k : Reach). v ≤ℤ k.least) is (greatest_least axis h hs v (subst (Each (λ g. IsAtMostEach v (axis g).low)) same (each_hull e from to (λ g. IsAtMostEach v (axis g).low) have all)));
      high = of_each_hull e from to (λ g. IsAtLeastEach r.most (axis g).high) (subst (Each (λ g. IsAtLeastEach r.most (axis g).high)) (sym same) (Each-weaker (λ g. LiesWithin r (axis g)) (λ g. IsAtLeastEach r.most (axis g).high) (λ g both. both.1) (h ∷ hs) each));
      smallest = λ v all. subst (λ (k : Reach). k.most ≤ℤ v) is (smallest_most axis h hs v (subst (Each (λ g. IsAtLeastEach v (axis g).high)) same (each_hull e from to (λ g. IsAtLeastEach v (axis g).high) have all)));
    }

-- ---- the box

pub box_none : (e : PlainTrack) (from to : ℕ) → HasNone e from to → box_of e from to ≡ None
unfolding reaches_round
box_none e from to none_here = ap reaches_round (no_hulls e from to none_here)

-- without a box there is no state
pub none_without : (e : PlainTrack) (from to : ℕ) → box_of e from to ≡ None → HasNone e from to
unfolding reaches_round
none_without e from to none_here = go (hulls_of e from to) refl none_here
  where
    go : (hs : List PlainHull) → hulls_of e from to ≡ hs → reaches_round hs ≡ None → HasNone e from to
    go [] empty h = no_state e from to empty
    go (g ∷ hs) same h = absurd cc

pub some_with : (e : PlainTrack) (from to : ℕ) (r : PlainBox) → box_of e from to ≡ Some r → HasNone e from to → ⊥
some_with e from to r some none_here = let empty = box_none e from to none_here in cc

-- it is that of the parts
pub box_of_parts : (e : PlainTrack) (from to : ℕ) (box : AxisBox) → HaveParts e from to from to → box_of e from to ≡ Some (plain_box box) → IsBoxOf e from to box
unfolding reaches_round
box_of_parts e from to box have some = go (hulls_of e from to) refl some
  where
    go : (hs : List PlainHull) → hulls_of e from to ≡ hs → reaches_round hs ≡ Some (plain_box box) → IsBoxOf e from to box
    go [] empty is = absurd cc
    go (h ∷ hs) same is =
        let all : PlainBox = record { x = reach_on (λ g. g.x) h hs; y = reach_on (λ g. g.y) h hs; z = reach_on (λ g. g.z) h hs } in
        let one : all ≡ plain_box box = cc in
        record {
          x = extent_is e from to (λ g. g.x) h hs (plain_box box).x have same (ap (λ (r : PlainBox). r.x) one);
          y = extent_is e from to (λ g. g.y) h hs (plain_box box).y have same (ap (λ (r : PlainBox). r.y) one);
          z = extent_is e from to (λ g. g.z) h hs (plain_box box).z have same (ap (λ (r : PlainBox). r.z) one);
        }

-- ---- the place

-- between ends that go beyond those of a hull
pub in_ends : (e : Ends) (k : Four) (t u : ℕ) (low high : ℤ) → IsAtMostEach low e.low → IsAtLeastEach high e.high → EnclosesAxis e k t u
    → IsIn (low *ℤ pos (place_denominator t)) (high *ℤ pos (place_denominator t)) (place_numerator k t u)
in_ends e k t u low high under over in_e = record {
  low = le_trans_ℤ _ _ _ (mul-le_right _ _ (place_denominator t) (least_at_most low e.low under)) in_e.place.low;
  high = le_trans_ℤ _ _ _ in_e.place.high (mul-le_right _ _ (place_denominator t) (greatest_at_least high e.high over));
}

-- the ends of a hull lie within reaches
pub record IsWithinReaches (r : PlainBox) (h : PlainHull) : Type 0 where
  pub x : LiesWithin r.x h.x
  pub y : LiesWithin r.y h.y
  pub z : LiesWithin r.z h.z

-- reaches within which each hull lies hold the place at each tick
pub places_lie : (e : PlainTrack) (from to m : ℕ) (r : PlainBox) → AreInTime e from to → Each (IsWithinReaches r) (hulls_of e from to) → from ≤ m → m ≤ to → IfSome (piece_holding e m) (λ x. IsPlaceIn (curve_of_piece x) m r)
places_lie e from to m r time each = at_each_tick e from to m (IsWithinReaches r) (λ c. IsPlaceIn c m r) time each place
  where
    place : (h : PlainHull) (c : Curve) → IsWithinReaches r h → IsHullRound c m h → IsPlaceIn c m r
    place h c is round =
        let in_h = subst (λ (g : PlainHull). Encloses g c m) (sym round.hull) (encloses c round.first m round.last round.over round.after round.before) in
        record {
          x = in_ends h.x c.x c.span (m - c.start) r.x.least r.x.most is.x.0 is.x.1 in_h.x;
          y = in_ends h.y c.y c.span (m - c.start) r.y.least r.y.most is.y.0 is.y.1 in_h.y;
          z = in_ends h.z c.z c.span (m - c.start) r.z.least r.z.most is.z.0 is.z.1 in_h.z;
        }

-- each hull lies within the box round them
pub within_box : (e : PlainTrack) (from to : ℕ) (r : PlainBox) → box_of e from to ≡ Some r → Each (IsWithinReaches r) (hulls_of e from to)
unfolding reaches_round
within_box e from to r some = go (hulls_of e from to) some
  where
    go : (hs : List PlainHull) → reaches_round hs ≡ Some r → Each (IsWithinReaches r) hs
    go [] is = tt
    go (h ∷ hs) is =
        let all : PlainBox = record { x = reach_on (λ g. g.x) h hs; y = reach_on (λ g. g.y) h hs; z = reach_on (λ g. g.z) h hs } in
        let one : all ≡ r = cc in
        subst (λ (k : PlainBox). Each (IsWithinReaches k) (h ∷ hs)) one (zip_each (reach_on (λ g. g.x) h hs) (reach_on (λ g. g.y) h hs) (reach_on (λ g. g.z) h hs) (h ∷ hs) (within_reach (λ g. g.x) h hs) (within_reach (λ g. g.y) h hs) (within_reach (λ g. g.z) h hs))
      where
        zip_each : (a b c : Reach) (gs : List PlainHull) → Each (λ g. LiesWithin a g.x) gs → Each (λ g. LiesWithin b g.y) gs → Each (λ g. LiesWithin c g.z) gs → Each (IsWithinReaches (record { x = a; y = b; z = c })) gs
        zip_each a b c [] p q s = tt
        zip_each a b c (g ∷ gs) p q s = (record { x = p.0; y = q.0; z = s.0 }, zip_each a b c gs p.1 q.1 s.1)

-- so the box holds the place at each tick
pub box_holds : (e : PlainTrack) (from to m : ℕ) (r : PlainBox) → AreInTime e from to → box_of e from to ≡ Some r → from ≤ m → m ≤ to
    → IfSome (piece_holding e m) (λ x. IsPlaceIn (curve_of_piece x) m r)
box_holds e from to m r time some = places_lie e from to m r time (within_box e from to r some)
