-- Slot boxes: the smallest boxes along the axes round the hulls of a track, the places that lie in them, and whether two of them touch.
use Rattle.std.specs.Prelude.{ℕ, ◌-◌, Bool, false, ◌&&◌, ℤ, pos, ◌+ℤ◌, ◌*ℤ◌, ◌≤ℤ◌, int_le, List, [], ◌∷◌, map, Option, Some, None, option_and_then, slice_get}
use Rattle.std.specs.Int.{int_min, int_max}
use Rattle.std.specs.List.{fold}
use Rattle.cj_track.specs.PlainTracks.{PlainTrack}
use Rattle.cj_interval.specs.Spans.{IsIn, least, greatest}
use Rattle.cj_hermite.specs.Interpolant.{Four, Curve, place_numerator, place_denominator}
use Rattle.cj_case.specs.PlainProblems.{threshold_between}
use Rattle.cj_case.specs.declared.axis_box.AxisBox.{AxisBox}
use Rattle.cj_bezier.specs.Hulls.{PlainHull, Ends}
use Rattle.cj_bezier.specs.Parts.{OfEachHull, hulls_of}
use Rattle.cj_case.specs.Boxes.{Reach, PlainBox, plain_box}

-- v is at most each of four values
pub record IsAtMostEach (v : ℤ) (k : Four) : Type 0 where
  pub k0 : v ≤ℤ k.k0
  pub k1 : v ≤ℤ k.k1
  pub k2 : v ≤ℤ k.k2
  pub k3 : v ≤ℤ k.k3

-- v is at least each of four values
pub record IsAtLeastEach (v : ℤ) (k : Four) : Type 0 where
  pub k0 : k.k0 ≤ℤ v
  pub k1 : k.k1 ≤ℤ v
  pub k2 : k.k2 ≤ℤ v
  pub k3 : k.k3 ≤ℤ v

-- how far the hulls of the parts of a track reach on an axis, from one tick to another
pub record IsExtent (e : PlainTrack) (from to : ℕ) (axis : PlainHull → Ends) (least most : ℤ) : Type 0 where
  pub low : OfEachHull e from to (λ h. IsAtMostEach least (axis h).low)
  pub greatest : (v : ℤ) → OfEachHull e from to (λ h. IsAtMostEach v (axis h).low) → v ≤ℤ least
  pub high : OfEachHull e from to (λ h. IsAtLeastEach most (axis h).high)
  pub smallest : (v : ℤ) → OfEachHull e from to (λ h. IsAtLeastEach v (axis h).high) → most ≤ℤ v

-- the smallest box round the hulls of the parts of a track
pub record IsBoxOf (e : PlainTrack) (from to : ℕ) (box : AxisBox) : Type 0 where
  pub x : IsExtent e from to (λ h. h.x) box.least.x box.most.x
  pub y : IsExtent e from to (λ h. h.y) box.least.y box.most.y
  pub z : IsExtent e from to (λ h. h.z) box.least.z box.most.z

-- ---- the same as a function

-- how far two reach together on an axis
abbrev pub round_reaches : Reach → Reach → Reach
round_reaches a b = record { least = int_min a.least b.least; most = int_max a.most b.most }

-- the smallest box round two
abbrev pub round_two : PlainBox → PlainBox → PlainBox
round_two a b = record { x = round_reaches a.x b.x; y = round_reaches a.y b.y; z = round_reaches a.z b.z }

abbrev pub least_four : Four → ℤ
least_four k = least k.k0 k.k1 k.k2 k.k3

abbrev pub greatest_four : Four → ℤ
greatest_four k = greatest k.k0 k.k1 k.k2 k.k3

-- how far hulls reach on an axis, the first of them and the others
abbrev pub reach_on : (PlainHull → Ends) → PlainHull → List PlainHull → Reach
reach_on axis h hs = record {
  least = fold int_min (least_four (axis h).low) (map (λ g. least_four (axis g).low) hs);
  most = fold int_max (greatest_four (axis h).high) (map (λ g. greatest_four (axis g).high) hs);
}

-- how far hulls reach, where there are any
unfoldable pub reaches_round : List PlainHull → Option PlainBox
reaches_round [] = None
reaches_round (h ∷ hs) = Some (record { x = reach_on (λ g. g.x) h hs; y = reach_on (λ g. g.y) h hs; z = reach_on (λ g. g.z) h hs })

-- the smallest box round the hulls of the parts of a track, where it has a state
abbrev pub box_of : PlainTrack → ℕ → ℕ → Option PlainBox
box_of e from to = reaches_round (hulls_of e from to)

-- ---- places

-- the exact place at tick m lies within these reaches
pub record IsPlaceIn (c : Curve) (m : ℕ) (r : PlainBox) : Type 0 where
  pub x : IsIn (r.x.least *ℤ pos (place_denominator c.span)) (r.x.most *ℤ pos (place_denominator c.span)) (place_numerator c.x c.span (m - c.start))
  pub y : IsIn (r.y.least *ℤ pos (place_denominator c.span)) (r.y.most *ℤ pos (place_denominator c.span)) (place_numerator c.y c.span (m - c.start))
  pub z : IsIn (r.z.least *ℤ pos (place_denominator c.span)) (r.z.most *ℤ pos (place_denominator c.span)) (place_numerator c.z c.span (m - c.start))

-- ---- two boxes

-- apart by at most a threshold on an axis
abbrev pub reach_touches : ℕ → Reach → Reach → Bool
reach_touches thr a b = int_le a.least (b.most +ℤ pos thr) && int_le b.least (a.most +ℤ pos thr)

-- apart by at most a threshold on each axis
abbrev pub reaches_touch : ℕ → PlainBox → PlainBox → Bool
reaches_touch thr a b = reach_touches thr a.x b.x && reach_touches thr a.y b.y && reach_touches thr a.z b.z

abbrev pub are_touching : ℕ → AxisBox → AxisBox → Bool
are_touching thr a b = reaches_touch thr (plain_box a) (plain_box b)

-- both objects have a box, and these touch
abbrev pub both_touch : ℕ → Option PlainBox → Option PlainBox → Bool
both_touch thr None b = false
both_touch thr (Some a) None = false
both_touch thr (Some a) (Some b) = reaches_touch thr a b

-- the box of an object, where there is one
abbrev pub reaches_in : List (Option PlainBox) → ℕ → Option PlainBox
reaches_in boxes object = option_and_then (λ box. box) (slice_get boxes object)

-- whether a pair of objects with these boxes touches
abbrev pub touch : ℕ → List (Option PlainBox) → ℕ × ℕ → Bool
touch thr boxes pair = both_touch thr (reaches_in boxes pair.0) (reaches_in boxes pair.1)

-- the same, by the threshold between the two, which have these sizes
abbrev pub touch_between : ℕ → List ℕ → List (Option PlainBox) → ℕ × ℕ → Bool
touch_between thr sizes boxes pair = touch (threshold_between thr sizes pair.0 pair.1) boxes pair
