-- The hulls of a track lie within a million kilometres of the origin.
use Rattle.std.proofs.Common.{ℕ, ◌-◌, ◌*◌, ◌^◌, ◌<◌, ◌≤◌, List, [], ◌∷◌, refl, arith}
use Rattle.std.specs.Prelude.{ℤ, pos, neg_ℤ, ◌≤ℤ◌}
use Rattle.std.proofs.lemmas.Int.{ints}
use Rattle.cj_interval.specs.declared.span.Span.{Span}
use Rattle.cj_interval.specs.Rounding.{floor_div, ceil_div}
use Rattle.cj_interval.specs.Sizes.{IsWithin}
use Rattle.cj_interval.proofs.IntegerLemmas.{le_from_mul, le_trans_ℤ}
use Rattle.cj_interval.proofs.ListLemmas.{Each, Each-append, All-from_each, each_at}
use Rattle.cj_interval.proofs.MachineLemmas.{product_within}
use Rattle.cj_interval.proofs.SizeLemmas.{mul_pos}
use Rattle.cj_track.specs.declared.node.Node.{Node}
use Rattle.cj_track.specs.declared.segment.Segment.{Segment}
use Rattle.cj_track.specs.Limits.{IsWithin as IsAtMost, MAX_COORDINATE, MAX_RATE}
use Rattle.cj_track.specs.Nodes.{IsStep, AreSteps, AreNodes}
use Rattle.cj_track.specs.PlainTracks.{PlainTrack}
use Rattle.cj_track.specs.Tracks.{plain_segment}
use Rattle.cj_hermite.specs.Lengths.{Rises}
use Rattle.cj_hermite.specs.declared.box3.Box3.{Box3}
use Rattle.cj_hermite.specs.Boxes.{IsBoxWithin}
use Rattle.cj_hermite.specs.Interpolant.{Four, Curve, AreBounded, IsOver, controls_of, place_denominator}
use Rattle.cj_hermite.specs.Levels.{polar}
use Rattle.cj_hermite.specs.Limits.{REACH}
use Rattle.cj_hermite.specs.Pieces.{PlainPiece, pieces_of_segment, pieces_of, curve_of_piece}
use Rattle.cj_hermite.proofs.LevelLemmas.{level-low_within, level-high_within, polar-low, polar-high}
use Rattle.cj_hermite.proofs.PieceLemmas.{piece_between, pieces_in, pieces_through}
use Rattle.cj_bezier.specs.Gaps.{gap_terms}
use Rattle.cj_bezier.specs.Hulls.{PlainHull, hull_axes, hull_ends, axes_of}
use Rattle.cj_bezier.specs.Parts.{IsPart, AreInTime, hulls_of}
use Rattle.cj_bezier.specs.Shells.{IsOuter, MAX_RADIUS}
use Rattle.cj_bezier.specs.Sizes.{HULL_REACH}
use Rattle.cj_bezier.proofs.HullListLemmas.{each_hull, have_parts, of_number}
use Rattle.cj_bezier.proofs.ShellLemmas.{outer_of_hull}
use Rattle.cj_cert.specs.Reaches.{IsAxisNear, IsHullNear}

-- ---- the interpolants

controls_bounded : (p v q w : ℤ) (t : ℕ) → IsAtMost MAX_COORDINATE p → IsAtMost MAX_RATE v → IsAtMost MAX_COORDINATE q → IsAtMost MAX_RATE w → t ≤ 3_600_000_000 → AreBounded (controls_of p v q w t)
controls_bounded p v q w t p_in v_in q_in w_in short =
    let out = product_within v (pos t) MAX_RATE 3_600_000_000 (omega (arith, ints)) (omega arith) in
    let back = product_within w (pos t) MAX_RATE 3_600_000_000 (omega (arith, ints)) (omega arith) in
    record { k0 = omega (arith, ints); k1 = omega (arith, ints); k2 = omega (arith, ints); k3 = omega (arith, ints) }

-- the control values of a piece are bounded on each axis
pub record IsBounded (piece : PlainPiece) : Type 0 where
  pub x : AreBounded (curve_of_piece piece).x
  pub y : AreBounded (curve_of_piece piece).y
  pub z : AreBounded (curve_of_piece piece).z

bounded_between : (first last : ℕ) (a b : Node) → IsStep a b → IsBounded (piece_between first last a b)
bounded_between first last a b step =
    let t = b.at.micros - a.at.micros in
    let short : b.at.micros - a.at.micros ≤ 3_600_000_000 = omega (arith, step.short) in
    record {
      x = controls_bounded a.p.x a.v.x b.p.x b.v.x t a.place.0 a.rate.0 b.place.0 b.rate.0 short;
      y = controls_bounded a.p.y a.v.y b.p.y b.v.y t a.place.1 a.rate.1 b.place.1 b.rate.1 short;
      z = controls_bounded a.p.z a.v.z b.p.z b.v.z t a.place.2 a.rate.2 b.place.2 b.rate.2 short;
    }

bounded_in : (first last : ℕ) (nodes : List Node) → AreSteps nodes → Each IsBounded (pieces_in first last nodes)
bounded_in first last [] steps = tt
bounded_in first last (a ∷ []) steps = tt
bounded_in first last (a ∷ b ∷ nodes) steps = (bounded_between first last a b steps.0, bounded_in first last (b ∷ nodes) steps.1)

pub bounded : (segments : List Segment) → Each (λ s. AreNodes s.nodes) segments → Each IsBounded (pieces_through segments)
bounded [] nodes = tt
bounded (a ∷ segments) nodes =
    Each-append IsBounded (pieces_of_segment (plain_segment a)) (pieces_through segments) (bounded_in a.first.micros a.last.micros a.nodes nodes.0.steps) (bounded segments nodes.1)

-- ---- their hulls

-- ticks of an interpolant, counted from its first
record AreWithin (t u v w : ℕ) : Type 0 where
  some : 0 < t
  first : u ≤ t
  second : v ≤ t
  third : w ≤ t

polar_low : (k : Four) (t u v w : ℕ) → AreWithin t u v w → AreBounded k → IsWithin REACH (polar floor_div k t u v w)
polar_low k t u v w in_t b =
    let some = in_t.some in
    let one : 0 < 1 = omega arith in
    let many : 0 < 3_000_000 = omega arith in
    let a = level-low_within k.k0 k.k1 t u 3_000_000 REACH some many in_t.first b.k0 b.k1 in
    let c = level-low_within k.k1 k.k2 t u 3_000_000 REACH some many in_t.first b.k1 b.k2 in
    let d = level-low_within k.k2 k.k3 t u 3_000_000 REACH some many in_t.first b.k2 b.k3 in
    let e = level-low_within _ _ t v 1 REACH some one in_t.second a c in
    let f = level-low_within _ _ t v 1 REACH some one in_t.second c d in
    level-low_within _ _ t w 1 REACH some one in_t.third e f

polar_high : (k : Four) (t u v w : ℕ) → AreWithin t u v w → AreBounded k → IsWithin REACH (polar ceil_div k t u v w)
polar_high k t u v w in_t b =
    let some = in_t.some in
    let one : 0 < 1 = omega arith in
    let many : 0 < 3_000_000 = omega arith in
    let a = level-high_within k.k0 k.k1 t u 3_000_000 REACH some many in_t.first b.k0 b.k1 in
    let c = level-high_within k.k1 k.k2 t u 3_000_000 REACH some many in_t.first b.k1 b.k2 in
    let d = level-high_within k.k2 k.k3 t u 3_000_000 REACH some many in_t.first b.k2 b.k3 in
    let e = level-high_within _ _ t v 1 REACH some one in_t.second a c in
    let f = level-high_within _ _ t v 1 REACH some one in_t.second c d in
    level-high_within _ _ t w 1 REACH some one in_t.third e f

polar_ordered : (k : Four) (t u v w : ℕ) → 0 < t → polar floor_div k t u v w ≤ℤ polar ceil_div k t u v w
polar_ordered k t u v w some =
    let square = mul_pos t t some some in
    let cube = mul_pos (t * t) t square some in
    le_from_mul _ _ (place_denominator t) (mul_pos 3000000 (t * t * t) (omega arith) cube) (le_trans_ℤ _ _ _ (polar-low k t u v w some) (polar-high k t u v w some))

abbrev span_at : (k : Four) (t u v w : ℕ) → 0 < t → Span
span_at k t u v w some = record { lo = polar floor_div k t u v w; hi = polar ceil_div k t u v w; ordered = polar_ordered k t u v w some }

abbrev box_at : (c : Curve) (u v w : ℕ) → 0 < c.span → Box3
box_at c u v w some = record { x = span_at c.x c.span u v w some; y = span_at c.y c.span u v w some; z = span_at c.z c.span u v w some }

box_within : (c : Curve) (u v w : ℕ) (in_c : AreWithin c.span u v w) → AreBounded c.x → AreBounded c.y → AreBounded c.z → IsBoxWithin HULL_REACH (box_at c u v w in_c.some)
box_within c u v w in_c x y z = record {
  x = record { low = omega (arith, polar_low c.x c.span u v w in_c x); high = omega (arith, polar_high c.x c.span u v w in_c x) };
  y = record { low = omega (arith, polar_low c.y c.span u v w in_c y); high = omega (arith, polar_high c.y c.span u v w in_c y) };
  z = record { low = omega (arith, polar_low c.z c.span u v w in_c z); high = omega (arith, polar_high c.z c.span u v w in_c z) };
}

hull_outer : (c : Curve) (first last : ℕ) → first ≤ last → IsOver c first last → AreBounded c.x → AreBounded c.y → AreBounded c.z → IsOuter (gap_terms (hull_axes c first last)) (10 ^ 18)
unfolding hull_axes axes_of
hull_outer c first last le over x y z =
    let a = first - c.start in
    let b = last - c.start in
    let some = over.some in
    let from : first - c.start ≤ c.span = omega (arith, over.from, over.to) in
    let to : last - c.start ≤ c.span = omega (arith, over.from, over.to) in
    outer_of_hull (box_at c a a a some ∷ box_at c a a b some ∷ box_at c a b b some ∷ box_at c b b b some ∷ []) refl
    (All-from_each (IsBoxWithin HULL_REACH) (box_at c a a a some ∷ box_at c a a b some ∷ box_at c a b b some ∷ box_at c b b b some ∷ []) (
      box_within c a a a (record { some = some; first = from; second = from; third = from }) x y z,
      (
        box_within c a a b (record { some = some; first = from; second = from; third = to }) x y z,
        (
          box_within c a b b (record { some = some; first = from; second = to; third = to }) x y z,
          (box_within c b b b (record { some = some; first = to; second = to; third = to }) x y z, tt),
        ),
      ),
    ))

-- the four control points of an axis between two ticks
axis_near : (k : Four) (t a b : ℕ) → 0 < t → a ≤ t → b ≤ t → AreBounded k → IsAxisNear (hull_ends k t a b)
axis_near k t a b some from to bounded =
    let aaa : AreWithin t a a a = record { some = some; first = from; second = from; third = from } in
    let aab : AreWithin t a a b = record { some = some; first = from; second = from; third = to } in
    let abb : AreWithin t a b b = record { some = some; first = from; second = to; third = to } in
    let bbb : AreWithin t b b b = record { some = some; first = to; second = to; third = to } in
    record {
      low = record {
        k0 = near_low _ (polar_low k t a a a aaa bounded);
        k1 = near_low _ (polar_low k t a a b aab bounded);
        k2 = near_low _ (polar_low k t a b b abb bounded);
        k3 = near_low _ (polar_low k t b b b bbb bounded);
      };
      ordered = polar_ordered k t a a a some;
      high = record {
        k0 = near_high _ (polar_high k t a a a aaa bounded);
        k1 = near_high _ (polar_high k t a a b aab bounded);
        k2 = near_high _ (polar_high k t a b b abb bounded);
        k3 = near_high _ (polar_high k t b b b bbb bounded);
      };
    }
  where
    near_low : (z : ℤ) → IsWithin REACH z → neg_ℤ (pos MAX_RADIUS) ≤ℤ z
    near_low z within = omega (arith, ints)

    near_high : (z : ℤ) → IsWithin REACH z → z ≤ℤ pos MAX_RADIUS
    near_high z within = omega (arith, ints)

hull_near : (c : Curve) (first last : ℕ) → first ≤ last → IsOver c first last → AreBounded c.x → AreBounded c.y → AreBounded c.z → IsHullNear (hull_axes c first last)
unfolding hull_axes
hull_near c first last le over x y z =
    let some = over.some in
    let from : first - c.start ≤ c.span = omega (arith, over.from, over.to) in
    let to : last - c.start ≤ c.span = omega (arith, over.from, over.to) in
    record {
      x = axis_near c.x c.span (first - c.start) (last - c.start) some from to x;
      y = axis_near c.y c.span (first - c.start) (last - c.start) some from to y;
      z = axis_near c.z c.span (first - c.start) (last - c.start) some from to z;
    }

-- ---- of a track

-- what holds of the hull of each interpolant with bounded control values, over ticks of its own
abbrev OfBounded : (PlainHull → Type 0) → Type 0
OfBounded P = (c : Curve) (first last : ℕ) → first ≤ last → IsOver c first last → AreBounded c.x → AreBounded c.y → AreBounded c.z → P (hull_axes c first last)

each_bounded : (P : PlainHull → Type 0) → OfBounded P → (e : PlainTrack) (from to : ℕ) → AreInTime e from to → Each Rises (pieces_of e) → Each IsBounded (pieces_of e)
    → Each P (hulls_of e from to)
each_bounded P holds e from to time rise bounded = each_hull e from to P (have_parts e from to time) of_part
  where
    of_part : (index first last : ℕ) (x : PlainPiece) → IsPart e from to index x first last → P (hull_axes (curve_of_piece x) first last)
    of_part index first last x part =
        let some = part.some in
        let rises : x.from.at < x.to.at = each_at Rises (pieces_of e) index x rise part.piece in
        let own = each_at IsBounded (pieces_of e) index x bounded part.piece in
        let a = (of_number e first index x part.piece ((part.ticks first).0 (omega arith, some)).here).covers in
        let b = (of_number e last index x part.piece ((part.ticks last).0 (some, omega arith)).here).covers in
        holds (curve_of_piece x) first last some (record { some = omega arith; from = a.from; to = omega (arith, a.from, b.to) }) own.x own.y own.z

pub hulls_outer : (e : PlainTrack) (from to : ℕ) → AreInTime e from to → Each Rises (pieces_of e) → Each IsBounded (pieces_of e)
    → Each (λ h. IsOuter (gap_terms h) (10 ^ 18)) (hulls_of e from to)
hulls_outer e from to time rise bounded = each_bounded (λ h. IsOuter (gap_terms h) (10 ^ 18)) hull_outer e from to time rise bounded

pub hulls_near : (e : PlainTrack) (from to : ℕ) → AreInTime e from to → Each Rises (pieces_of e) → Each IsBounded (pieces_of e) → Each IsHullNear (hulls_of e from to)
hulls_near e from to time rise bounded = each_bounded IsHullNear hull_near e from to time rise bounded
