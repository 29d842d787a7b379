-- The values along the axes are within one millimetre, or one millimetre per second, of the exact ones.
use Rattle.std.proofs.Common.{◌≡◌, ℕ, ◌*◌, ◌<◌, ◌≤◌, Bool, true, false, Some, None, option_map, arith, refl, subst}
use Rattle.std.proofs.lemmas.Bool.{leb-true}
use Rattle.std.specs.Prelude.{◌&&◌, if◌then◌else◌, IfSome, nat_le, unsigned_abs}
use Rattle.cj_interval.proofs.SizeLemmas.{mul_pos}
use Rattle.cj_track.specs.Limits.{MAX_RATE}
use Rattle.cj_hermite.specs.Distance.{IsWithinAt}
use Rattle.cj_hermite.specs.Interpolant.{Curve, IsOver, place_denominator, rate_denominator}
use Rattle.cj_hermite.specs.Limits.{REACH}
use Rattle.cj_rtn.specs.declared.relative.Rtn.{Rtn}
use Rattle.cj_rtn.specs.declared.state.State.{State}
use Rattle.cj_rtn.specs.declared.vector.Vector.{Vector}
use Rattle.cj_rtn.specs.Axes.{LEAST_SQUARE, NORMAL_UNIT, TRANSVERSE_UNIT, normal, transverse, is_long, axes, axes_of, is_slow}
use Rattle.cj_rtn.specs.Exact.{AreNearly, IsNearlyAt, MOST_DISTANCE, exact_place, exact_rate, difference}
use Rattle.cj_rtn.specs.Relative.{values_along, relative_along, relative_of, relative_at}
use Rattle.cj_rtn.specs.States.{place_at, rate_at, state_at}
use Rattle.cj_rtn.specs.Vectors.{IsEachWithin, cross, less, square}
use Rattle.cj_rtn.proofs.AlongLemmas.{along_near}
use Rattle.cj_rtn.proofs.AxisLemmas.{HasAxes, IsWholeOf, radial_enough, normal_enough, transverse_enough, normal_gap, transverse_gap, radial_by, normal_by, transverse_by}
use Rattle.cj_rtn.proofs.NearLemmas.{place_each, rate_each, each_by, difference_by, places_upto, rates_upto}
use Rattle.cj_rtn.proofs.SizeLemmas.{each_more}
use Rattle.cj_rtn.proofs.VectorLemmas.{IsUpTo, IsBy, times}

-- x along the axes of a state; y is g times x but for 7 g, and at most 1,100 km times g
near_values : (s : State) (q w g : ℕ) (p v x y : Vector) → 0 < g → HasAxes s → IsWholeOf s q w p v → IsBy (7 * g) (times g x) y → IsUpTo (1_100_000_000_000_000 * g) y
    → AreNearly (values_along (axes s) x) y p v g
unfolding values_along
near_values s q w g p v x y some has exact near far = record {
  radial = along_near s.place p x y g q 1 4 some (radial_enough s has) (radial_by s q w p v exact) near far;
  transverse = along_near (transverse s) (cross (cross p v) p) x y g (q * w * q) (NORMAL_UNIT * TRANSVERSE_UNIT) (transverse_gap s) some (transverse_enough s has) (transverse_by s q w p v has exact) near far;
  normal = along_near (normal s) (cross p v) x y g (q * w) NORMAL_UNIT (normal_gap s) some (normal_enough s has) (normal_by s q w p v has exact) near far;
}

-- what is whole of an interpolant is near to what is exact
exact_state : (c : Curve) (m : ℕ) → IsOver c m m → IsWholeOf (state_at c m) (place_denominator c.span) (rate_denominator c.span) (exact_place c m) (exact_rate c m)
exact_state c m over =
    let q = place_denominator c.span in
    let w = rate_denominator c.span in
    let one : 1 * w ≡ w = omega arith in
    let four : 2 * (2 * q) ≡ 4 * q = omega arith in
    record {
      place = subst (λ (n : ℕ). IsBy n (times q (place_at c m)) (exact_place c m)) four (each_by (2 * q) (times q (place_at c m)) (exact_place c m) (place_each c m over));
      rate = subst (λ (n : ℕ). IsBy (2 * n) (times w (rate_at c m)) (exact_rate c m)) one (each_by (1 * w) (times w (rate_at c m)) (exact_rate c m) (rate_each c m over));
    }

-- both states are slow, and the first has axes
record AreFit (c d : Curve) (m : ℕ) : Type 0 where
  first_over : IsOver c m m
  second_over : IsOver d m m
  axes : HasAxes (state_at c m)
  second_rate : IsEachWithin MAX_RATE (rate_at d m)

fit_near : (c d : Curve) (m : ℕ) → AreFit c d m → IsWithinAt c d MOST_DISTANCE m → IsNearlyAt c d m (relative_along (state_at c m) (state_at d m) (axes (state_at c m)))
fit_near c d m fit within =
    let s = state_at c m in
    let q = place_denominator c.span in
    let w = rate_denominator c.span in
    let q' = place_denominator d.span in
    let w' = rate_denominator d.span in
    let some = mul_pos c.span c.span fit.first_over.some fit.first_over.some in
    let some' = mul_pos d.span d.span fit.second_over.some fit.second_over.some in
    let cube = mul_pos (c.span * c.span) c.span some fit.first_over.some in
    let cube' = mul_pos (d.span * d.span) d.span some' fit.second_over.some in
    let exact = exact_state c m fit.first_over in
    let places = difference_by (exact_place c m) (exact_place d m) (place_at c m) (place_at d m) q q' (place_each c m fit.first_over) (place_each d m fit.second_over) in
    let rates = difference_by (exact_rate c m) (exact_rate d m) (rate_at c m) (rate_at d m) w w'
    (each_more (1 * w) (2 * w) _ (omega arith) (rate_each c m fit.first_over)) (each_more (1 * w') (2 * w') _ (omega arith) (rate_each d m fit.second_over)) in
    record {
      place = near_values s q w (q * q') (exact_place c m) (exact_rate c m) (less (place_at d m) (place_at c m)) (difference (exact_place c m) q (exact_place d m) q')
          (mul_pos q q' (mul_pos 3000000 (c.span * c.span * c.span) (omega arith) cube) (mul_pos 3000000 (d.span * d.span * d.span) (omega arith) cube'))
          fit.axes exact places (places_upto c d m MOST_DISTANCE within);
      rate = near_values s q w (w * w') (exact_place c m) (exact_rate c m) (less (rate_at d m) (rate_at c m)) (difference (exact_rate c m) w (exact_rate d m) w')
          (mul_pos w w' cube cube') fit.axes exact rates (rates_upto (rate_at c m) (rate_at d m) (difference (exact_rate c m) w (exact_rate d m) w') (w * w') fit.axes.rate fit.second_rate rates);
    }

-- ---- where there are values

both : (x y : Bool) → (x && y) ≡ true → (x ≡ true) × (y ≡ true)
both true true h = (refl, refl)
both true false h = absurd (cc)
both false y h = absurd (cc)

pub slow_within : (s : State) → is_slow s ≡ true → IsEachWithin MAX_RATE s.rate
unfolding is_slow
slow_within s h =
    let last = both (nat_le (unsigned_abs s.rate.x) MAX_RATE && nat_le (unsigned_abs s.rate.y) MAX_RATE) (nat_le (unsigned_abs s.rate.z) MAX_RATE) h in
    let first = both (nat_le (unsigned_abs s.rate.x) MAX_RATE) (nat_le (unsigned_abs s.rate.y) MAX_RATE) last.0 in
    record { x = leb-true _ _ first.0; y = leb-true _ _ first.1; z = leb-true _ _ last.1 }

pub long_square : (a : Vector) → is_long a ≡ true → LEAST_SQUARE ≤ square a
long_square a h = leb-true LEAST_SQUARE (square a) h

-- what holds of all values that there are holds of those that may be none
where_some : (a b : State) (P : Rtn → Type 0)
    → (is_slow a ≡ true → is_slow b ≡ true → is_long a.place ≡ true → is_long (normal a) ≡ true → P (relative_along a b (axes a)))
    → IfSome (relative_of a b) P
unfolding relative_of axes_of
where_some a b P holds = by_speed (is_slow a) (is_slow b) (is_long a.place) (is_long (normal a)) holds
  where
    by_speed : (x y p n : Bool) → (x ≡ true → y ≡ true → p ≡ true → n ≡ true → P (relative_along a b (axes a)))
        → IfSome (if x && y then option_map (relative_along a b) (if p && n then Some (axes a) else None) else None) P
    by_speed true true true true holds = holds refl refl refl refl
    by_speed true true true false holds = tt
    by_speed true true false n holds = tt
    by_speed true false p n holds = tt
    by_speed false y p n holds = tt

-- each value that there is is within one millimetre, or one millimetre per second, of the exact one
pub relative_near : (c d : Curve) (m : ℕ) → IsOver c m m → IsOver d m m → IsEachWithin REACH (place_at c m) → IsWithinAt c d MOST_DISTANCE m → IfSome (relative_at c d m) (IsNearlyAt c d m)
relative_near c d m over over' place within =
    where_some (state_at c m) (state_at d m) (IsNearlyAt c d m)
    (λ slow slow' long turning. fit_near c d m (record {
      first_over = over;
      second_over = over';
      axes = record { place = place; rate = slow_within (state_at c m) slow; far = long_square (place_at c m) long; turning = long_square (normal (state_at c m)) turning };
      second_rate = slow_within (state_at d m) slow';
    }) within)
