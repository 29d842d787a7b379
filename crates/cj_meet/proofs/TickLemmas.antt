-- One tick: its bound is at least the exact squared distance, it is the first and the last coefficient of gaps that begin and end there, and it is flat.
use Rattle.std.proofs.Common.{◌≡◌, ◌⊎◌, ℕ, ◌+◌, ◌-◌, ◌*◌, ◌<◌, ◌≤◌, true, List, slice_index_or, refl, sym, ap, subst, ◌∙◌, inl, inr, arith}
use Rattle.std.proofs.Math.Nat.{mul-le-mul_right}
use Rattle.std.proofs.lemmas.Bool.{cases_lt, le-leb}
use Rattle.std.proofs.lemmas.Int.{ints, by_lt_z}
use Rattle.std.specs.Prelude.{ℤ, pos, ◌+ℤ◌, ◌*ℤ◌, ◌≤ℤ◌, ◌<ℤ◌}
use Rattle.cj_interval.specs.declared.span.Span.{Span}
use Rattle.cj_interval.proofs.IntegerLemmas.{le_from_mul, le_trans_ℤ}
use Rattle.cj_interval.proofs.SquareLemmas.{narrow, amgm}
use Rattle.cj_hermite.specs.Distance.{BAND, square_distance}
use Rattle.cj_hermite.specs.Interpolant.{Four, Curve, IsOver}
use Rattle.cj_hermite.proofs.TrackLemmas.{over_part}
use Rattle.cj_bezier.specs.Gaps.{PlainGap, terms_of, gap_low, gap_high, gap_terms, hull_gap, apart_axes}
use Rattle.cj_bezier.specs.Hulls.{hull_axes, highs}
use Rattle.cj_bezier.specs.Shells.{IsInner}
use Rattle.cj_bezier.specs.Squares.{from_zero, least_square, greatest_square}
use Rattle.cj_bezier.specs.Verdicts.{choose6}
use Rattle.cj_bezier.proofs.ShellLemmas.{square_of_inner, square_of_outer}
use Rattle.cj_bezier.proofs.SplitLemmas.{above, below, square_low, square_high, tick_low, tick_high, lows_of_tick, highs_of_tick, share-le, le-share, axis_ordered, axis_narrow}
use Rattle.cj_bezier.proofs.VerdictLemmas.{are_at_least_from, are_at_most_from}
use Rattle.cj_meet.specs.Closest.{upper}
use Rattle.cj_interval.specs.SquareRoots.{floor_root}
use Rattle.cj_meet.specs.Flat.{is_flat}
use Rattle.cj_interval.proofs.SquareRootLemmas.{floor_root-next}
use Rattle.cj_meet.proofs.SquareBoundLemmas.{scale, scale-some, least_holds, greatest_holds, le_from_zero}

-- ---- the seven coefficients of one tick

-- the coefficients are shares of a number that the ends of one tick bound
lows_from : (a b : Curve) (m n : ℕ) → pos n ≤ℤ tick_low a b m → (k : ℕ) → pos (choose6 k * n) ≤ℤ gap_low (hull_gap a b m m) k
lows_from a b m n h k = subst (λ (z : ℤ). pos (choose6 k * n) ≤ℤ z) (sym (lows_of_tick a b m k)) (share-le (choose6 k) n (tick_low a b m) h)

highs_from : (a b : Curve) (m n : ℕ) → tick_high a b m ≤ℤ pos n → (k : ℕ) → gap_high (hull_gap a b m m) k ≤ℤ pos (choose6 k * n)
highs_from a b m n h k = subst (λ (z : ℤ). z ≤ℤ pos (choose6 k * n)) (sym (highs_of_tick a b m k)) (le-share (choose6 k) n (tick_high a b m) h)

-- ---- the bound at a tick

-- it bounds the exact squared distance
pub upper_holds : (a b : Curve) (m : ℕ) → IsOver a m m → IsOver b m m → square_distance a b m ≤ℤ pos (upper a b m * scale a b)
unfolding upper
upper_holds a b m oa ob =
    let top = gap_high (hull_gap a b m m) 0 in
    greatest_holds a b m (from_zero top) oa ob
    (highs_from a b m (from_zero top) (once top (tick_high a b m) (from_zero top) (highs_of_tick a b m 0) (le_from_zero top)))
  where
    once : (x z : ℤ) (n : ℕ) → x ≡ pos 1 *ℤ z → x ≤ℤ pos n → z ≤ℤ pos n
    once x z n is le = omega (arith, ints)

-- no tick of a run has a bound below the least square of the run's gap
pub low_upper : (a b : Curve) (first m last : ℕ) → first ≤ m → m ≤ last → IsOver a first last → IsOver b first last →
    least_square (gap_terms (hull_gap a b first last)) ≤ upper a b m
low_upper a b first m last p q oa ob =
    let low = least_holds a b first m last p q oa ob in
    let high = upper_holds a b m (over_part a first last m m oa p q) (over_part b first last m m ob p q) in
    let all = le_from_mul (pos (least_square (gap_terms (hull_gap a b first last)))) (pos (upper a b m)) (scale a b) (scale-some a b oa.some ob.some) (le_trans_ℤ _ _ _ low high) in
    omega (arith, ints)

-- the first coefficient is the bound at the first tick, the last one that at the last tick
pub first_upper : (a b : Curve) (first last : ℕ) → from_zero (gap_high (hull_gap a b first last) 0) ≡ upper a b first
unfolding upper hull_axes apart_axes
first_upper a b first last = refl

pub last_upper : (a b : Curve) (first last : ℕ) → from_zero (gap_high (hull_gap a b first last) 6) ≡ upper a b last
unfolding upper hull_axes apart_axes
last_upper a b first last = refl

-- ---- one tick is flat

-- the square of a difference at one tick: the square of a whole number bounds it, and is little more than its lower end
record IsNear (l h : ℤ) (g : ℕ) : Type 0 where
  upper : square_high l h ≤ℤ pos (g * g)
  lower : pos (g * g) ≤ℤ (square_low l h +ℤ pos (12 * g))

near : (k k' : Four) (t s t' s' : ℕ) → 0 < t → 0 < t' → s ≤ t → s' ≤ t' → (g : ℕ) × IsNear (below k t s k' t' s') (above k t s k' t' s') g
near k k' t s t' s' p p' q q' =
    let n = narrow (below k t s k' t' s') (above k t s k' t' s') (axis_ordered k k' t s t' s' p p') (axis_narrow k k' t s t' s' p p' q q') in
    (n.0, record { upper = n.1.upper; lower = n.1.lower })

squares_near : (r a b c : ℕ) → a * a + b * b + c * c ≤ r * r + 2 * r + 12 * (a + b + c) → a * a + b * b + c * c ≤ (r + 1000000) * (r + 1000000)
squares_near r a b c h = by_size (cases_lt ((r + 1000000) * (r + 1000000)) (a * a + b * b + c * c))
  where
    clash : (r n s : ℕ) → s ≤ r * r + 2 * r + 12 * n → 2 * (n * (r + 12)) ≤ s + 3 * ((r + 12) * (r + 12)) → (166666 * r + 80000000000) * r ≤ n * r → 166666 * r + 80000000000 ≤ n → ⊥
    clash r n s h k l m = omega arith

    many : (r n s : ℕ) → s ≤ r * r + 2 * r + 12 * n → (r + 1000000) * (r + 1000000) < s → 166666 * r + 80000000000 ≤ n
    many r n s h k = omega arith

    by_size : ((r + 1000000) * (r + 1000000) < a * a + b * b + c * c) ⊎ (a * a + b * b + c * c ≤ (r + 1000000) * (r + 1000000)) → a * a + b * b + c * c ≤ (r + 1000000) * (r + 1000000)
    by_size (inr l) = l
    by_size (inl l) =
        let x = amgm a (r + 12) in let y = amgm b (r + 12) in let z = amgm c (r + 12) in
        let k : 2 * ((a + b + c) * (r + 12)) ≤ a * a + b * b + c * c + 3 * ((r + 12) * (r + 12)) = omega arith in
        let n = many r (a + b + c) (a * a + b * b + c * c) h l in
        absurd (clash r (a + b + c) (a * a + b * b + c * c) h k (mul-le-mul_right r n) n)

-- the lower end at one tick is below the square of the next number after the root
low_small : (a b : Curve) (m : ℕ) → let r = floor_root (least_square (gap_terms (hull_gap a b m m))) in tick_low a b m ≤ℤ pos (r * r + 2 * r)
low_small a b m = by_lt_z (pos (r * r + 2 * r)) (tick_low a b m) (λ l. absurd (too_low l)) (λ l. l)
  where
    r : ℕ
    r = floor_root (least_square (gap_terms (hull_gap a b m m)))

    more : (z : ℤ) (r : ℕ) → pos (r * r + 2 * r) <ℤ z → pos ((r + 1) * (r + 1)) ≤ℤ z
    more z r l = omega (arith, ints)

    too_low : pos (r * r + 2 * r) <ℤ tick_low a b m → ⊥
    too_low l =
        let inner : IsInner (gap_terms (hull_gap a b m m)) (r + 1) = inr (are_at_least_from (hull_gap a b m m) (r + 1) (lows_from a b m ((r + 1) * (r + 1)) (more (tick_low a b m) r l))) in
        let below = square_of_inner (gap_terms (hull_gap a b m m)) (r + 1) inner in
        let next = floor_root-next (least_square (gap_terms (hull_gap a b m m))) in
        omega arith

pub one_tick_flat : (a b : Curve) (m : ℕ) → IsOver a m m → IsOver b m m → is_flat (gap_terms (hull_gap a b m m)) ≡ true
unfolding is_flat
one_tick_flat a b m oa ob =
    le-leb (greatest_square (gap_terms (hull_gap a b m m))) ((r + BAND) * (r + BAND))
    (square_of_outer (gap_terms (hull_gap a b m m)) (r + BAND) (are_at_most_from (hull_gap a b m m) (r + BAND) (highs_from a b m ((r + BAND) * (r + BAND)) high)))
  where
    r : ℕ
    r = floor_root (least_square (gap_terms (hull_gap a b m m)))

    ends : (r a b c : ℕ) (x y z u v w : ℤ) → pos (a * a) ≤ℤ (x +ℤ pos (12 * a)) → pos (b * b) ≤ℤ (y +ℤ pos (12 * b)) → pos (c * c) ≤ℤ (z +ℤ pos (12 * c))
        → u ≤ℤ pos (a * a) → v ≤ℤ pos (b * b) → w ≤ℤ pos (c * c) → (x +ℤ y +ℤ z) ≤ℤ pos (r * r + 2 * r) → (u +ℤ v +ℤ w) ≤ℤ pos ((r + 1000000) * (r + 1000000))
    ends r a b c x y z u v w ha hb hc hu hv hw low =
        let s : a * a + b * b + c * c ≤ r * r + 2 * r + 12 * (a + b + c) = omega (arith, ints) in
        let top = squares_near r a b c s in
        omega (arith, ints)

    high : tick_high a b m ≤ℤ pos ((r + 1000000) * (r + 1000000))
    high =
        let s = m - a.start in
        let s' = m - b.start in
        let q : s ≤ a.span = omega (arith, oa.to) in
        let q' : s' ≤ b.span = omega (arith, ob.to) in
        let x = near a.x b.x a.span s b.span s' oa.some ob.some q q' in
        let y = near a.y b.y a.span s b.span s' oa.some ob.some q q' in
        let z = near a.z b.z a.span s b.span s' oa.some ob.some q q' in
        ends r x.0 y.0 z.0 _ _ _ _ _ _ x.1.lower y.1.lower z.1.lower x.1.upper y.1.upper z.1.upper (low_small a b m)

-- ---- the ends of a gap

-- the first and the last upper end of the gap over a run give the bounds at its first and its last tick
pub first_end : (xs : List Span) (c d : Curve) (first last : ℕ) (z : ℤ) → z ≡ slice_index_or (highs xs) 0 (pos 0) → terms_of xs ≡ gap_terms (hull_gap c d first last) → from_zero z ≡ upper c d first
unfolding gap_terms
first_end xs c d first last z is e = ap from_zero (is ∙ ap (λ (g : PlainGap). slice_index_or g.high 0 (pos 0)) e) ∙ first_upper c d first last

pub last_end : (xs : List Span) (c d : Curve) (first last : ℕ) (z : ℤ) → z ≡ slice_index_or (highs xs) 6 (pos 0) → terms_of xs ≡ gap_terms (hull_gap c d first last) → from_zero z ≡ upper c d last
unfolding gap_terms
last_end xs c d first last z is e = ap from_zero (is ∙ ap (λ (g : PlainGap). slice_index_or g.high 6 (pos 0)) e) ∙ last_upper c d first last
