-- Bounds on the squared distance, as whole numbers of nm², that a gap shows at each tick.
use Rattle.std.proofs.Common.{◌≡◌, ℕ, ◌*◌, ◌<◌, ◌≤◌, List, refl, sym, subst, arith}
use Rattle.std.proofs.lemmas.Int.{ints}
use Rattle.std.specs.Prelude.{ℤ, pos, negsuc, ◌*ℤ◌, ◌≤ℤ◌}
use Rattle.cj_interval.specs.Rounding.{ceil_div}
use Rattle.cj_interval.proofs.IntegerLemmas.{le_trans_ℤ}
use Rattle.cj_interval.proofs.RoundingLemmas.{ceil_div-ge}
use Rattle.cj_interval.proofs.SizeLemmas.{mul_pos}
use Rattle.cj_hermite.specs.Interpolant.{Curve, IsOver, place_denominator}
use Rattle.cj_hermite.specs.Distance.{square_distance}
use Rattle.cj_bezier.specs.Gaps.{gap_terms, hull_gap, gap_low, gap_high}
use Rattle.cj_bezier.specs.Hulls.{PlainHull}
use Rattle.cj_bezier.specs.Squares.{from_zero, part_up, least_part, greatest_part, least_square, greatest_square}
use Rattle.cj_bezier.specs.Verdicts.{choose6}
use Rattle.cj_bezier.proofs.GapLemmas.{at_least_of_gap, at_most_of_gap, hull_gap_at}
use Rattle.cj_bezier.proofs.SevenLemmas.{from_seven}
use Rattle.cj_bezier.proofs.ShellLemmas.{from_zero-mono, max-left, not_negative, shares_of_least}

-- the square of the denominator of a squared distance
abbrev pub scale : Curve → Curve → ℕ
scale c d = place_denominator c.span * place_denominator d.span * (place_denominator c.span * place_denominator d.span)

pub scale-some : (c d : Curve) → 0 < c.span → 0 < d.span → 0 < scale c d
scale-some c d p q =
    let a = mul_pos 3000000 (c.span * c.span * c.span) (omega arith) (mul_pos (c.span * c.span) c.span (mul_pos c.span c.span p p) p) in
    let b = mul_pos 3000000 (d.span * d.span * d.span) (omega arith) (mul_pos (d.span * d.span) d.span (mul_pos d.span d.span q q) q) in
    let e = mul_pos (place_denominator c.span) (place_denominator d.span) a b in
    mul_pos (place_denominator c.span * place_denominator d.span) (place_denominator c.span * place_denominator d.span) e e

-- ---- the least square that a gap shows

-- at each tick the exact squared distance is at least the least square
pub least_holds : (c d : Curve) (first m last : ℕ) → first ≤ m → m ≤ last → IsOver c first last → IsOver d first last →
    pos (least_square (gap_terms (hull_gap c d first last)) * scale c d) ≤ℤ square_distance c d m
unfolding gap_terms
least_holds c d first m last p q oc od = go (least_part (gap_terms (hull_gap c d first last)).low) refl
  where
    g : PlainHull
    g = hull_gap c d first last

    r : ℕ
    r = place_denominator c.span * place_denominator d.span

    go : (z : ℤ) → least_part (gap_terms (hull_gap c d first last)).low ≡ z → pos (from_zero z * scale c d) ≤ℤ square_distance c d m
    go (negsuc n) e = not_negative (scale c d) _ _ _
    go (pos n) e =
        let low : pos n ≤ℤ least_part (gap_terms (hull_gap c d first last)).low = subst (λ (z : ℤ). pos n ≤ℤ z) (sym e) (omega (arith, ints)) in
        at_least_of_gap r n g _ _ _ (hull_gap_at c d first m last p q oc od)
        (from_seven (λ k z. pos (k * n) ≤ℤ z) (gap_low g) (λ n. refl) (shares_of_least (gap_terms (hull_gap c d first last)).low n low))

-- ---- the greatest square that a gap shows

pub le_from_zero : (z : ℤ) → z ≤ℤ pos (from_zero z)
le_from_zero (pos n) = omega (arith, ints)
le_from_zero (negsuc n) = omega (arith, ints)

first_part : (ends : List ℤ) → part_up ends 0 ≤ℤ greatest_part ends
unfolding greatest_part
first_part ends =
    let top = greatest_refl (greatest_part ends) in
    max-left _ _ _ (max-left _ _ _ (max-left _ _ _ (max-left _ _ _ (max-left _ _ _ (max-left _ _ _ top)))))
  where
    greatest_refl : (z : ℤ) → z ≤ℤ z
    greatest_refl z = omega (arith, ints)

one_part : (z : ℤ) → z ≤ℤ ceil_div z 1
one_part z = let ge = ceil_div-ge z 1 (omega arith) in times_one z (ceil_div z 1) ge
  where
    times_one : (z q : ℤ) → z ≤ℤ (q *ℤ pos 1) → z ≤ℤ q
    times_one z q h = omega (arith, ints)

-- the greatest square is at least the upper end of the first coefficient
pub first-le_greatest : (d : PlainHull) → from_zero (gap_high d 0) ≤ greatest_square (gap_terms d)
unfolding gap_terms
first-le_greatest d =
    from_zero-mono (gap_high d 0) (greatest_part (gap_terms d).high)
    (le_trans_ℤ _ _ _ (one_part (gap_high d 0)) (first_part (gap_terms d).high))

-- at a tick whose upper ends are shares of one number the exact squared distance is at most that
pub greatest_holds : (c d : Curve) (m n : ℕ) → IsOver c m m → IsOver d m m → ((k : ℕ) → gap_high (hull_gap c d m m) k ≤ℤ pos (choose6 k * n)) →
    square_distance c d m ≤ℤ pos (n * scale c d)
greatest_holds c d m n oc od high =
    at_most_of_gap (place_denominator c.span * place_denominator d.span) n (hull_gap c d m m) _ _ _
    (hull_gap_at c d m m m (omega arith) (omega arith) oc od) high
