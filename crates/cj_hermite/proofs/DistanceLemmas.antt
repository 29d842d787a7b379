-- Facts on distances from comparisons of squares, and the difference of two places that spans hold.
use Rattle.std.proofs.Common.{◌≡◌, ℕ, ◌*◌, arith, refl, sym, subst, [], ◌∷◌}
use Rattle.std.proofs.lemmas.Int.{ints}
use Rattle.std.specs.Prelude.{ℤ, pos, ◌-ℤ◌, ◌*ℤ◌, ◌≤ℤ◌, ◌<ℤ◌, ◌-◌}
use Rattle.cj_interval.specs.Spans.{IsIn}
use Rattle.cj_interval.proofs.IntegerLemmas.{mul-le_right}
use Rattle.cj_interval.proofs.RingLemmas.{ring, var, ◌:*◌, ◌:-◌, from}
use Rattle.cj_hermite.specs.Interpolant.{Curve}
use Rattle.cj_hermite.specs.Distance.{IsWithinAt, square_bound, square_distance}

below : (x y : ℤ) → x <ℤ y → y ≤ℤ x → ⊥
below x y h k = omega (arith, ints)

-- a squared distance that exceeds the bound is not within it
pub beyond : (a b : Curve) (e m : ℕ) → square_bound a b e <ℤ square_distance a b m → ¬ IsWithinAt a b e m
beyond a b e m h = λ k. below (square_bound a b e) (square_distance a b m) h k

-- the difference of two fractions p / q and p' / q', from spans that hold them
pub apart_one : (al ah p bl bh p' : ℤ) (q q' : ℕ) → IsIn (al *ℤ pos q) (ah *ℤ pos q) p → IsIn (bl *ℤ pos q') (bh *ℤ pos q') p'
    → IsIn ((al -ℤ bh) *ℤ pos (q * q')) ((ah -ℤ bl) *ℤ pos (q * q')) (pos q' *ℤ p -ℤ pos q *ℤ p')
apart_one al ah p bl bh p' q q' h k =
    let l1 = mul-le_right (al *ℤ pos q) p q' h.low in
    let l2 = mul-le_right p' (bh *ℤ pos q') q k.high in
    let h1 = mul-le_right p (ah *ℤ pos q) q' h.high in
    let h2 = mul-le_right (bl *ℤ pos q') p' q k.low in
    let el = open-out al bh (pos q) (pos q') in
    let eh = open-out ah bl (pos q) (pos q') in
    record {
      low = subst (λ (t : ℤ). t ≤ℤ (pos q' *ℤ p -ℤ pos q *ℤ p')) (sym el) (minus _ _ p p' (pos q) (pos q') l1 l2);
      high = subst (λ (t : ℤ). (pos q' *ℤ p -ℤ pos q *ℤ p') ≤ℤ t) (sym eh) (minus' _ _ p p' (pos q) (pos q') h1 h2);
    }
  where
    open-out : (a b q r : ℤ) → (a -ℤ b) *ℤ (q *ℤ r) ≡ (a *ℤ q) *ℤ r -ℤ (b *ℤ r) *ℤ q
    open-out a b q r = ring (from (a ∷ b ∷ q ∷ r ∷ [])) ((var 0 :- var 1) :* (var 2 :* var 3)) ((var 0 :* var 2) :* var 3 :- (var 1 :* var 3) :* var 2) refl

    minus : (x z p p' q r : ℤ) → x ≤ℤ (p *ℤ r) → (p' *ℤ q) ≤ℤ z → (x -ℤ z) ≤ℤ (r *ℤ p -ℤ q *ℤ p')
    minus x z p p' q r h k = omega (arith, ints)

    minus' : (x z p p' q r : ℤ) → (p *ℤ r) ≤ℤ x → z ≤ℤ (p' *ℤ q) → (r *ℤ p -ℤ q *ℤ p') ≤ℤ (x -ℤ z)
    minus' x z p p' q r h k = omega (arith, ints)
