-- What two boxes that do not touch tell of the places in them.
use Rattle.std.proofs.Common.{◌≡◌, ℕ, ◌+◌, ◌-◌, ◌*◌, ◌<◌, ◌≤◌, ◌⊎◌, inl, inr, Bool, true, false, arith, refl, subst}
use Rattle.std.proofs.lemmas.Int.{ints}
use Rattle.std.proofs.lemmas.Bool.{cases_Bool}
use Rattle.std.specs.Prelude.{◌&&◌, ℤ, pos, ◌+ℤ◌, ◌-ℤ◌, ◌*ℤ◌, ◌≤ℤ◌, ◌<ℤ◌, int_le, unsigned_abs}
use Rattle.cj_interval.specs.Spans.{IsIn}
use Rattle.cj_interval.proofs.IntegerLemmas.{mul-le_right, le_trans_ℤ}
use Rattle.cj_interval.proofs.SizeLemmas.{mul_pos}
use Rattle.cj_interval.proofs.SquareLemmas.{square_is}
use Rattle.cj_hermite.specs.Interpolant.{Curve, place_denominator}
use Rattle.cj_hermite.specs.Distance.{IsFar, offset}
use Rattle.cj_hermite.proofs.DistanceLemmas.{apart_one, beyond}
use Rattle.cj_case.specs.Boxes.{PlainBox}
use Rattle.cj_bezier.specs.SlotBoxes.{IsPlaceIn, reach_touches, reaches_touch}
use Rattle.cj_bezier.proofs.PartedLemmas.{denominator_some}

-- a number of at least n in size has a square of at least n²
square_of : (x : ℤ) (n : ℕ) → n ≤ unsigned_abs x → pos (n * n) ≤ℤ (x *ℤ x)
square_of x n h =
    let e : n + (unsigned_abs x - n) ≡ unsigned_abs x = omega arith in
    let up : n * n ≤ unsigned_abs x * unsigned_abs x = subst (λ (k : ℕ). n * n ≤ k * k) e (omega arith) in
    let s = square_is x in
    omega (arith, ints)

-- the square of one more than a threshold exceeds that of the threshold
more : (thr q : ℕ) → 0 < q → thr * thr * (q * q) < (thr + 1) * q * ((thr + 1) * q)
more thr q some = let p = mul_pos q q some some in omega arith

-- an offset of more than a threshold
beyond_one : (x y z : ℤ) (thr q : ℕ) → 0 < q → (thr + 1) * q ≤ unsigned_abs x → pos (thr * thr * (q * q)) <ℤ (x *ℤ x +ℤ y *ℤ y +ℤ z *ℤ z)
beyond_one x y z thr q some h =
    let a = square_of x ((thr + 1) * q) h in
    let b = square_is y in
    let d = square_is z in
    let m = more thr q some in
    omega (arith, ints)

-- ---- on an axis that parts them

-- the first reach begins more than a threshold behind the end of the second
apart_first : (al ah p bl bh p' : ℤ) (thr q q' : ℕ) → IsIn (al *ℤ pos q) (ah *ℤ pos q) p → IsIn (bl *ℤ pos q') (bh *ℤ pos q') p' → (bh +ℤ pos thr) <ℤ al
    → (thr + 1) * (q * q') ≤ unsigned_abs (pos q' *ℤ p -ℤ pos q *ℤ p')
apart_first al ah p bl bh p' thr q q' h k far =
    let low = (apart_one al ah p bl bh p' q q' h k).low in
    let gap : pos (thr + 1) ≤ℤ (al -ℤ bh) = omega (arith, ints) in
    let least = le_trans_ℤ _ _ _ (mul-le_right (pos (thr + 1)) (al -ℤ bh) (q * q') gap) low in
    omega (arith, ints)

parted : (al ah p bl bh p' : ℤ) (thr q q' : ℕ) → IsIn (al *ℤ pos q) (ah *ℤ pos q) p → IsIn (bl *ℤ pos q') (bh *ℤ pos q') p' → reach_touches thr (record { least = al; most = ah }) (record { least = bl; most = bh }) ≡ false
    → (thr + 1) * (q * q') ≤ unsigned_abs (pos q' *ℤ p -ℤ pos q *ℤ p')
parted al ah p bl bh p' thr q q' h k none = elim (cases_Bool (int_le al (bh +ℤ pos thr))) [
  | inr far ↦ apart_first al ah p bl bh p' thr q q' h k (grind (arith, ints))
  | inl near ↦
      let far : int_le bl (ah +ℤ pos thr) ≡ false = rw near at none in
      let turned = apart_first bl bh p' al ah p thr q' q k h (grind (arith, ints)) in
      omega (arith, ints)
]

-- ---- boxes

-- one of three tests fails
one_fails : (a b c : Bool) → (a && b && c) ≡ false → (a ≡ false) ⊎ (b ≡ false) ⊎ (c ≡ false)
one_fails false b c h = inl refl
one_fails true false c h = inr (inl refl)
one_fails true true false h = inr (inr refl)
one_fails true true true h = absurd cc

-- interpolants with places within reaches that do not touch are far
pub far_apart : (a b : PlainBox) (thr : ℕ) → reaches_touch thr a b ≡ false → (c d : Curve) (m : ℕ) → 0 < c.span → 0 < d.span → IsPlaceIn c m a → IsPlaceIn d m b → IsFar c d thr m
far_apart a b thr none c d m some some' in_a in_b =
    let q = place_denominator c.span in
    let q' = place_denominator d.span in
    let positive : 0 < q * q' = mul_pos q q' (denominator_some c.span some) (denominator_some d.span some') in
    let dx = offset c.start c.span c.x d.start d.span d.x m in
    let dy = offset c.start c.span c.y d.start d.span d.y m in
    let dz = offset c.start c.span c.z d.start d.span d.z m in
    beyond c d thr m (elim (one_fails _ _ _ none) [
      | inl x ↦ beyond_one dx dy dz thr (q * q') positive (parted _ _ _ _ _ _ thr q q' in_a.x in_b.x x)
      | inr (inl y) ↦ let far = beyond_one dy dx dz thr (q * q') positive (parted _ _ _ _ _ _ thr q q' in_a.y in_b.y y) in omega (arith, ints)
      | inr (inr z) ↦ let far = beyond_one dz dx dy thr (q * q') positive (parted _ _ _ _ _ _ thr q q' in_a.z in_b.z z) in omega (arith, ints)
    ])
