-- An end of a box in a list, by the lists of ends.
use Rattle.std.proofs.Common.{◌≡◌, ℕ, zero, suc, ◌<◌, length, arith, refl, sym, ap, ◌∙◌, List, slice_index_or}
use Rattle.std.proofs.lemmas.List.{get_or-map, length-map}
use Rattle.std.specs.Prelude.{ℤ, pos, map, ◌-ℤ◌, [], ◌∷◌}
use Rattle.std.specs.List.{All}
use Rattle.cj_interval.specs.declared.span.Span.{Span}
use Rattle.cj_hermite.specs.declared.box3.Box3.{Box3}
use Rattle.cj_bezier.specs.Hulls.{Ends, PlainHull, axes_of}
use Rattle.cj_bezier.specs.Gaps.{IsLess, apart_axes}

-- what holds of four holds of each in their list
pub all_four : {A : Type 0} (P : A → Type 0) (a b c d : A) → P a → P b → P c → P d → All P (a ∷ b ∷ c ∷ d ∷ [])
all_four P a b c d pa pb pc pd zero e h = pa
all_four P a b c d pa pb pc pd (suc zero) e h = pb
all_four P a b c d pa pb pc pd (suc (suc zero)) e h = pc
all_four P a b c d pa pb pc pd (suc (suc (suc zero))) e h = pd
all_four P a b c d pa pb pc pd (suc (suc (suc (suc n)))) e h = absurd (omega arith)

-- a list of four by its places
pub listed_four : {A : Type 0} (xs : List A) (a b c d : A) → length xs ≡ 4 → slice_index_or xs 0 a ∷ slice_index_or xs 1 b ∷ slice_index_or xs 2 c
    ∷ slice_index_or xs 3 d ∷ [] ≡ xs
listed_four [] a b c d four = absurd (omega arith)
listed_four (x0 ∷ []) a b c d four = absurd (omega arith)
listed_four (x0 ∷ x1 ∷ []) a b c d four = absurd (omega arith)
listed_four (x0 ∷ x1 ∷ x2 ∷ []) a b c d four = absurd (omega arith)
listed_four (x0 ∷ x1 ∷ x2 ∷ x3 ∷ []) a b c d four = refl
listed_four (x0 ∷ x1 ∷ x2 ∷ x3 ∷ x4 ∷ xs) a b c d four = absurd (omega arith)

pub read_end : (axis : Box3 → Span) (end : Span → ℤ) (bs : List Box3) (n : ℕ) (b : Box3) → n < length bs → slice_index_or (map end (map axis bs)) n (pos 0) ≡ end (axis (slice_index_or bs n b))
read_end axis end bs n b h =
    let l : n < length (map axis bs) = rw (length-map bs axis) h in
    get_or-map end (map axis bs) n (axis b) (pos 0) l ∙ ap end (get_or-map axis bs n b (axis b) h)

pub ends_same : (a b : Ends) → a.low.k0 ≡ b.low.k0 → a.low.k1 ≡ b.low.k1 → a.low.k2 ≡ b.low.k2 → a.low.k3 ≡ b.low.k3
    → a.high.k0 ≡ b.high.k0 → a.high.k1 ≡ b.high.k1 → a.high.k2 ≡ b.high.k2 → a.high.k3 ≡ b.high.k3 → a ≡ b
ends_same a b l0 l1 l2 l3 h0 h1 h2 h3 = λ i. record {
  low = record { k0 = l0 i; k1 = l1 i; k2 = l2 i; k3 = l3 i };
  high = record { k0 = h0 i; k1 = h1 i; k2 = h2 i; k3 = h3 i };
}

pub axes_same : (a b : PlainHull) → a.x ≡ b.x → a.y ≡ b.y → a.z ≡ b.z → a ≡ b
axes_same a b ex ey ez = λ i. record { x = ex i; y = ey i; z = ez i }

less_by : (d p q p' q' : ℤ) → d ≡ p -ℤ q → p' ≡ p → q' ≡ q → d ≡ p' -ℤ q'
less_by d p q p' q' e f g = e ∙ ap (λ z. z -ℤ q) (sym f) ∙ ap (λ z. p' -ℤ z) (sym g)

pub axes_apart : (xs ys : List Box3) (a0 a1 a2 a3 b0 b1 b2 b3 d0 d1 d2 d3 : Box3) → length xs ≡ 4 → length ys ≡ 4
    → IsLess d0 (slice_index_or xs 0 a0) (slice_index_or ys 0 b0) → IsLess d1 (slice_index_or xs 1 a1) (slice_index_or ys 1 b1)
    → IsLess d2 (slice_index_or xs 2 a2) (slice_index_or ys 2 b2) → IsLess d3 (slice_index_or xs 3 a3) (slice_index_or ys 3 b3)
    → axes_of (d0 ∷ d1 ∷ d2 ∷ d3 ∷ []) ≡ apart_axes (axes_of xs) (axes_of ys)
unfolding axes_of apart_axes
axes_apart xs ys a0 a1 a2 a3 b0 b1 b2 b3 d0 d1 d2 d3 n m h0 h1 h2 h3 =
    axes_same _ _
    (ends_same _ _
    (less_by _ _ _ _ _ h0.x_lower (read_end (λ b. b.x) (λ s. s.lo) xs 0 a0 (omega arith)) (read_end (λ b. b.x) (λ s. s.hi) ys 0 b0 (omega arith)))
    (less_by _ _ _ _ _ h1.x_lower (read_end (λ b. b.x) (λ s. s.lo) xs 1 a1 (omega arith)) (read_end (λ b. b.x) (λ s. s.hi) ys 1 b1 (omega arith)))
    (less_by _ _ _ _ _ h2.x_lower (read_end (λ b. b.x) (λ s. s.lo) xs 2 a2 (omega arith)) (read_end (λ b. b.x) (λ s. s.hi) ys 2 b2 (omega arith)))
    (less_by _ _ _ _ _ h3.x_lower (read_end (λ b. b.x) (λ s. s.lo) xs 3 a3 (omega arith)) (read_end (λ b. b.x) (λ s. s.hi) ys 3 b3 (omega arith)))
    (less_by _ _ _ _ _ h0.x_upper (read_end (λ b. b.x) (λ s. s.hi) xs 0 a0 (omega arith)) (read_end (λ b. b.x) (λ s. s.lo) ys 0 b0 (omega arith)))
    (less_by _ _ _ _ _ h1.x_upper (read_end (λ b. b.x) (λ s. s.hi) xs 1 a1 (omega arith)) (read_end (λ b. b.x) (λ s. s.lo) ys 1 b1 (omega arith)))
    (less_by _ _ _ _ _ h2.x_upper (read_end (λ b. b.x) (λ s. s.hi) xs 2 a2 (omega arith)) (read_end (λ b. b.x) (λ s. s.lo) ys 2 b2 (omega arith)))
    (less_by _ _ _ _ _ h3.x_upper (read_end (λ b. b.x) (λ s. s.hi) xs 3 a3 (omega arith)) (read_end (λ b. b.x) (λ s. s.lo) ys 3 b3 (omega arith))))
    (ends_same _ _
    (less_by _ _ _ _ _ h0.y_lower (read_end (λ b. b.y) (λ s. s.lo) xs 0 a0 (omega arith)) (read_end (λ b. b.y) (λ s. s.hi) ys 0 b0 (omega arith)))
    (less_by _ _ _ _ _ h1.y_lower (read_end (λ b. b.y) (λ s. s.lo) xs 1 a1 (omega arith)) (read_end (λ b. b.y) (λ s. s.hi) ys 1 b1 (omega arith)))
    (less_by _ _ _ _ _ h2.y_lower (read_end (λ b. b.y) (λ s. s.lo) xs 2 a2 (omega arith)) (read_end (λ b. b.y) (λ s. s.hi) ys 2 b2 (omega arith)))
    (less_by _ _ _ _ _ h3.y_lower (read_end (λ b. b.y) (λ s. s.lo) xs 3 a3 (omega arith)) (read_end (λ b. b.y) (λ s. s.hi) ys 3 b3 (omega arith)))
    (less_by _ _ _ _ _ h0.y_upper (read_end (λ b. b.y) (λ s. s.hi) xs 0 a0 (omega arith)) (read_end (λ b. b.y) (λ s. s.lo) ys 0 b0 (omega arith)))
    (less_by _ _ _ _ _ h1.y_upper (read_end (λ b. b.y) (λ s. s.hi) xs 1 a1 (omega arith)) (read_end (λ b. b.y) (λ s. s.lo) ys 1 b1 (omega arith)))
    (less_by _ _ _ _ _ h2.y_upper (read_end (λ b. b.y) (λ s. s.hi) xs 2 a2 (omega arith)) (read_end (λ b. b.y) (λ s. s.lo) ys 2 b2 (omega arith)))
    (less_by _ _ _ _ _ h3.y_upper (read_end (λ b. b.y) (λ s. s.hi) xs 3 a3 (omega arith)) (read_end (λ b. b.y) (λ s. s.lo) ys 3 b3 (omega arith))))
    (ends_same _ _
    (less_by _ _ _ _ _ h0.z_lower (read_end (λ b. b.z) (λ s. s.lo) xs 0 a0 (omega arith)) (read_end (λ b. b.z) (λ s. s.hi) ys 0 b0 (omega arith)))
    (less_by _ _ _ _ _ h1.z_lower (read_end (λ b. b.z) (λ s. s.lo) xs 1 a1 (omega arith)) (read_end (λ b. b.z) (λ s. s.hi) ys 1 b1 (omega arith)))
    (less_by _ _ _ _ _ h2.z_lower (read_end (λ b. b.z) (λ s. s.lo) xs 2 a2 (omega arith)) (read_end (λ b. b.z) (λ s. s.hi) ys 2 b2 (omega arith)))
    (less_by _ _ _ _ _ h3.z_lower (read_end (λ b. b.z) (λ s. s.lo) xs 3 a3 (omega arith)) (read_end (λ b. b.z) (λ s. s.hi) ys 3 b3 (omega arith)))
    (less_by _ _ _ _ _ h0.z_upper (read_end (λ b. b.z) (λ s. s.hi) xs 0 a0 (omega arith)) (read_end (λ b. b.z) (λ s. s.lo) ys 0 b0 (omega arith)))
    (less_by _ _ _ _ _ h1.z_upper (read_end (λ b. b.z) (λ s. s.hi) xs 1 a1 (omega arith)) (read_end (λ b. b.z) (λ s. s.lo) ys 1 b1 (omega arith)))
    (less_by _ _ _ _ _ h2.z_upper (read_end (λ b. b.z) (λ s. s.hi) xs 2 a2 (omega arith)) (read_end (λ b. b.z) (λ s. s.lo) ys 2 b2 (omega arith)))
    (less_by _ _ _ _ _ h3.z_upper (read_end (λ b. b.z) (λ s. s.hi) xs 3 a3 (omega arith)) (read_end (λ b. b.z) (λ s. s.lo) ys 3 b3 (omega arith))))
