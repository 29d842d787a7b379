-- The cells that a hand keeps are few, since each is at most half as long as the one before.
use Rattle.std.proofs.Common.{◌≡◌, ℕ, zero, suc, ◌+◌, ◌≤◌, List, [], ◌∷◌, ◌++◌, length, refl, ap, arith}
use Rattle.cj_case.specs.declared.cell.Cell.{Cell}
use Rattle.cj_bezier.specs.Halves.{AreHalves}
use Rattle.cj_pool.specs.Narrow.{Narrow}

pub narrow_length : (h : ℕ) (cells : List Cell) → Narrow h cells → length cells ≤ h + 1
narrow_length h [] n = omega arith
narrow_length zero (c ∷ cs) n = let none = ap length n.1 in omega (arith, none)
narrow_length (suc h) (c ∷ cs) n = let rest = narrow_length h cs n.1 in omega arith

snoc_some : (cs : List Cell) (c : Cell) → cs ++ c ∷ [] ≡ [] → ⊥
snoc_some [] c e = absurd (cc)
snoc_some (x ∷ xs) c e = absurd (cc)

pub narrow_front : (h : ℕ) (rest : List Cell) (c : Cell) → Narrow h (rest ++ c ∷ []) → Narrow h rest
narrow_front h [] c n = tt
narrow_front zero (x ∷ xs) c n = absurd (snoc_some xs c n.1)
narrow_front (suc h) (x ∷ xs) c n = (n.0, narrow_front h xs c n.1)

-- the kept half stands in place of its cell
pub narrow_half : (h : ℕ) (rest : List Cell) (c left right : Cell) → Narrow h (rest ++ c ∷ []) → AreHalves c left right → Narrow h (rest ++ left ∷ [])
narrow_half zero [] c left right n halves = (omega (arith, halves.left_last, ap (λ t. t.micros) halves.left_first, n.0), refl)
narrow_half (suc h) [] c left right n halves = (omega (arith, halves.left_last, ap (λ t. t.micros) halves.left_first, n.0), tt)
narrow_half zero (x ∷ xs) c left right n halves = absurd (snoc_some xs c n.1)
narrow_half (suc h) (x ∷ xs) c left right n halves = (n.0, narrow_half h xs c left right n.1 halves)

-- both halves stand in its place, the first above the second
pub narrow_both : (h : ℕ) (rest : List Cell) (c left right : Cell) → Narrow h (rest ++ c ∷ []) → AreHalves c left right → Narrow h ((rest ++ right ∷ []) ++ left ∷ [])
narrow_both zero [] c left right n halves = absurd (omega (arith, halves.left_last, halves.right_first, ap (λ t. t.micros) halves.left_first, ap (λ t. t.micros) halves.right_last, n.0, right.some, left.some))
narrow_both (suc zero) [] c left right n halves =
    let last = ap (λ t. t.micros) halves.right_last in
    let first = ap (λ t. t.micros) halves.left_first in
    (omega (arith, halves.right_first, last, n.0), (omega (arith, halves.left_last, first, n.0), refl))
narrow_both (suc (suc h)) [] c left right n halves =
    let last = ap (λ t. t.micros) halves.right_last in
    let first = ap (λ t. t.micros) halves.left_first in
    (omega (arith, halves.right_first, last, n.0), (omega (arith, halves.left_last, first, n.0), tt))
narrow_both zero (x ∷ xs) c left right n halves = absurd (snoc_some xs c n.1)
narrow_both (suc h) (x ∷ xs) c left right n halves = (n.0, narrow_both h xs c left right n.1 halves)
