-- Weights that a cell has as its two halves together.
use Rattle.std.proofs.Common.{◌≡◌, ℕ, ◌+◌, ◌<◌, ◌≤◌, Bool, true, false, cond, leb, eqb, refl, ap, arith}
use Rattle.cj_case.specs.PlainProblems.{PlainProblem}
use Rattle.cj_pool.specs.Tree.{IsShared}
use Rattle.cj_pool.specs.Weights.{has}

in_half : (lo mid hi m : ℕ) → lo ≤ mid → mid < hi → cond (leb lo m) (cond (leb m hi) 1 0) 0 ≡ cond (leb lo m) (cond (leb m mid) 1 0) 0 + cond (leb (mid + 1) m) (cond (leb m hi) 1 0) 0
in_half lo mid hi m low high = grind (arith)

of_pair : (p q : Bool) (x y z : ℕ) → x ≡ y + z → cond p (cond q x 0) 0 ≡ cond p (cond q y 0) 0 + cond p (cond q z 0) 0
of_pair true true x y z e = e
of_pair true false x y z e = refl
of_pair false q x y z e = refl

-- a tick of a cell is in one of its halves
pub has_shared : (case : PlainProblem) (a b m : ℕ) → IsShared case (has a b m)
has_shared case a b m c left right keep halved =
    let halves = halved.halves in
    let more : c.first.micros < c.last.micros = omega (arith, left.some, right.some, halves.left_last, halves.right_first, ap (λ t. t.micros) halves.left_first, ap (λ t. t.micros) halves.right_last) in
    rw (halves.left_pair, halves.right_pair, halves.left_first, halves.left_last, halves.right_first, halves.right_last)
    (of_pair (eqb c.pair.a a) (eqb c.pair.b b) _ _ _ (in_half c.first.micros _ c.last.micros m (omega arith) (omega arith)))
