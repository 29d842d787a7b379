-- The two interpolants of ticks at which each of two objects is in one piece.
use Rattle.std.proofs.Common.{◌≡◌, ℕ, ◌≤◌, true, Option, Some, None, refl, sym, ap, ◌∙◌, arith}
use Rattle.std.specs.Prelude.{is_some}
use Rattle.cj_hermite.specs.Interpolant.{Curve}
use Rattle.cj_case.specs.PlainProblems.{PlainProblem}
use Rattle.cj_hermite.specs.ObjectsAtTicks.{number_at, curve_at, HaveCurves}
use Rattle.cj_hermite.specs.CommonRuns.{both}
use Rattle.cj_case.specs.Cells.{PlainCell}
use Rattle.cj_hermite.specs.Roots.{KeepPieces}
use Rattle.cj_hermite.proofs.RootLemmas.{IsRootOf}
use Rattle.cj_hermite.proofs.ObjectLemmas.{same_curve, curve_exists}

-- two labels that are the same come of the same numbers
pub same_numbers : (i j i' j' : Option ℕ) → is_some (both i' j') ≡ true → both i j ≡ both i' j' → (i ≡ i') × (j ≡ j')
same_numbers i j None j' some e = absurd cc
same_numbers i j (Some k') None some e = absurd cc
same_numbers None j (Some k') (Some l') some e = absurd cc
same_numbers (Some k) None (Some k') (Some l') some e = absurd cc
same_numbers (Some k) (Some l) (Some k') (Some l') some e =
    let pairs : ◌≡◌ {A = ℕ × ℕ} (k, l) (k', l') = cc in
    (ap (λ (p : ℕ × ℕ). Some p.0) pairs, ap (λ (p : ℕ × ℕ). Some p.1) pairs)

pub numbers_of : (i j : Option ℕ) → is_some (both i j) ≡ true → (is_some i ≡ true) × (is_some j ≡ true)
numbers_of None j some = absurd cc
numbers_of (Some k) None some = absurd cc
numbers_of (Some k) (Some l) some = (refl, refl)

pub some_both : (i j : Option ℕ) → is_some i ≡ true → is_some j ≡ true → is_some (both i j) ≡ true
some_both None j p q = absurd cc
some_both (Some i) None p q = absurd cc
some_both (Some i) (Some j) p q = refl

data Something {A : Type 0} (o : Option A) : Type 0 where
  something : (x : A) → o ≡ Some x → Something o

something_is : {A : Type 0} (o : Option A) → is_some o ≡ true → Something o
something_is None some = absurd cc
something_is (Some x) some = something x refl

pub data Curves (case : PlainProblem) (a b first last : ℕ) : Type 0 where
  curves : (c d : Curve) → HaveCurves case a b first last c d → Curves case a b first last

pub curves_of : (case : PlainProblem) (a b first last : ℕ) → KeepPieces case a b first last → Curves case a b first last
curves_of case a b first last one = go (something_is _ (curve_exists case a first numbers.0)) (something_is _ (curve_exists case b first numbers.1))
  where
    numbers : (is_some (number_at case a first) ≡ true) × (is_some (number_at case b first) ≡ true)
    numbers = numbers_of (number_at case a first) (number_at case b first) one.nodes

    same : (m : ℕ) → first ≤ m → m ≤ last → (number_at case a m ≡ number_at case a first) × (number_at case b m ≡ number_at case b first)
    same m low high = same_numbers (number_at case a m) (number_at case b m) (number_at case a first) (number_at case b first) one.nodes (one.same m low high)

    go : Something (curve_at case a first) → Something (curve_at case b first) → Curves case a b first last
    go (something c h) (something d k) = curves c d (record {
      first_curve = λ m low high. same_curve case a m first (same m low high).0 ∙ h;
      second_curve = λ m low high. same_curve case b m first (same m low high).1 ∙ k;
    })

-- the interpolants that both have at the first tick they have at all
pub have_curves : (case : PlainProblem) (a b first last : ℕ) (c d : Curve) → first ≤ last → KeepPieces case a b first last → curve_at case a first ≡ Some c → curve_at case b first ≡ Some d → HaveCurves case a b first last c d
have_curves case a b first last c d le keep is is' = go (curves_of case a b first last keep)
  where
    go : Curves case a b first last → HaveCurves case a b first last c d
    go (curves x y have) =
        let p : Some x ≡ Some c = sym (have.first_curve first (omega arith) le) ∙ is in
        let q : Some y ≡ Some d = sym (have.second_curve first (omega arith) le) ∙ is' in
        record { first_curve = λ m low high. have.first_curve m low high ∙ p; second_curve = λ m low high. have.second_curve m low high ∙ q }

-- a part of ticks that keep their pieces keeps them
pub keep_part : (case : PlainProblem) (a b first last from to : ℕ) → KeepPieces case a b first last
    → first ≤ from → from ≤ to → to ≤ last → KeepPieces case a b from to
keep_part case a b first last from to keep low some high =
    let here = keep.same from low (omega arith) in
    record {
      same = λ m after before. keep.same m (omega arith) (omega arith) ∙ sym here;
      nodes = ap is_some here ∙ keep.nodes;
    }

-- the ticks of a root keep their pieces
pub root_pieces : (case : PlainProblem) (r : PlainCell) → IsRootOf case r → KeepPieces case r.a r.b r.first r.last
root_pieces case r is = let root = is.root in record { same = root.same; nodes = root.labelled }
