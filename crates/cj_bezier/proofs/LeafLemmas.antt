-- The leaves of a root: they lie in it in order, hold each of its ticks, and each is true at each of its own.
use Rattle.std.proofs.Common.{◌≡◌, ℕ, zero, suc, ◌+◌, ◌-◌, ◌^◌, ◌<◌, ◌≤◌, List, [], ◌∷◌, ◌++◌, length, Option, Some, None, refl, sym, ap, subst, ◌∙◌, arith, length-append}
use Rattle.std.specs.List.{flat_map}
use Rattle.cj_hermite.specs.Interpolant.{Curve, IsOver}
use Rattle.cj_case.specs.PlainProblems.{PlainProblem, threshold_of}
use Rattle.cj_hermite.specs.ObjectsAtTicks.{curve_at, HaveCurves}
use Rattle.cj_case.specs.Cells.{PlainCell}
use Rattle.cj_hermite.proofs.RootLemmas.{IsRootOf}
use Rattle.cj_hermite.proofs.ObjectLemmas.{of_objects}
use Rattle.cj_hermite.proofs.CurveLemmas.{Curves, curves, curves_of, root_pieces}
use Rattle.cj_hermite.proofs.TrackLemmas.{over_part}
use Rattle.cj_case.specs.declared.kind.Kind.{Kind}
use Rattle.cj_case.specs.Leaves.{PlainLeaf, IsTickOf}
use Rattle.cj_case.specs.Order.{IsBefore}
use Rattle.cj_bezier.specs.Verdicts.{Holds}
use Rattle.cj_bezier.specs.Halving.{middle, closed_or, halved_or, leaves_within, leaves_between, splits_within}
use Rattle.cj_bezier.specs.Tiles.{IsLeaf, Tile}
use Rattle.cj_bezier.specs.RootLeaves.{kind_between, kind_of_cell, leaves_of_curves, leaves_of_root, leaves_of_roots, IsTrueThroughout, IsPartOf, Describe}
use Rattle.cj_interval.proofs.ListLemmas.{Each, Each-weaker, Each-exists, Exists-weaker, All-from_each, Any-from_exists, AllPairs-from_ordered}
use Rattle.cj_bezier.proofs.HalvingLemmas.{HasKind, HasTick, tiles, Each-tile, Ordered-tile, Exists-tile}
use Rattle.cj_bezier.proofs.JudgeLemmas.{kind_holds, settled_over}

-- ---- by its two interpolants

pub leaves_are : (case : PlainProblem) (r : PlainCell) (c d : Curve) → r.first ≤ r.last → HaveCurves case r.a r.b r.first r.last c d →
    leaves_of_root case r ≡ leaves_between (kind_between c d (threshold_of case r.a r.b)) r.a r.b r.first r.last
unfolding leaves_of_root
leaves_are case r c d le have =
    let first = have.first_curve r.first (omega arith) le in
    let second = have.second_curve r.first (omega arith) le in
    rw (first, second)

true_leaf : (case : PlainProblem) (r : PlainCell) (c d : Curve) → 10 ^ 9 ≤ case.threshold → IsOver c r.first r.last → IsOver d r.first r.last → HaveCurves case r.a r.b r.first r.last c d → (s : PlainLeaf) →
    IsLeaf (HasKind (kind_between c d (threshold_of case r.a r.b))) r.a r.b r.first r.last s → IsTrueThroughout case s
true_leaf case r c d big oc od have s leaf m low high =
    let a : s.a ≡ r.a = leaf.first_object in
    let b : s.b ≡ r.b = leaf.second_object in
    let same : threshold_of case r.a r.b ≡ threshold_of case s.a s.b = λ i. threshold_of case (sym a i) (sym b i) in
    of_objects case s.a s.b m c d (λ x y. Holds s.kind x y (threshold_of case s.a s.b) m)
    (ap (λ (x : ℕ). curve_at case x m) a ∙ have.first_curve m (omega (arith, leaf.from)) (omega (arith, leaf.to)))
    (ap (λ (x : ℕ). curve_at case x m) b ∙ have.second_curve m (omega (arith, leaf.from)) (omega (arith, leaf.to)))
    (subst (λ (thr : ℕ). Holds s.kind c d thr m) same
    (kind_holds c d (threshold_of case r.a r.b) s.first s.last m s.kind (omega arith)
    (over_part c r.first r.last s.first s.last oc leaf.from leaf.to) (over_part d r.first r.last s.first s.last od leaf.from leaf.to) leaf.judged low high))

-- the leaves of a root describe it
pub described : (case : PlainProblem) (r : PlainCell) (c d : Curve) → 10 ^ 9 ≤ case.threshold → r.first ≤ r.last → IsOver c r.first r.last → IsOver d r.first r.last → HaveCurves case r.a r.b r.first r.last c d →
    Describe case r (leaves_of_root case r)
unfolding leaves_between
described case r c d big le oc od have =
    let ss = leaves_of_root case r in
    let judge = kind_between c d (threshold_of case r.a r.b) in
    let tile : Tile (HasKind judge) r.a r.b r.first r.last (leaves_of_root case r) =
    let same = leaves_are case r c d le have in
    rw same (tiles judge r.a r.b (r.last - r.first) r.first r.last le (omega arith) (settled_over c d (threshold_of case r.a r.b) r.first r.last (omega arith) oc od)) in
    let leaves : Each (IsLeaf (HasKind judge) r.a r.b r.first r.last) ss = Each-tile (HasKind judge) r.a r.b r.first r.first r.last ss (omega arith) tile in
    let parts : Each (IsPartOf r) ss =
    Each-weaker (IsLeaf (HasKind judge) r.a r.b r.first r.last) (IsPartOf r)
    (λ s leaf. record { first_object = leaf.first_object; second_object = leaf.second_object; from = leaf.from; some = leaf.some; to = leaf.to }) ss leaves in
    record {
      parts = All-from_each (IsPartOf r) ss parts;
      holds = All-from_each (IsTrueThroughout case) ss
          (Each-weaker (IsLeaf (HasKind judge) r.a r.b r.first r.last) (IsTrueThroughout case) (true_leaf case r c d big oc od have) ss leaves);
      ordered = AllPairs-from_ordered IsBefore ss (Ordered-tile (HasKind judge) r.a r.b r.first r.last ss tile);
      complete = λ m low high. Any-from_exists (IsTickOf r.a r.b m) ss
          (Exists-weaker (λ s. IsPartOf r s × HasTick m s) (IsTickOf r.a r.b m)
          (λ s h. let part = h.0 in let has = h.1 in record { first_object = part.first_object; second_object = part.second_object; from = has.from; to = has.to })
          ss (Each-exists (IsPartOf r) (HasTick m) ss parts (Exists-tile (HasKind judge) r.a r.b r.first r.last m ss tile low high)));
    }

-- what a cell with these two interpolants is closed as, and what it comes to
pub kind_of : (case : PlainProblem) (r : PlainCell) (c d : Curve) (thr : ℕ) → curve_at case r.a r.first ≡ Some c → curve_at case r.b r.first ≡ Some d → thr ≡ threshold_of case r.a r.b →
    kind_between c d thr r.first r.last ≡ kind_of_cell case r
unfolding kind_of_cell
kind_of case r c d thr first second e = rw (first, second, e)

pub leaves_of : (case : PlainProblem) (r : PlainCell) (c d : Curve) (thr : ℕ) → curve_at case r.a r.first ≡ Some c → curve_at case r.b r.first ≡ Some d → thr ≡ threshold_of case r.a r.b →
    leaves_of_root case r ≡ leaves_between (kind_between c d thr) r.a r.b r.first r.last
unfolding leaves_of_root
leaves_of case r c d thr first second e = rw (first, second, e)

-- ---- how many leaves there are

some_within : (judge : ℕ → ℕ → Option Kind) (a b n first last : ℕ) → 0 < length (leaves_within judge a b n first last)
unfolding leaves_within
some_within judge a b zero first last = omega arith
some_within judge a b (suc n) first last =
    go (judge first last) (leaves_within judge a b n first (middle first last)) (leaves_within judge a b n (middle first last + 1) last) (some_within judge a b n first (middle first last))
  where
    go : (o : Option Kind) (xs ys : List PlainLeaf) → 0 < length xs → 0 < length (closed_or a b first last o (xs ++ ys))
    go (Some kind) xs ys some = omega arith
    go None xs ys some = omega (arith, length-append xs ys)

-- a root has a leaf at least
some_leaf : (case : PlainProblem) (r : PlainCell) → IsRootOf case r → 0 < length (leaves_of_root case r)
unfolding leaves_of_root leaves_between
some_leaf case r is = go (curves_of case r.a r.b r.first r.last (root_pieces case r is))
  where
    go : Curves case r.a r.b r.first r.last → 0 < length (leaves_of_curves r (threshold_of case r.a r.b) (curve_at case r.a r.first) (curve_at case r.b r.first))
    go (curves c d have) =
        let root = is.root in
        let first = have.first_curve r.first (omega arith) root.some in
        let second = have.second_curve r.first (omega arith) root.some in
        rw (first, second) (some_within (kind_between c d (threshold_of case r.a r.b)) r.a r.b (r.last - r.first) r.first r.last)

pub fewer_roots : (case : PlainProblem) (rs : List PlainCell) → Each (IsRootOf case) rs → length rs ≤ length (leaves_of_roots case rs)
unfolding leaves_of_roots
fewer_roots case [] are = omega arith
fewer_roots case (r ∷ rs) are =
    let one = some_leaf case r are.0 in
    let rest = fewer_roots case rs are.1 in
    omega (arith, length-append (leaves_of_root case r) (flat_map (leaves_of_root case) rs))

pub leaves_split : (judge : ℕ → ℕ → Option Kind) (a b n first last : ℕ) → length (leaves_within judge a b n first last) ≡ 1 + splits_within judge n first last
unfolding leaves_within splits_within
leaves_split judge a b zero first last = refl
leaves_split judge a b (suc n) first last =
    go (judge first last) (leaves_within judge a b n first (middle first last)) (leaves_within judge a b n (middle first last + 1) last)
    (splits_within judge n first (middle first last)) (splits_within judge n (middle first last + 1) last)
    (leaves_split judge a b n first (middle first last)) (leaves_split judge a b n (middle first last + 1) last)
  where
    go : (o : Option Kind) (xs ys : List PlainLeaf) (k l : ℕ) → length xs ≡ 1 + k → length ys ≡ 1 + l → length (closed_or a b first last o (xs ++ ys)) ≡ 1 + halved_or o (k + l)
    go (Some kind) xs ys k l p q = refl
    go None xs ys k l p q = omega (arith, length-append xs ys)
