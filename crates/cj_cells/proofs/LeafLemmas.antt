-- The one-thread list: its leaves are sound and in order, and hold each common tick of a candidate.
use Rattle.std.proofs.Common.{◌≡◌, ℕ, ◌+◌, ◌-◌, Bool, true, List, [], ◌∷◌, length, Some, refl, sym, subst, ◌∙◌, arith, length-append}
use Rattle.std.specs.Prelude.{All, Any, AllPairs}
use Rattle.std.specs.List.{flat_map, sum_by}
use Rattle.std.proofs.lemmas.List.Sums.{sum_by-cons}
use Rattle.cj_case.specs.PlainProblems.{PlainProblem, threshold_of}
use Rattle.cj_hermite.specs.Interpolant.{Curve}
use Rattle.cj_hermite.specs.ObjectsAtTicks.{number_at, curve_at, IsCommonOf}
use Rattle.cj_bezier.specs.Halving.{leaves_between, splits_between}
use Rattle.cj_case.specs.Slots.{slot_of}
use Rattle.cj_bezier.specs.Candidates.{is_candidate}
use Rattle.cj_case.specs.Cells.{PlainCell, IsRootBefore}
use Rattle.cj_hermite.specs.Roots.{KeepPieces, roots_of}
use Rattle.cj_case.specs.Order.{IsBefore}
use Rattle.cj_bezier.specs.RootLeaves.{kind_between, leaves_of_curves, leaves_of_root, leaves_of_roots, IsTrueThroughout, IsPartOf, Describe}
use Rattle.cj_cells.specs.Lists.{list_of, list_candidates, splits_of_curves, splits_of_root, splits_of, IsSound}
use Rattle.cj_case.specs.Leaves.{IsTickOf}
use Rattle.cj_interval.proofs.ListLemmas.{Each, Exists, Ordered, Each-weaker, Each-both, Each-flat_map, Each-exists, Exists-weaker, Exists-flat_map, Ordered-flat_map, All-from_each, Any-from_exists, AllPairs-from_ordered, each_from_All, exists_from_Any, ordered_from_AllPairs}
use Rattle.cj_hermite.proofs.RootLemmas.{IsRootOf, Each-roots, Ordered-roots, Exists-roots}
use Rattle.cj_hermite.proofs.RootLemmas.{Holds as HasRootTick}
use Rattle.cj_hermite.proofs.ObjectLemmas.{numbers_exist, second_exists}
use Rattle.cj_hermite.proofs.CurveLemmas.{Curves, curves, curves_of, keep_part, root_pieces, some_both}
use Rattle.cj_bezier.proofs.LeafLemmas.{leaves_split}

-- ---- the list

-- a root of the case that its leaves describe
pub record IsDescribed (case : PlainProblem) (r : PlainCell) : Type 0 where
  pub root : IsRootOf case r
  pub leaves : Describe case r (leaves_of_root case r)

both_facts : (case : PlainProblem) (rs : List PlainCell) → Each (IsRootOf case) rs → Each (λ r. Describe case r (leaves_of_root case r)) rs → Each (IsDescribed case) rs
both_facts case [] are d = tt
both_facts case (r ∷ rs) are d = (record { root = are.0; leaves = d.0 }, both_facts case rs are.1 d.1)

root_sound : (case : PlainProblem) (r : PlainCell) → IsDescribed case r → Each (IsSound case) (leaves_of_root case r)
root_sound case r is =
    let of_case = is.root in
    let root = of_case.root in
    let leaves = is.leaves in
    let ss = leaves_of_root case r in
    Each-weaker (λ s. IsPartOf r s × IsTrueThroughout case s) (IsSound case)
    (λ s h. let part = h.0 in record {
      ordered = omega (arith, of_case.ordered, part.first_object, part.second_object);
      from = omega (arith, root.from, part.from);
      some = part.some;
      to = omega (arith, root.to, part.to);
      holds = h.1;
    }) ss (Each-both (IsPartOf r) (IsTrueThroughout case) ss (each_from_All (IsPartOf r) ss leaves.parts) (each_from_All (IsTrueThroughout case) ss leaves.holds))

root_ordered : (case : PlainProblem) (r : PlainCell) → IsDescribed case r → Ordered IsBefore (leaves_of_root case r)
root_ordered case r is = let leaves = is.leaves in ordered_from_AllPairs IsBefore (leaves_of_root case r) leaves.ordered

root_parts : (case : PlainProblem) (r : PlainCell) → IsDescribed case r → Each (IsPartOf r) (leaves_of_root case r)
root_parts case r is = let leaves = is.leaves in each_from_All (IsPartOf r) (leaves_of_root case r) leaves.parts

root_has : (case : PlainProblem) (a b m : ℕ) (r : PlainCell) → IsDescribed case r → HasRootTick a b m r → Exists (IsTickOf a b m) (leaves_of_root case r)
root_has case a b m r is tick =
    let leaves = is.leaves in
    Exists-weaker (IsTickOf r.a r.b m) (IsTickOf a b m)
    (λ s h. record { first_object = h.first_object ∙ tick.first_object; second_object = h.second_object ∙ tick.second_object; from = h.from; to = h.to })
    (leaves_of_root case r) (exists_from_Any (IsTickOf r.a r.b m) (leaves_of_root case r) (leaves.complete m tick.from tick.to))

root_across : (case : PlainProblem) (r q : PlainCell) → IsDescribed case r → IsDescribed case q → IsRootBefore r q → Each (λ s. Each (IsBefore s) (leaves_of_root case q)) (leaves_of_root case r)
root_across case r q is is' before =
    Each-weaker (IsPartOf r) (λ s. Each (IsBefore s) (leaves_of_root case q))
    (λ s in_r. Each-weaker (IsPartOf q) (IsBefore s)
    (λ t in_q. record {
      first_object = omega (arith, in_r.first_object, in_q.first_object, before.first_object);
      second_object = λ e. omega (arith, in_r.second_object, in_q.second_object, before.second_object (omega (arith, in_r.first_object, in_q.first_object)));
      ticks = λ e f. omega (arith, in_r.to, in_q.from, before.ticks (omega (arith, in_r.first_object, in_q.first_object)) (omega (arith, in_r.second_object, in_q.second_object)));
    }) (leaves_of_root case q) (root_parts case q is'))
    (leaves_of_root case r) (root_parts case r is)

root_keeps : (case : PlainProblem) (r : PlainCell) → IsDescribed case r → Each (λ s. KeepPieces case s.a s.b s.first s.last) (leaves_of_root case r)
root_keeps case r is =
    Each-weaker (IsPartOf r) (λ s. KeepPieces case s.a s.b s.first s.last)
    (λ s part.
    subst (λ (a : ℕ). KeepPieces case a s.b s.first s.last) (sym part.first_object)
    (subst (λ (b : ℕ). KeepPieces case r.a b s.first s.last) (sym part.second_object)
    (keep_part case r.a r.b r.first r.last s.first s.last (root_pieces case r is.root) part.from part.some part.to)))
    (leaves_of_root case r) (root_parts case r is)

module _ (candidate : ℕ → ℕ → ℕ → Bool) (case : PlainProblem) (leaves : All (λ r. Describe case r (leaves_of_root case r)) (roots_of candidate case)) where
  each_described : Each (IsDescribed case) (roots_of candidate case)
  each_described = both_facts case (roots_of candidate case) (Each-roots candidate case) (each_from_All (λ r. Describe case r (leaves_of_root case r)) (roots_of candidate case) leaves)

  pub list_sound : All (IsSound case) (list_of candidate case)
  unfolding list_of leaves_of_roots
  list_sound =
      All-from_each (IsSound case) (flat_map (leaves_of_root case) (roots_of candidate case))
      (Each-flat_map (IsSound case) (leaves_of_root case) (roots_of candidate case)
      (Each-weaker (IsDescribed case) (λ r. Each (IsSound case) (leaves_of_root case r)) (root_sound case) (roots_of candidate case) each_described))

  pub list_keeps : All (λ s. KeepPieces case s.a s.b s.first s.last) (list_of candidate case)
  unfolding list_of leaves_of_roots
  list_keeps =
      All-from_each (λ s. KeepPieces case s.a s.b s.first s.last) (flat_map (leaves_of_root case) (roots_of candidate case))
      (Each-flat_map (λ s. KeepPieces case s.a s.b s.first s.last) (leaves_of_root case) (roots_of candidate case)
      (Each-weaker (IsDescribed case) (λ r. Each (λ s. KeepPieces case s.a s.b s.first s.last) (leaves_of_root case r)) (root_keeps case) (roots_of candidate case) each_described))

  pub list_ordered : AllPairs IsBefore (list_of candidate case)
  unfolding list_of leaves_of_roots
  list_ordered =
      AllPairs-from_ordered IsBefore (flat_map (leaves_of_root case) (roots_of candidate case))
      (Ordered-flat_map IsBefore IsRootBefore (IsDescribed case) (leaves_of_root case) (root_ordered case) (root_across case)
      (roots_of candidate case) each_described (Ordered-roots candidate case))

  pub list_has : (a b m : ℕ) → IsCommonOf case a b m → candidate a b (slot_of case.first m) ≡ true → Any (IsTickOf a b m) (list_of candidate case)
  unfolding list_of leaves_of_roots
  list_has a b m common is =
      let numbers = numbers_exist case a b m common.nodes in
      Any-from_exists (IsTickOf a b m) (flat_map (leaves_of_root case) (roots_of candidate case))
      (Exists-flat_map (IsTickOf a b m) (leaves_of_root case) (roots_of candidate case)
      (Exists-weaker (λ r. IsDescribed case r × HasRootTick a b m r) (λ r. Exists (IsTickOf a b m) (leaves_of_root case r)) (λ r h. root_has case a b m r h.0 h.1) (roots_of candidate case)
      (Each-exists (IsDescribed case) (HasRootTick a b m) (roots_of candidate case) each_described
      (Exists-roots candidate case a b m common.ordered (second_exists case a b m common.nodes) common.after common.before is
      (some_both (number_at case a m) (number_at case b m) numbers.0 numbers.1)))))

-- what the list of the candidates says of its case
pub record DescribesCase (case : PlainProblem) : Type 0 where
  pub sound : All (IsSound case) (list_candidates case)
  pub complete : (a b m : ℕ) → IsCommonOf case a b m → is_candidate case a b (slot_of case.first m) ≡ true → Any (IsTickOf a b m) (list_candidates case)
  pub ordered : AllPairs IsBefore (list_candidates case)
  pub pieces : All (λ s. KeepPieces case s.a s.b s.first s.last) (list_candidates case)

-- it does where the leaves of each root describe that root
pub list_described : (case : PlainProblem) (roots : List PlainCell) → roots ≡ roots_of (is_candidate case) case →
    All (λ r. Describe case r (leaves_of_root case r)) roots → DescribesCase case
list_described case roots same leaves =
    let candidate = is_candidate case in
    let described = subst (λ (rs : List PlainCell). All (λ r. Describe case r (leaves_of_root case r)) rs) same leaves in
    record {
      sound = list_sound candidate case described;
      complete = list_has candidate case described;
      ordered = list_ordered candidate case described;
      pieces = list_keeps candidate case described;
    }

-- ---- how often roots are halved

pub splits_of_two : (case : PlainProblem) (r : PlainCell) (c d : Curve) (thr : ℕ) → curve_at case r.a r.first ≡ Some c → curve_at case r.b r.first ≡ Some d → thr ≡ threshold_of case r.a r.b →
    splits_of_root case r ≡ splits_between (kind_between c d thr) r.first r.last
unfolding splits_of_root
splits_of_two case r c d thr first second e = rw (first, second, e)

root_split : (case : PlainProblem) (r : PlainCell) → IsRootOf case r → length (leaves_of_root case r) ≡ 1 + splits_of_root case r
unfolding leaves_of_root leaves_between splits_of_root
root_split case r is = go (curves_of case r.a r.b r.first r.last (root_pieces case r is))
  where
    go : Curves case r.a r.b r.first r.last → length (leaves_of_curves r (threshold_of case r.a r.b) (curve_at case r.a r.first) (curve_at case r.b r.first)) ≡ 1 + splits_of_curves r (threshold_of case r.a r.b) (curve_at case r.a r.first) (curve_at case r.b r.first)
    go (curves c d have) =
        let root = is.root in
        let first = have.first_curve r.first (omega arith) root.some in
        let second = have.second_curve r.first (omega arith) root.some in
        rw (first, second) (leaves_split (kind_between c d (threshold_of case r.a r.b)) r.a r.b (r.last - r.first) r.first r.last)

pub roots_split : (case : PlainProblem) (rs : List PlainCell) → Each (IsRootOf case) rs → length (leaves_of_roots case rs) ≡ length rs + sum_by (splits_of_root case) rs
unfolding leaves_of_roots
roots_split case [] are = refl
roots_split case (r ∷ rs) are =
    let one = root_split case r are.0 in
    let rest = roots_split case rs are.1 in
    let sum = sum_by-cons (splits_of_root case) r rs in
    omega (arith, length-append (leaves_of_root case r) (flat_map (leaves_of_root case) rs))

-- a case has as many leaves as roots and halvings
pub list_split : (case : PlainProblem) → length (list_candidates case) ≡ length (roots_of (is_candidate case) case) + splits_of case
unfolding list_of splits_of
list_split case = roots_split case (roots_of (is_candidate case) case) (Each-roots (is_candidate case) case)
