-- How the ticks of two interpolants that are far throughout are halved.
use Rattle.std.proofs.Common.{◌≡◌, ℕ, ◌+◌, ◌^◌, ◌≤◌, Bool, true, false, ◌&&◌, List, Some, None, refl, ap, sym, ◌∙◌}
use Rattle.std.specs.List.{list_all}
use Rattle.std.proofs.lemmas.List.Folds.{list_all-append}
use Rattle.cj_hermite.specs.Interpolant.{Curve, IsOver}
use Rattle.cj_case.specs.declared.kind.Kind.{Kind}
use Rattle.cj_case.specs.declared.kind.Kind.TheVariants.{Far}
use Rattle.cj_case.specs.declared.kind.Kind.TheVariants as kinds
use Rattle.cj_case.specs.Leaves.{PlainLeaf, same_kind}
use Rattle.cj_case.specs.Cells.{PlainCell}
use Rattle.cj_case.specs.PlainProblems.{PlainProblem, threshold_of}
use Rattle.cj_hermite.specs.ObjectsAtTicks.{curve_at}
use Rattle.cj_bezier.specs.declared.verdicts.Verdict.TheVariants as verdicts
use Rattle.cj_bezier.specs.Verdicts.{kind_of, cell_verdict}
use Rattle.cj_bezier.specs.Halving.{middle, leaves_between}
use Rattle.cj_bezier.specs.RootLeaves.{is_far_throughout, kind_between, leaves_of_curves, leaves_of_root}
use Rattle.cj_bezier.proofs.HalvingLemmas.{leaves-closed, leaves-halved}
use Rattle.cj_bezier.proofs.JudgeLemmas.{settled_over}
use Rattle.cj_brief_checker.specs.FarThroughout.{are_far}

-- ---- what the verdict on all ticks says

pub closed_far : (thr : ℕ) (c d : Curve) (a b first last : ℕ) (kind : Kind) → kind_between c d thr first last ≡ Some kind → are_far thr c d a b first last ≡ same_kind Far kind
unfolding are_far
closed_far thr c d a b first last kind is =
    ap (λ ss. list_all (λ (s : PlainLeaf). same_kind Far s.kind) ss) (leaves-closed (kind_between c d thr) a b first last kind is) ∙ alone (same_kind Far kind)
  where
    alone : (b : Bool) → (b && true) ≡ b
    alone true = refl
    alone false = refl

pub halved_far : (thr : ℕ) (c d : Curve) (a b first last : ℕ) → 10 ^ 9 ≤ thr → first ≤ last → IsOver c first last → IsOver d first last → kind_between c d thr first last ≡ None →
    are_far thr c d a b first last ≡ (are_far thr c d a b first (middle first last) && are_far thr c d a b (middle first last + 1) last)
unfolding are_far
halved_far thr c d a b first last big le oc od none =
    ap (λ ss. list_all (λ (s : PlainLeaf). same_kind Far s.kind) ss) (leaves-halved (kind_between c d thr) a b first last le (settled_over c d thr first last big oc od) none)
    ∙ list_all-append (λ (s : PlainLeaf). same_kind Far s.kind) (leaves_between (kind_between c d thr) a b first (middle first last)) (leaves_between (kind_between c d thr) a b (middle first last + 1) last)

-- ---- by the verdict on all ticks

pub verdict_far : (thr : ℕ) (c d : Curve) (a b first last : ℕ) → verdicts.Far ≡ cell_verdict c d thr first last → true ≡ are_far thr c d a b first last
unfolding kind_between
verdict_far thr c d a b first last h = sym (closed_far thr c d a b first last kinds.Far (ap kind_of (sym h)))

pub verdict_near : (thr : ℕ) (c d : Curve) (a b first last : ℕ) → verdicts.Near ≡ cell_verdict c d thr first last → false ≡ are_far thr c d a b first last
unfolding kind_between
verdict_near thr c d a b first last h = sym (closed_far thr c d a b first last kinds.Near (ap kind_of (sym h)))

pub verdict_undecided : (thr : ℕ) (c d : Curve) (a b first last : ℕ) → verdicts.Undecided ≡ cell_verdict c d thr first last → false ≡ are_far thr c d a b first last
unfolding kind_between
verdict_undecided thr c d a b first last h = sym (closed_far thr c d a b first last kinds.Undecided (ap kind_of (sym h)))

pub verdict_split : (thr : ℕ) (c d : Curve) (a b first last : ℕ) → 10 ^ 9 ≤ thr → first ≤ last → IsOver c first last → IsOver d first last → verdicts.Split ≡ cell_verdict c d thr first last →
    are_far thr c d a b first last ≡ (are_far thr c d a b first (middle first last) && are_far thr c d a b (middle first last + 1) last)
unfolding kind_between
verdict_split thr c d a b first last big le oc od h = halved_far thr c d a b first last big le oc od (ap kind_of (sym h))

-- ---- the leaves of a root

pub far_root : (case : PlainProblem) (r : PlainCell) (thr : ℕ) (c d : Curve) → curve_at case r.a r.first ≡ Some c → curve_at case r.b r.first ≡ Some d → thr ≡ threshold_of case r.a r.b
    → are_far thr c d r.a r.b r.first r.last ≡ is_far_throughout case r
unfolding are_far is_far_throughout leaves_of_root
far_root case r thr c d one other same =
    ap (λ (ss : List PlainLeaf). list_all (λ (s : PlainLeaf). same_kind Far s.kind) ss)
    (sym (λ i. leaves_of_curves r (sym same i) (one i) (other i)))

-- what is told of both halves is told of all, and what is told of the first is where it is not far
pub both_halves : (all left right x y : Bool) → all ≡ (left && right) → x ≡ left → x ≡ true → y ≡ right → y ≡ all
both_halves all left right x y whole is one other = other ∙ ap (λ b. b && right) (sym one ∙ is) ∙ sym whole

pub first_half : (all left right x : Bool) → all ≡ (left && right) → x ≡ left → x ≡ false → x ≡ all
first_half all left right x whole is other = other ∙ ap (λ b. b && right) (sym other ∙ is) ∙ sym whole
