-- Verdicts as kinds: what a kind says at each tick, and that one tick has one.
use Rattle.std.proofs.Common.{◌≡◌, ℕ, ◌^◌, ◌<◌, ◌≤◌, Bool, true, false, cond, Some, refl, ap, sym, subst, arith}
use Rattle.std.specs.Prelude.{is_some}
use Rattle.cj_hermite.specs.Interpolant.{Curve, IsOver}
use Rattle.cj_case.specs.declared.kind.Kind.{Kind}
use Rattle.cj_case.specs.declared.kind.Kind.TheVariants as kinds
use Rattle.cj_bezier.specs.declared.verdicts.Verdict.{Verdict}
use Rattle.cj_bezier.specs.declared.verdicts.Verdict.TheVariants as verdicts
use Rattle.cj_bezier.specs.Gaps.{PlainGap, gap_terms, hull_gap}
use Rattle.cj_bezier.specs.Verdicts.{supported, verdict_of, kind_of, cell_verdict, Holds, HoldsThroughout}
use Rattle.cj_bezier.proofs.TestLemmas.{decides_supports}
use Rattle.cj_bezier.proofs.VerdictLemmas.{supported_holds}
use Rattle.cj_bezier.proofs.SplitLemmas.{never_split}
use Rattle.cj_bezier.specs.RootLeaves.{kind_between}
use Rattle.cj_bezier.proofs.HalvingLemmas.{IsSettled, two_ticks}

-- the verdict of three tests
abbrev pub verdict_from : Bool → Bool → Bool → Verdict
verdict_from far near undecided = cond far verdicts.Far (cond near verdicts.Near (cond undecided verdicts.Undecided verdicts.Split))

from_tests : (test : Kind → Bool) (f n u : Bool) (kind : Kind) → test kinds.Far ≡ f → test kinds.Near ≡ n → test kinds.Undecided ≡ u → kind_of (verdict_from f n u) ≡ Some kind → test kind ≡ true
from_tests test true n u kind far near undecided e = let k : kinds.Far ≡ kind = cc in subst (λ x. test x ≡ true) k far
from_tests test false true u kind far near undecided e = let k : kinds.Near ≡ kind = cc in subst (λ x. test x ≡ true) k near
from_tests test false false true kind far near undecided e = let k : kinds.Undecided ≡ kind = cc in subst (λ x. test x ≡ true) k undecided
from_tests test false false false kind far near undecided e = absurd cc

-- a kind that a verdict gives is supported
pub supported_kind : (g : PlainGap) (thr : ℕ) (kind : Kind) → kind_of (verdict_of g thr) ≡ Some kind → supported g thr kind ≡ true
unfolding verdict_of
supported_kind g thr kind e = from_tests (supported g thr) (supported g thr kinds.Far) (supported g thr kinds.Near) (supported g thr kinds.Undecided) kind refl refl refl e

pub kind_holds : (c d : Curve) (thr first last m : ℕ) (kind : Kind) → 10 ^ 9 ≤ thr → IsOver c first last → IsOver d first last →
    kind_between c d thr first last ≡ Some kind → first ≤ m → m ≤ last → Holds kind c d thr m
unfolding kind_between cell_verdict HoldsThroughout
kind_holds c d thr first last m kind big oc od e low high =
    supported_holds c d thr first last kind big oc od
    ((decides_supports (gap_terms (hull_gap c d first last)) thr kind).0 (supported_kind (gap_terms (hull_gap c d first last)) thr kind e)) m low high

some_kind : (f n u : Bool) → (f ≡ false → n ≡ false → u ≡ false → ⊥) → is_some (kind_of (verdict_from f n u)) ≡ true
some_kind true n u h = refl
some_kind false true u h = refl
some_kind false false true h = refl
some_kind false false false h = absurd (h refl refl refl)

pub one_tick_kind : (c d : Curve) (thr m : ℕ) → 10 ^ 9 ≤ thr → IsOver c m m → IsOver d m m → is_some (kind_between c d thr m m) ≡ true
unfolding kind_between cell_verdict verdict_of
one_tick_kind c d thr m big oc od =
    some_kind (supported (gap_terms (hull_gap c d m m)) thr kinds.Far) (supported (gap_terms (hull_gap c d m m)) thr kinds.Near) (supported (gap_terms (hull_gap c d m m)) thr kinds.Undecided) (λ f n u. never_split (gap_terms (hull_gap c d m m)) c d thr m big oc od refl f n u)

-- over the ticks from first to last each tick has a kind
pub settled_over : (c d : Curve) (thr first last : ℕ) → 10 ^ 9 ≤ thr → IsOver c first last → IsOver d first last → IsSettled (kind_between c d thr) first last
settled_over c d thr first last big oc od m low high =
    one_tick_kind c d thr m big (record { some = oc.some; from = omega (arith, oc.from); to = omega (arith, oc.to) }) (record { some = od.some; from = omega (arith, od.from); to = omega (arith, od.to) })

-- what is split has two ticks or more
pub split_has_two : (c d : Curve) (thr first last : ℕ) → 10 ^ 9 ≤ thr → first ≤ last → IsOver c first last → IsOver d first last → verdicts.Split ≡ cell_verdict c d thr first last → first < last
unfolding kind_between
split_has_two c d thr first last big le oc od split =
    two_ticks (kind_between c d thr) first last le (settled_over c d thr first last big oc od) (ap kind_of (sym split))
