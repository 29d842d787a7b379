-- What a supported kind says of each tick, and which verdict comes when.
use Rattle.std.proofs.Common.{◌≡◌, ℕ, ◌+◌, ◌-◌, ◌*◌, ◌^◌, ◌≤◌, ◌↔◌, refl, sym, subst, Bool, true, false}
use Rattle.std.specs.Prelude.{ℤ, pos, ◌≤ℤ◌, ◌<ℤ◌, IsTrue}
use Rattle.cj_hermite.specs.Interpolant.{Curve, IsOver}
use Rattle.cj_hermite.specs.Distance.{BAND}
use Rattle.cj_hermite.proofs.DistanceLemmas.{beyond}
use Rattle.cj_case.specs.declared.kind.Kind.{Kind}
use Rattle.cj_case.specs.declared.kind.Kind.TheVariants as kinds
use Rattle.cj_bezier.specs.declared.verdicts.Verdict.TheVariants as verdicts
use Rattle.cj_bezier.specs.Hulls.{PlainHull}
use Rattle.cj_bezier.specs.Gaps.{PlainGap, IsGapOver, gap_terms, gap_low, gap_high, hull_gap}
use Rattle.cj_bezier.specs.Verdicts.{AreAbove, AreAtLeast, AreAtMost, Supports, supported, verdict_of, HoldsThroughout}
use Rattle.cj_bezier.proofs.GapLemmas.{LowsAbove, LowsAtLeast, HighsAtMost, at_least_at, beyond_at, within_at}
use Rattle.cj_bezier.proofs.SevenLemmas.{first_seven, from_seven}
use Rattle.cj_bezier.proofs.TestLemmas.{decides_supports}

-- ---- the seven ends of a gap are all its ends

pub all_above : (d : PlainHull) (e : ℕ) → AreAbove (gap_terms d).low e → LowsAbove d e
unfolding AreAbove gap_terms
all_above d e h = from_seven (λ c z. pos (c * (e * e)) <ℤ z) (gap_low d) (λ n. refl) h

pub all_at_least : (d : PlainHull) (e : ℕ) → AreAtLeast (gap_terms d).low e → LowsAtLeast d e
unfolding AreAtLeast gap_terms
all_at_least d e h = from_seven (λ c z. pos (c * (e * e)) ≤ℤ z) (gap_low d) (λ n. refl) h

pub all_at_most : (d : PlainHull) (e : ℕ) → AreAtMost (gap_terms d).high e → HighsAtMost d e
unfolding AreAtMost gap_terms
all_at_most d e h = from_seven (λ c z. z ≤ℤ pos (c * (e * e))) (gap_high d) (λ n. refl) h

pub are_above_from : (d : PlainHull) (e : ℕ) → LowsAbove d e → AreAbove (gap_terms d).low e
unfolding AreAbove gap_terms
are_above_from d e h = first_seven (λ c z. pos (c * (e * e)) <ℤ z) (gap_low d) h

pub are_at_least_from : (d : PlainHull) (e : ℕ) → LowsAtLeast d e → AreAtLeast (gap_terms d).low e
unfolding AreAtLeast gap_terms
are_at_least_from d e h = first_seven (λ c z. pos (c * (e * e)) ≤ℤ z) (gap_low d) h

pub are_at_most_from : (d : PlainHull) (e : ℕ) → HighsAtMost d e → AreAtMost (gap_terms d).high e
unfolding AreAtMost gap_terms
are_at_most_from d e h = first_seven (λ c z. z ≤ℤ pos (c * (e * e))) (gap_high d) h

-- ---- a supported kind holds at each tick

pub supported_holds : (a b : Curve) (thr first last : ℕ) (kind : Kind) → 10 ^ 9 ≤ thr → IsOver a first last → IsOver b first last
    → Supports (gap_terms (hull_gap a b first last)) thr kind → HoldsThroughout kind a b thr first last
unfolding HoldsThroughout
supported_holds a b thr first last kinds.Far big oa ob s m p q =
    beyond a b thr m (beyond_at a b thr first m last p q oa ob (all_above (hull_gap a b first last) thr s))
supported_holds a b thr first last kinds.Near big oa ob s m p q =
    within_at a b thr first m last p q oa ob (all_at_most (hull_gap a b first last) thr s)
supported_holds a b thr first last kinds.Undecided big oa ob s m p q =
    record {
      within = within_at a b (thr + BAND) first m last p q oa ob (all_at_most (hull_gap a b first last) (thr + BAND) s.1);
      beyond = at_least_at a b (thr - BAND) first m last p q oa ob (all_at_least (hull_gap a b first last) (thr - BAND) s.0);
    }

-- the same of a test that was true of a gap
pub law_of : (g : PlainGap) (thr : ℕ) (kind : Kind) (a b : Curve) (first last : ℕ) → 10 ^ 9 ≤ thr → IsGapOver g a b first last
    → supported g thr kind ≡ true → HoldsThroughout kind a b thr first last
law_of g thr kind a b first last big of_hulls t =
    supported_holds a b thr first last kind big of_hulls.a_over of_hulls.b_over
    ((decides_supports (gap_terms (hull_gap a b first last)) thr kind).0 (subst (λ (x : PlainGap). supported x thr kind ≡ true) of_hulls.terms t))

-- the answer of a test of support is exact
pub exact_of : (r : Bool) (g : PlainGap) (thr : ℕ) (kind : Kind) → r ≡ supported g thr kind → (IsTrue r ↔ Supports g thr kind)
exact_of r g thr kind e = subst (λ (x : Bool). IsTrue x ↔ Supports g thr kind) (sym e) (decides_supports g thr kind)

-- ---- which verdict comes when

pub far_verdict : (g : PlainGap) (thr : ℕ) → supported g thr kinds.Far ≡ true → verdicts.Far ≡ verdict_of g thr
unfolding verdict_of
far_verdict g thr f = rw f refl

pub near_verdict : (g : PlainGap) (thr : ℕ) → supported g thr kinds.Far ≡ false → supported g thr kinds.Near ≡ true → verdicts.Near ≡ verdict_of g thr
unfolding verdict_of
near_verdict g thr f n = rw (f, n) refl

pub undecided_verdict : (g : PlainGap) (thr : ℕ) → supported g thr kinds.Far ≡ false → supported g thr kinds.Near ≡ false → supported g thr kinds.Undecided ≡ true → verdicts.Undecided ≡ verdict_of g thr
unfolding verdict_of
undecided_verdict g thr f n u = rw (f, n, u) refl

pub split_verdict : (g : PlainGap) (thr : ℕ) → supported g thr kinds.Far ≡ false → supported g thr kinds.Near ≡ false → supported g thr kinds.Undecided ≡ false → verdicts.Split ≡ verdict_of g thr
unfolding verdict_of
split_verdict g thr f n u = rw (f, n, u) refl
