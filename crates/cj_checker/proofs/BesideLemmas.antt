-- Candidates are not apart along the axis that a sweep leaves out.
use Rattle.std.proofs.Common.{◌≡◌, ◌⊎◌, ℕ, ◌+◌, ◌<◌, ◌≤◌, inl, inr, true, List, [], ◌∷◌, ◌++◌, length, get_or, Option, Some, refl, sym, ap, subst, ◌∙◌, arith}
use Rattle.std.specs.Prelude.{ℤ, pos, ◌≤ℤ◌, ◌+ℤ◌, ◌-ℤ◌, slice_index}
use Rattle.std.proofs.lemmas.Bool.{cases_lt}
use Rattle.std.proofs.lemmas.Int.{ints}
use Rattle.std.proofs.lemmas.List.{get_or_append_left, get_or_push}
use Rattle.cj_case.specs.declared.axis_box.AxisBox.{AxisBox}
use Rattle.cj_case.specs.declared.problem.Problem.{Problem}
use Rattle.cj_case.specs.declared.shells.Shell.{Shell}
use Rattle.cj_case.specs.PlainProblems.{PlainProblem}
use Rattle.cj_case.specs.Problems.{plain_problem}
use Rattle.cj_case.specs.Boxes.{PlainBox, Reach, plain_boxes}
use Rattle.cj_case.specs.Pairs.{AreBoth}
use Rattle.cj_bezier.specs.SlotBoxes.{reaches_in}
use Rattle.cj_checker.specs.declared.axis.Axis.{Axis}
use Rattle.cj_checker.specs.declared.axis.Axis.TheVariants as axes
use Rattle.cj_checker.specs.declared.beside.Beside.{Beside}
use Rattle.cj_checker.specs.declared.beside.Besides.{Besides}
use Rattle.cj_checker.specs.Besides.{AreBeside, AreNear, IsBeside, third}
use Rattle.cj_checker.specs.Keys.{candidate_with}
use Rattle.cj_checker.specs.Sweeps.{side}
use Rattle.cj_checker.proofs.SweepLemmas.{AreBoxed, boxed}

-- the axis that is left out
abbrev seen : Axis → Axis
seen axes.X = axes.Z
seen axes.Y = axes.X
seen axes.Z = axes.Y
seen axes.Radius = axes.X

third_is : (axis : Axis) (s : Shell) (area : PlainBox) → third axis area ≡ side (seen axis) s area
third_is axes.X s area = refl
third_is axes.Y s area = refl
third_is axes.Z s area = refl
third_is axes.Radius s area = refl

apart_by : (low least high most : ℤ) (thr s t : ℕ) → low ≡ least -ℤ pos s → high ≡ most +ℤ pos (t + thr) → least ≤ℤ (most +ℤ pos (thr + s + t)) → low ≤ℤ high
apart_by low least high most thr s t from to h = omega (arith, ints)

apart_back : (low least high most : ℤ) (thr s t : ℕ) → low ≡ least -ℤ pos t → high ≡ most +ℤ pos (s + thr) → least ≤ℤ (most +ℤ pos (thr + s + t)) → low ≤ℤ high
apart_back low least high most thr s t from to h = omega (arith, ints)

near : (case : PlainProblem) (axis : Axis) (shells : List (Option Shell)) (areas : List (Option PlainBox)) (a b : ℕ) (x y : Beside) (r : AreBoxed case shells areas a b)
    → IsBeside case axis a r.first x → IsBeside case axis b r.second y → AreNear x y
near case axis shells areas a b x y r is_x is_y =
    let s = slice_index case.sizes a in
    let t = slice_index case.sizes b in
    let u = third axis r.first in
    let v = third axis r.second in
    let there : u.least ≤ℤ (v.most +ℤ pos (case.threshold + s + t)) =
    subst (λ (p : Reach). p.least ≤ℤ (v.most +ℤ pos (case.threshold + s + t))) (sym (third_is axis r.own r.first))
    (subst (λ (p : Reach). (side (seen axis) r.own r.first).least ≤ℤ (p.most +ℤ pos (case.threshold + s + t))) (sym (third_is axis r.other r.second)) (r.there (seen axis))) in
    let back : v.least ≤ℤ (u.most +ℤ pos (case.threshold + s + t)) =
    subst (λ (p : Reach). p.least ≤ℤ (u.most +ℤ pos (case.threshold + s + t))) (sym (third_is axis r.other r.second))
    (subst (λ (p : Reach). (side (seen axis) r.other r.second).least ≤ℤ (p.most +ℤ pos (case.threshold + s + t))) (sym (third_is axis r.own r.first)) (r.back (seen axis))) in
    record {
      there = apart_by x.low u.least y.high v.most case.threshold s t is_x.low is_y.high there;
      back = apart_back y.low v.least x.high u.most case.threshold s t is_y.low is_x.high back;
    }

turned : (x y : Beside) → AreNear x y → AreNear y x
turned x y is = record { there = is.back; back = is.there }

-- two objects of a candidate are near
pub are_near : (problem : Problem) (shells : List (Option Shell)) (areas : List (Option AxisBox)) (besides : Besides) (one other a b : ℕ) (d : Beside)
    → AreBeside problem areas besides → AreBoth one other a b → candidate_with (plain_problem problem) shells (plain_boxes areas) (a, b) ≡ true
    → AreNear (get_or besides.items.items one d) (get_or besides.items.items other d)
are_near problem shells areas besides one other a b d are both is = go both
  where
    case : PlainProblem
    case = plain_problem problem

    r : AreBoxed case shells (plain_boxes areas) a b
    r = boxed case shells (plain_boxes areas) a b is

    ordered : AreNear (get_or besides.items.items a d) (get_or besides.items.items b d)
    ordered = near case besides.axis shells (plain_boxes areas) a b (get_or besides.items.items a d) (get_or besides.items.items b d) r (are.each a r.first d r.first_is) (are.each b r.second d r.second_is)

    go : AreBoth one other a b → AreNear (get_or besides.items.items one d) (get_or besides.items.items other d)
    go (inl same) =
        subst (λ (k : ℕ). AreNear (get_or besides.items.items k d) (get_or besides.items.items other d)) (sym same.0)
        (subst (λ (k : ℕ). AreNear (get_or besides.items.items a d) (get_or besides.items.items k d)) (sym same.1) ordered)
    go (inr same) =
        subst (λ (k : ℕ). AreNear (get_or besides.items.items k d) (get_or besides.items.items other d)) (sym same.0)
        (subst (λ (k : ℕ). AreNear (get_or besides.items.items b d) (get_or besides.items.items k d)) (sym same.1) (turned _ _ ordered))

-- ---- one object more

pub each_more : (case : PlainProblem) (axis : Axis) (areas : List (Option PlainBox)) (old new : List Beside) (x : Beside) (object : ℕ) → length old ≡ object → new ≡ old ++ x ∷ []
    → ((k : ℕ) → k < object → (area : PlainBox) (d : Beside) → reaches_in areas k ≡ Some area → IsBeside case axis k area (get_or old k d))
    → ((area : PlainBox) → reaches_in areas object ≡ Some area → IsBeside case axis object area x)
    → (k : ℕ) → k < object + 1 → (area : PlainBox) (d : Beside) → reaches_in areas k ≡ Some area → IsBeside case axis k area (get_or new k d)
each_more case axis areas old new x object count grown before here k lt area d is = go (cases_lt k object)
  where
    go : (k < object) ⊎ (object ≤ k) → IsBeside case axis k area (get_or new k d)
    go (inl low) =
        subst (IsBeside case axis k area) (sym (ap (λ (bs : List Beside). get_or bs k d) grown ∙ get_or_append_left old (x ∷ []) d k (omega (arith, count)))) (before k low area d is)
    go (inr high) =
        let same : object ≡ k = omega arith in
        subst (IsBeside case axis k area) (sym (ap (λ (bs : List Beside). get_or bs k d) grown ∙ get_or_push old x d k (count ∙ same)))
        (subst (λ (n : ℕ). IsBeside case axis n area x) same (here area (ap (reaches_in areas) same ∙ is)))
