-- What the cuts of two objects say of the one root of theirs.
use Rattle.std.proofs.Common.{◌≡◌, ◌≤◌, ℕ, [], ◌∷◌, Some, sym, ap, subst, ◌∙◌, arith}
use Rattle.cj_base.specs.declared.tick.Window.{Window}
use Rattle.cj_case.specs.PlainProblems.{PlainProblem, threshold_of}
use Rattle.cj_case.specs.declared.pair.Pair.{Pair}
use Rattle.cj_hermite.specs.Interpolant.{IsOver}
use Rattle.cj_hermite.specs.ObjectsAtTicks.{curve_at}
use Rattle.cj_hermite.specs.Ready.{curve_ready}
use Rattle.cj_hermite.specs.Roots.{KeepPieces}
use Rattle.cj_hermite.specs.declared.ready_axis.Ready.{Ready}
use Rattle.cj_hermite.proofs.CurveLemmas.{have_curves}
use Rattle.cj_hermite.proofs.TrackLemmas.{over_part}
use Rattle.cj_hermite.proofs.WholeLemmas.{both_keep, one_root, whole_at}
use Rattle.cj_bezier.specs.Hulls.{axes_of, hull_axes}
use Rattle.cj_bezier.specs.Verdicts.{cell_verdict}
use Rattle.cj_brief_checker.specs.Cuts.{IsCut, IsWholeRoot}
use Rattle.cj_brief_checker.specs.declared.cuts.Cut.{Cut}
use Rattle.cj_brief_checker.specs.declared.judged_root.JudgedRoot.{JudgedRoot}

-- the cut of this object over these ticks
pub record IsCutFor (case : PlainProblem) (object : ℕ) (ticks : Window) (cut : Cut) : Type 0 where
  pub made : IsCut case cut
  pub same : cut.object ≡ object
  pub from : cut.ticks.first.micros ≡ ticks.first.micros
  pub to : cut.ticks.last.micros ≡ ticks.last.micros

curve_here : (case : PlainProblem) (object : ℕ) (ticks : Window) (cut : Cut) → IsCutFor case object ticks cut → curve_at case object ticks.first.micros ≡ Some (curve_ready cut.ready)
curve_here case object ticks cut is =
    sym (ap (λ (k : ℕ). curve_at case k cut.ticks.first.micros) is.same ∙ ap (λ (m : ℕ). curve_at case object m) is.from) ∙ is.made.curve

over_here : (case : PlainProblem) (object : ℕ) (ticks : Window) (cut : Cut) → IsCutFor case object ticks cut → IsOver (curve_ready cut.ready) ticks.first.micros ticks.last.micros
over_here case object ticks cut is =
    over_part (curve_ready cut.ready) cut.ticks.first.micros cut.ticks.last.micros ticks.first.micros ticks.last.micros is.made.over (omega (arith, is.from)) (omega (arith, is.to))

-- its hull is that over these ticks
pub hull_here : (case : PlainProblem) (object : ℕ) (ticks : Window) (cut : Cut) → IsCutFor case object ticks cut
    → axes_of cut.hull.points ≡ hull_axes (curve_ready cut.ready) ticks.first.micros ticks.last.micros
hull_here case object ticks cut is = is.made.hull ∙ (λ i. hull_axes (curve_ready cut.ready) (is.from i) (is.to i))

-- two objects with cuts over these ticks have one root there, which is made of the cuts
pub whole_root : (case : PlainProblem) (pair : Pair) (ticks : Window) (x y : Cut) (j : JudgedRoot) → ticks.first.micros ≤ ticks.last.micros
    → IsCutFor case pair.a ticks x → IsCutFor case pair.b ticks y → j.root.pair ≡ pair → j.root.ticks ≡ ticks → j.root.first ≡ x.ready → j.root.second ≡ y.ready
    → j.root.thr ≡ threshold_of case pair.a pair.b
    → j.verdict ≡ cell_verdict (curve_ready x.ready) (curve_ready y.ready) j.root.thr ticks.first.micros ticks.last.micros → IsWholeRoot case pair ticks j
whole_root case pair ticks x y j some is_x is_y own over one two thr verdict =
    let first = ticks.first.micros in
    let last = ticks.last.micros in
    let left = whole_at case x.object pair.a x.ticks.first.micros first x.ticks.last.micros last is_x.same is_x.from is_x.to is_x.made.whole in
    let right = whole_at case y.object pair.b y.ticks.first.micros first y.ticks.last.micros last is_y.same is_y.from is_y.to is_y.made.whole in
    let keep : KeepPieces case pair.a pair.b first last = both_keep case pair.a pair.b first last left right in
    let have = have_curves case pair.a pair.b first last (curve_ready x.ready) (curve_ready y.ready) some keep (curve_here case pair.a ticks x is_x) (curve_here case pair.b ticks y is_y) in
    let from : first ≡ j.root.ticks.first.micros = ap (λ (w : Window). w.first.micros) (sym over) in
    let to : last ≡ j.root.ticks.last.micros = ap (λ (w : Window). w.last.micros) (sym over) in
    record {
      some = omega (arith, some, from, to);
      of = record {
        one = λ m low high. ap (λ (q : Pair). curve_at case q.a m) own ∙ have.first_curve m (omega arith) (omega arith) ∙ ap (λ (r : Ready). Some (curve_ready r)) (sym one);
        other = λ m low high. ap (λ (q : Pair). curve_at case q.b m) own ∙ have.second_curve m (omega arith) (omega arith) ∙ ap (λ (r : Ready). Some (curve_ready r)) (sym two);
        threshold = thr ∙ ap (λ (q : Pair). threshold_of case q.a q.b) (sym own);
      };
      over = record {
        one = (let is : IsOver (curve_ready j.root.first) first last = subst (λ (r : Ready). IsOver (curve_ready r) first last) (sym one) (over_here case pair.a ticks x is_x) in
            subst (λ (w : Window). IsOver (curve_ready j.root.first) w.first.micros w.last.micros) (sym over) is);
        other = (let is : IsOver (curve_ready j.root.second) first last = subst (λ (r : Ready). IsOver (curve_ready r) first last) (sym two) (over_here case pair.b ticks y is_y) in
            subst (λ (w : Window). IsOver (curve_ready j.root.second) w.first.micros w.last.micros) (sym over) is);
      };
      one = one_root case pair.a pair.b first last some keep ∙ (λ i. record { a = (sym own i).a; b = (sym own i).b; first = (sym over i).first.micros; last = (sym over i).last.micros } ∷ []);
      verdict = verdict ∙ (λ i. cell_verdict (curve_ready (sym one i)) (curve_ready (sym two i)) j.root.thr (from i) (to i));
    }
