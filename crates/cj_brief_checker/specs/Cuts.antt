-- Cuts: what the piece of an object and its hull over some ticks stand for, and the one root of two of them.
use Rattle.std.specs.Prelude.{◌≡◌, ◌≤◌, ◌∷◌, [], Some}
use Rattle.cj_base.specs.declared.tick.Window.{Window}
use Rattle.cj_case.specs.PlainProblems.{PlainProblem}
use Rattle.cj_case.specs.declared.pair.Pair.{Pair}
use Rattle.cj_hermite.specs.Interpolant.{IsOver}
use Rattle.cj_hermite.specs.ObjectsAtTicks.{curve_at}
use Rattle.cj_hermite.specs.Ready.{curve_ready}
use Rattle.cj_hermite.specs.Roots.{roots_between}
use Rattle.cj_hermite.specs.Whole.{IsWhole}
use Rattle.cj_bezier.specs.Hulls.{axes_of, hull_axes}
use Rattle.cj_checker.specs.Tiling.{AreOver, IsOf, root_from}
use Rattle.cj_brief_checker.specs.FarThroughout.{IsVerdictOf}
use Rattle.cj_brief_checker.specs.declared.cuts.Cut.{Cut}
use Rattle.cj_brief_checker.specs.declared.judged_root.JudgedRoot.{JudgedRoot}

-- over the ticks the object is in one piece, this is its interpolant at the first, it gives places over all of them, and the hull is its own over them
pub record IsCut (case : PlainProblem) (cut : Cut) : Type 0 where
  pub whole : IsWhole case cut.object cut.ticks.first.micros cut.ticks.last.micros
  pub curve : curve_at case cut.object cut.ticks.first.micros ≡ Some (curve_ready cut.ready)
  pub over : IsOver (curve_ready cut.ready) cut.ticks.first.micros cut.ticks.last.micros
  pub hull : axes_of cut.hull.points ≡ hull_axes (curve_ready cut.ready) cut.ticks.first.micros cut.ticks.last.micros

-- it is the one root of the pair over these ticks, and judged
pub record IsWholeRoot (case : PlainProblem) (pair : Pair) (ticks : Window) (j : JudgedRoot) : Type 0 where
  pub some : j.root.ticks.first.micros ≤ j.root.ticks.last.micros
  pub of : IsOf case j.root
  pub over : AreOver j.root j.root.ticks.first.micros j.root.ticks.last.micros
  pub one : roots_between case pair.a pair.b ticks.first.micros ticks.last.micros ≡ root_from j.root j.root.ticks.first.micros ∷ []
  pub verdict : IsVerdictOf j.root j.verdict
