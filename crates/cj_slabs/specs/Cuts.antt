-- Cuts: what the piece of an object and its hull over some ticks stand for.
use Rattle.std.specs.Prelude.{◌≡◌, ◌∷◌, [], Some}
use Rattle.cj_case.specs.Cells.{PlainCell}
use Rattle.cj_case.specs.PlainProblems.{PlainProblem}
use Rattle.cj_case.specs.declared.kind.Kind.{Kind}
use Rattle.cj_hermite.specs.Interpolant.{IsOver}
use Rattle.cj_hermite.specs.ObjectsAtTicks.{curve_at}
use Rattle.cj_hermite.specs.Ready.{curve_ready}
use Rattle.cj_hermite.specs.Whole.{IsWhole}
use Rattle.cj_bezier.specs.Halving.{closed}
use Rattle.cj_bezier.specs.Hulls.{axes_of, hull_axes}
use Rattle.cj_bezier.specs.RootLeaves.{leaves_of_root, Describe}
use Rattle.cj_slabs.specs.declared.cutting.Cut.{Cut}

-- over the ticks the object is in one piece, this is its interpolant at the first, it gives places over all of them, and the hull is its own over them
pub record IsCut (case : PlainProblem) (cut : Cut) : Type 0 where
  pub whole : IsWhole case cut.object cut.first.micros cut.last.micros
  pub curve : curve_at case cut.object cut.first.micros ≡ Some (curve_ready cut.ready)
  pub over : IsOver (curve_ready cut.ready) cut.first.micros cut.last.micros
  pub hull : axes_of cut.hull.points ≡ hull_axes (curve_ready cut.ready) cut.first.micros cut.last.micros

-- a root is of this kind throughout, by one leaf, which describes it
pub record IsClosedAs (case : PlainProblem) (r : PlainCell) (kind : Kind) : Type 0 where
  pub leaves : leaves_of_root case r ≡ closed r.a r.b r.first r.last kind ∷ []
  pub described : Describe case r (leaves_of_root case r)
