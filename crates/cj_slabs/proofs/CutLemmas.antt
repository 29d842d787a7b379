-- What the cuts of two objects say of a root of theirs.
use Rattle.std.proofs.Common.{◌≡◌, ℕ, Option, Some, None, sym, ap, ◌∙◌, arith}
use Rattle.std.specs.Prelude.{IfSome}
use Rattle.cj_case.specs.Cells.{plain_cell}
use Rattle.cj_case.specs.PlainProblems.{threshold_of}
use Rattle.cj_case.specs.Problems.{plain_problem}
use Rattle.cj_case.specs.declared.cell.Cell.{Cell}
use Rattle.cj_case.specs.declared.kind.Kind.{Kind}
use Rattle.cj_case.specs.declared.problem.Problem.{Problem}
use Rattle.cj_hermite.specs.Interpolant.{IsOver}
use Rattle.cj_hermite.specs.ObjectsAtTicks.{curve_at}
use Rattle.cj_hermite.specs.Ready.{curve_ready}
use Rattle.cj_hermite.specs.Roots.{KeepPieces}
use Rattle.cj_hermite.proofs.CurveLemmas.{have_curves}
use Rattle.cj_hermite.proofs.TrackLemmas.{over_part}
use Rattle.cj_bezier.specs.Hulls.{axes_of, hull_axes}
use Rattle.cj_bezier.specs.RootLeaves.{kind_between}
use Rattle.cj_bezier.proofs.HalvingLemmas.{leaves-closed}
use Rattle.cj_bezier.proofs.LeafLemmas.{described, leaves_of}
use Rattle.cj_slabs.specs.Cuts.{IsClosedAs, IsCut}
use Rattle.cj_slabs.specs.declared.cutting.Cut.{Cut}

-- the cut of this object over the ticks of a cell
pub record IsCutFor (p : Problem) (object : ℕ) (cell : Cell) (cut : Cut) : Type 0 where
  pub made : IsCut (plain_problem p) cut
  pub same : cut.object ≡ object
  pub from : cut.first.micros ≡ cell.first.micros
  pub to : cut.last.micros ≡ cell.last.micros

curve_here : (p : Problem) (object : ℕ) (cell : Cell) (cut : Cut) → IsCutFor p object cell cut → curve_at (plain_problem p) object cell.first.micros ≡ Some (curve_ready cut.ready)
curve_here p object cell cut is =
    sym (ap (λ (k : ℕ). curve_at (plain_problem p) k cut.first.micros) is.same ∙ ap (λ (m : ℕ). curve_at (plain_problem p) object m) is.from) ∙ is.made.curve

over_here : (p : Problem) (object : ℕ) (cell : Cell) (cut : Cut) → IsCutFor p object cell cut → IsOver (curve_ready cut.ready) cell.first.micros cell.last.micros
over_here p object cell cut is =
    over_part (curve_ready cut.ready) cut.first.micros cut.last.micros cell.first.micros cell.last.micros is.made.over (omega (arith, is.from)) (omega (arith, is.to))

-- its hull is that over the cell's ticks
pub hull_here : (p : Problem) (object : ℕ) (cell : Cell) (cut : Cut) → IsCutFor p object cell cut
    → axes_of cut.hull.points ≡ hull_axes (curve_ready cut.ready) cell.first.micros cell.last.micros
hull_here p object cell cut is = is.made.hull ∙ (λ i. hull_axes (curve_ready cut.ready) (is.from i) (is.to i))

-- the kind that the hulls say is that of the one leaf of the cell
pub closed_by : (p : Problem) (cell : Cell) (x y : Cut) (thr : ℕ) (found : Option Kind) → KeepPieces (plain_problem p) cell.pair.a cell.pair.b cell.first.micros cell.last.micros
    → IsCutFor p cell.pair.a cell x → IsCutFor p cell.pair.b cell y → thr ≡ threshold_of (plain_problem p) cell.pair.a cell.pair.b
    → found ≡ kind_between (curve_ready x.ready) (curve_ready y.ready) thr cell.first.micros cell.last.micros → IfSome found (IsClosedAs (plain_problem p) (plain_cell cell))
closed_by p cell x y thr None keep is_x is_y same is = tt
closed_by p cell x y thr (Some kind) keep is_x is_y same is =
    let case = plain_problem p in
    let r = plain_cell cell in
    let c = curve_ready x.ready in
    let d = curve_ready y.ready in
    let first = curve_here p cell.pair.a cell x is_x in
    let second = curve_here p cell.pair.b cell y is_y in
    record {
      leaves = leaves_of case r c d thr first second same ∙ leaves-closed (kind_between c d thr) r.a r.b r.first r.last kind (sym is);
      described = described case r c d p.least cell.some (over_here p cell.pair.a cell x is_x) (over_here p cell.pair.b cell y is_y)
          (have_curves case cell.pair.a cell.pair.b cell.first.micros cell.last.micros c d cell.some keep first second);
    }
