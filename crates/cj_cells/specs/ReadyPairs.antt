-- Ready pairs: what two pieces made ready stand for.
use Rattle.cj_hermite.specs.Interpolant.{IsOver}
use Rattle.cj_case.specs.PlainProblems.{PlainProblem}
use Rattle.cj_hermite.specs.ObjectsAtTicks.{HaveCurves}
use Rattle.cj_hermite.specs.Ready.{curve_ready}
use Rattle.cj_cells.specs.declared.ready_pair.ReadyPair.{ReadyPair}

-- from the first to the last tick these are the interpolants of the pair's objects, and give places
pub record IsReadyPair (case : PlainProblem) (r : ReadyPair) : Type 0 where
  pub curves : HaveCurves case r.pair.a r.pair.b r.first.micros r.last.micros (curve_ready r.a) (curve_ready r.b)
  pub first_over : IsOver (curve_ready r.a) r.first.micros r.last.micros
  pub second_over : IsOver (curve_ready r.b) r.first.micros r.last.micros
