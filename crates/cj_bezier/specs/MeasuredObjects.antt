-- What is measured of the objects of a case.
use Rattle.std.specs.Prelude.{◌≡◌}
use Rattle.cj_case.specs.PlainProblems.{PlainProblem}
use Rattle.cj_case.specs.Slots.{slot_count}
use Rattle.cj_case.specs.Boxes.{plain_rows}
use Rattle.cj_case.specs.declared.measured.Measured.{Measured}
use Rattle.cj_bezier.specs.AllBoxes.{boxes_of}
use Rattle.cj_bezier.specs.Candidates.{shells_of}

-- they are the shells of all objects in the window, and their boxes in each slot
pub record AreMeasured (case : PlainProblem) (measured : Measured) : Type 0 where
  pub shells : measured.shells.items ≡ shells_of case
  pub boxes : plain_rows measured.boxes.rows ≡ boxes_of case
  pub slots : measured.boxes.slots ≡ slot_count case.first case.last
