-- What the lines of shells show of the objects.
use Rattle.std.specs.Prelude.{◌≡◌, ℕ, ◌+◌, List, [], ◌∷◌, Option, Some, None}
use Rattle.std.specs.List.{enumerate_from}
use Rattle.cj_case.specs.PlainProblems.{PlainProblem}
use Rattle.cj_case.specs.Slots.{slot_count}
use Rattle.cj_case.specs.Tables.{Table}
use Rattle.cj_case.specs.declared.axis_box.AxisBox.{AxisBox}
use Rattle.cj_case.specs.Boxes.{PlainBox, plain_rows}
use Rattle.cj_formats.specs.declared.check_cause.CheckCause.TheVariants.{ShellOf}
use Rattle.cj_bezier.specs.AllBoxes.{boxes_of}
use Rattle.cj_cert.specs.declared.cert_lines.ShellLine.{ShellLine}
use Rattle.cj_checker.specs.First.{Failure, first_unfit}
use Rattle.cj_checker.specs.Rows.{row_at}
use Rattle.cj_checker.specs.Tests.{is_shell_line}
use Rattle.cj_brief_checker.specs.declared.shown.Shown.{Shown}
use Rattle.cj_brief_checker.specs.declared.shown.Shown.TheVariants.{Boxes, Fails}

-- they are the boxes of all objects in each slot
pub record AreBoxes (case : PlainProblem) (boxes : Table (Option AxisBox)) : Type 0 where
  pub rows : plain_rows boxes.rows ≡ boxes_of case
  pub slots : boxes.slots ≡ slot_count case.first case.last

-- the first of the lines, from a line on, that is not the shell of the object in its place
abbrev pub first_unfit_shell : PlainProblem → ℕ → List ShellLine → Option Failure
first_unfit_shell case first lines = first_unfit (is_shell_line case.first case.last) ShellOf first (enumerate_from 0 case.tracks) lines

-- what is shown are all boxes, where no line fails, and else the first failure
abbrev pub AreShown : PlainProblem → ℕ → List ShellLine → Shown → Type 0
AreShown case first lines (Boxes boxes) = (first_unfit_shell case first lines ≡ None) × AreBoxes case boxes
AreShown case first lines (Fails failure) = first_unfit_shell case first lines ≡ Some failure

-- what comes of lines, the first of which is in the place of this object: for each the boxes of its object in the first n slots, where it has the object's shell
unfoldable pub rows_from : PlainProblem → ℕ → ℕ → List ShellLine → List (Option (List (Option PlainBox)))
rows_from case n object [] = []
rows_from case n object (line ∷ lines) = row_at case n object line ∷ rows_from case n (object + 1) lines
