-- How far objects reach along the axis that a sweep leaves out.
use Rattle.std.specs.Prelude.{◌≡◌, ℕ, ◌+◌, ℤ, pos, ◌+ℤ◌, ◌-ℤ◌, ◌≤ℤ◌, List, length, get_or, Option, Some, slice_index}
use Rattle.cj_case.specs.declared.axis_box.AxisBox.{AxisBox}
use Rattle.cj_case.specs.declared.problem.Problem.{Problem}
use Rattle.cj_case.specs.PlainProblems.{PlainProblem}
use Rattle.cj_case.specs.Problems.{plain_problem}
use Rattle.cj_case.specs.Boxes.{PlainBox, plain_boxes}
use Rattle.cj_case.specs.Boxes as boxes
use Rattle.cj_bezier.specs.SlotBoxes.{reaches_in}
use Rattle.cj_checker.specs.declared.axis.Axis.{Axis}
use Rattle.cj_checker.specs.declared.axis.Axis.TheVariants as axes
use Rattle.cj_checker.specs.declared.beside.Beside.{Beside}
use Rattle.cj_checker.specs.declared.beside.Besides.{Besides}

-- from where to where a box reaches along the axis that is neither that of a sweep nor that across it; beside a radius and the last axis either of the others would do
abbrev pub third : Axis → PlainBox → boxes.Reach
third axes.X area = area.z
third axes.Y area = area.x
third axes.Z area = area.y
third axes.Radius area = area.x

-- so far an object with this box reaches
pub record IsBeside (case : PlainProblem) (axis : Axis) (object : ℕ) (area : PlainBox) (b : Beside) : Type 0 where
  pub low : b.low ≡ (third axis area).least -ℤ pos (slice_index case.sizes object)
  pub high : b.high ≡ (third axis area).most +ℤ pos (slice_index case.sizes object + case.threshold)

-- of each object with a box it is kept how far that reaches
pub record AreBeside (problem : Problem) (areas : List (Option AxisBox)) (b : Besides) : Type 0 where
  pub count : length b.items.items ≡ length areas
  pub each : (object : ℕ) (area : PlainBox) (d : Beside) → reaches_in (plain_boxes areas) object ≡ Some area → IsBeside (plain_problem problem) b.axis object area (get_or b.items.items object d)

-- each begins at most where the other ends
pub record AreNear (a b : Beside) : Type 0 where
  pub there : a.low ≤ℤ b.high
  pub back : b.low ≤ℤ a.high
