use Rattle.std.proofs.Common.{◌≡◌, ℕ, ◌<◌, length, get_or, Some}
use Rattle.cj_case.specs.Problems.{plain_problem}
use Rattle.cj_case.specs.Boxes.{PlainBox, plain_boxes}
use Rattle.cj_bezier.specs.SlotBoxes.{reaches_in}
use Rattle.cj_checker.specs.declared.beside.Beside.{Beside}
use Rattle.cj_checker.specs.Besides.{IsBeside}
use Rattle.cj_checker.proofs.beside.lay_beside.Given as goal

-- those of the objects so far
abbrev pub invariant-loop-object : goal.invariant-loop-object
invariant-loop-object l = record {
  axis : l.besides.axis ≡ l.axis;
  count : length l.besides.items.items ≡ l.object;
  each : (k : ℕ) → k < l.object → (area : PlainBox) (d : Beside) → reaches_in (plain_boxes l.boxes) k ≡ Some area → IsBeside (plain_problem l.problem) l.axis k area (get_or l.besides.items.items k d);
}
