use Rattle.std.proofs.Common.{◌≤◌, length}
use Rattle.cj_blocks.proofs.EnterLemmas.{AreListedFrom}
use Rattle.cj_blocks.proofs.listed_boxes.listed_boxes.Given as goal

-- the table has the lines from the last one passed on
abbrev pub invariant-loop-left : goal.invariant-loop-left
invariant-loop-left l = record {
  within : l.left ≤ length l.lines;
  table : AreListedFrom l.lines l.objects l.slots l.left l.boxes;
}

abbrev pub decreases-loop-left : goal.decreases-loop-left
decreases-loop-left l = l.left
