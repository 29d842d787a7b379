use Rattle.std.proofs.Common.{◌≡◌}
use Rattle.cj_case.specs.Boxes.{plain_boxes}
use Rattle.cj_filter_tests.specs.Rows.{boxes_in_row}
use Rattle.cj_filter_tests.proofs.boxes.points_in_row.Given as goal

abbrev pub invariant-loop-place : goal.invariant-loop-place
invariant-loop-place l = plain_boxes l.boxes.items ≡ boxes_in_row l.place
