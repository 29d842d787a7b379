use Rattle.std.proofs.Common.{◌++◌, [], ◌∷◌, Some, ap, ◌∙◌}
use Rattle.std.specs.Prelude.{option_map}
use Rattle.std.proofs.lemmas.List.{map_push}
use Rattle.cj_case.specs.Boxes.{plain_box, plain_boxes}
use Rattle.cj_filter_tests.proofs.RowLemmas.{row_more}
use Rattle.cj_filter_tests.proofs.boxes.points_in_row.Goals as goal

pub loop-place-preserved : goal.loop-place-preserved
loop-place-preserved c =
    ap plain_boxes c.in_ok-push.ensures.items ∙ map_push (option_map plain_box) c.loop-place.boxes.items (Some c.point_in_row.result)
    ∙ (λ i. c.loop-place.invariant i ++ Some (c.point_in_row.ensures i) ∷ []) ∙ row_more c.loop-place.place
