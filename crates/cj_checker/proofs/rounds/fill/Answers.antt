use Rattle.std.proofs.Common.{ap, ◌∙◌}
use Rattle.cj_case.specs.Boxes.{plain_boxes}
use Rattle.cj_checker.specs.ListedBoxes.{table_of}
use Rattle.cj_checker.proofs.RoundLemmas.{boxes_more}
use Rattle.cj_checker.proofs.rounds.fill.Goals as goal

pub loop-object-preserved : goal.loop-object-preserved
loop-object-preserved c =
    ap plain_boxes c.in_ok-push.ensures.items
    ∙ boxes_more (table_of c.args.listed.now c.args.slot) c.loop-object.object c.loop-object.boxes.items c.of.result c.loop-object.invariant c.of.ensures
