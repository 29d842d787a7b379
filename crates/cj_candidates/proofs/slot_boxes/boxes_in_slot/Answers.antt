use Rattle.std.proofs.Common.{arith}
use Rattle.cj_case.specs.Problems.{plain_problem}
use Rattle.cj_candidates.proofs.BoxLemmas.{boxes_there}
use Rattle.cj_candidates.proofs.slot_boxes.boxes_in_slot.Goals as goal

pub in_slot-requires : goal.in_slot-requires
in_slot-requires c = omega (arith, c.requires, c.args.ground.now.in_slots)

pub returns : goal.returns
returns c =
    let ground = c.args.ground.now in
    boxes_there (plain_problem ground.problem.now) c.args.slot ground.slots ground.measured.now.boxes.rows c.in_slot.new.here.items ground.counted c.requires ground.in_boxes c.in_ok-in_slot.ensures
