use Rattle.std.proofs.Common.{ap, ◌∙◌}
use Rattle.cj_case.specs.Boxes.{plain_boxes}
use Rattle.cj_candidates.proofs.slots_searched.candidates_paired.Goals as goal

pub candidates_among-requires : goal.candidates_among-requires
candidates_among-requires c = ap plain_boxes c.deref.ensures.value ∙ c.in_ok-here.ensures
