use Rattle.std.proofs.Common.{rules}
use Rattle.cj_checker.proofs.candidate.boxes_touch.Goals as goal
use Rattle.cj_checker.proofs.candidate.boxes_touch.Goals.{then-reach_touches, else-reach_touches}

pub returns-then-reach_touches-2 : goal.returns-then-reach_touches-2
returns-then-reach_touches-2 c = elim c.if-reach_touches.branch [
  | then-reach_touches w ↦ search rules
  | else-reach_touches w ↦ search rules
]

pub returns-else-reach_touches-2 : goal.returns-else-reach_touches-2
returns-else-reach_touches-2 c = elim c.if-reach_touches.branch [
  | then-reach_touches w ↦ search rules
  | else-reach_touches w ↦ search rules
]
