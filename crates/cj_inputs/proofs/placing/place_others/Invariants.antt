use Rattle.std.proofs.Common.{◌≡◌, length}
use Rattle.cj_inputs.specs.Places.{file_of}
use Rattle.cj_inputs.specs.Updates.{with_others}
use Rattle.cj_inputs.proofs.placing.place_others.Given as goal

-- those that are left, put among what there is, are all among all
abbrev pub invariant-loop-other : goal.invariant-loop-other
invariant-loop-other l = with_others file_of l.others.items l.tracks.items ≡ with_others file_of l.fn.others.items l.fn.tracks.items

abbrev pub decreases-loop-other : goal.decreases-loop-other
decreases-loop-other l = length l.others.items
