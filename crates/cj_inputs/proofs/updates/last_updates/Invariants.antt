use Rattle.std.proofs.Common.{◌≡◌, ◌++◌, length}
use Rattle.cj_inputs.specs.Updates.{last_updates}
use Rattle.cj_inputs.proofs.updates.last_updates.Given as goal

-- what was found, then what is found of those that are left, is the whole
abbrev pub invariant-loop-rest : goal.invariant-loop-rest
invariant-loop-rest l = l.last.items ++ last_updates l.suffix l.update l.rest ≡ last_updates l.suffix l.update l.entries

abbrev pub decreases-loop-rest : goal.decreases-loop-rest
decreases-loop-rest l = length l.rest
