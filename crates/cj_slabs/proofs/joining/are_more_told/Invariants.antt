use Rattle.std.proofs.Common.{◌≡◌, ◌+◌, take}
use Rattle.cj_slabs.specs.Slabs.{told_by_outcomes}
use Rattle.cj_slabs.proofs.joining.are_more_told.Given as goal

abbrev pub invariant-loop-outcome : goal.invariant-loop-outcome
invariant-loop-outcome l = l.room + told_by_outcomes (take l.outcome-index l.outcomes) ≡ l.limit
