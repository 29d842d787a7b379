use Rattle.std.proofs.Common.{◌≡◌, take}
use Rattle.cj_candidates.specs.SlotRuns.{candidates_counted}
use Rattle.cj_candidates.proofs.slots_searched.touching_in.Given as goal

abbrev pub invariant-loop-run : goal.invariant-loop-run
invariant-loop-run l = l.touching ≡ candidates_counted (take l.run-index l.runs)
