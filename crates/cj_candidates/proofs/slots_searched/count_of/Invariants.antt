use Rattle.std.proofs.Common.{◌≡◌, length, min, take}
use Rattle.cj_candidates.specs.SlotRuns.{roots_listed}
use Rattle.cj_candidates.proofs.slots_searched.count_of.Given as goal

abbrev pub invariant-loop-run : goal.invariant-loop-run
invariant-loop-run l = l.count ≡ min (length (roots_listed (take l.run-index l.runs))) 18_446_744_073_709_551_615
