use Rattle.std.proofs.Common.{◌≡◌, min, take}
use Rattle.cj_slabs.specs.Slabs.{least_of}
use Rattle.cj_slabs.proofs.joining.leaves_in.Given as goal

abbrev pub invariant-loop-outcome : goal.invariant-loop-outcome
invariant-loop-outcome l = l.leaves ≡ min (least_of (take l.outcome-index l.outcomes)) 18_446_744_073_709_551_615
