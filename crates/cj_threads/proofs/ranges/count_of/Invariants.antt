use Rattle.std.proofs.Common.{◌≡◌, length, min, take}
use Rattle.cj_threads.specs.Runs.{elements_of}
use Rattle.cj_threads.proofs.ranges.count_of.Given as goal

abbrev pub invariant-loop-run : goal.invariant-loop-run
invariant-loop-run g l = l.count ≡ min (length (elements_of (take l.run-index l.runs))) 18_446_744_073_709_551_615
