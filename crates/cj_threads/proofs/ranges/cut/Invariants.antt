use Rattle.std.proofs.Common.{◌++◌, take}
use Rattle.std.specs.List.Sorted.{IsPermutation}
use Rattle.cj_threads.specs.Runs.{elements_of}
use Rattle.cj_threads.proofs.ranges.cut.Given as goal

-- the runs so far are cut
abbrev pub invariant-loop-run : goal.invariant-loop-run
invariant-loop-run g l = IsPermutation (elements_of (take l.run-index l.runs)) (elements_of l.low.items ++ elements_of l.high.items)
