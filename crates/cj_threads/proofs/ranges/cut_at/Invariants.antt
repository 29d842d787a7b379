use Rattle.std.proofs.Common.{◌++◌}
use Rattle.std.specs.List.Sorted.{IsPermutation}
use Rattle.cj_threads.specs.Runs.{elements_of, elements_in}
use Rattle.cj_threads.proofs.ranges.cut_at.Given as goal

-- the ranges so far and what is left have the elements of all runs
abbrev pub invariant-loop-place : goal.invariant-loop-place
invariant-loop-place g l = IsPermutation (elements_of l.fn.runs.items) (elements_in l.ranges.items ++ elements_of l.rest.items)
