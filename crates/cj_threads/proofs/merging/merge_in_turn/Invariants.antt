use Rattle.std.proofs.Common.{◌≡◌, take}
use Rattle.cj_threads.specs.Runs.{elements_of}
use Rattle.cj_threads.proofs.merging.merge_in_turn.Given as goal

abbrev pub invariant-loop-run : goal.invariant-loop-run
invariant-loop-run g l = l.all.items ≡ elements_of (take l.run-index l.runs)
