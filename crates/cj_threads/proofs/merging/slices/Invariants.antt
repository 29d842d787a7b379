use Rattle.std.proofs.Common.{◌≡◌, map, take}
use Rattle.cj_threads.proofs.merging.slices.Given as goal

abbrev pub invariant-loop-run : goal.invariant-loop-run
invariant-loop-run g l = map (λ run. run.now) l.all.items ≡ map (λ run. run.items) (take l.run-index l.runs)
