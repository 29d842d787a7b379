use Rattle.std.proofs.Common.{All, length}
use Rattle.std.specs.Prelude.{IfOk}
use Rattle.cj_threads.specs.Dealing.{IsDone}
use Rattle.cj_threads.proofs.dealing.take_together.Given as goal

-- what was gathered, and what each other thread has done
abbrev pub invariant-loop-run : goal.invariant-loop-run
invariant-loop-run g l = record {
  runs : All (λ run. IfOk run (λ done. All (IsDone g.F.Fn l.f l.fn.count) done.items)) l.runs.items;
  all : All (IsDone g.F.Fn l.f l.fn.count) l.all.items;
}

abbrev pub decreases-loop-run : goal.decreases-loop-run
decreases-loop-run g l = length l.runs.items
