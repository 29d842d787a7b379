use Rattle.std.proofs.Common.{All}
use Rattle.cj_threads.specs.Dealing.{IsDone}
use Rattle.cj_threads.proofs.dealing.take_numbers.Given as goal

abbrev pub invariant-loop : goal.invariant-loop
invariant-loop g l = All (IsDone g.F.Fn l.f l.count) l.done.items
