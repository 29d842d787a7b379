use Rattle.std.proofs.Common.{◌≡◌, length}
use Rattle.cj_outputs.proofs.messages.objects_met.Given as goal

abbrev pub invariant-loop-encounter : goal.invariant-loop-encounter
invariant-loop-encounter l = length l.met.items ≡ l.objects
