use Rattle.std.proofs.Common.{◌≡◌, replicate}
use Rattle.cj_case.proofs.by_slot.even_row.Given as goal

abbrev pub invariant-loop : goal.invariant-loop
invariant-loop g l = l.row.items ≡ replicate l.counter l.value
