use Rattle.std.proofs.Common.{◌≡◌, map, replicate}
use Rattle.cj_case.proofs.by_slot.even_rows.Given as goal

abbrev pub invariant-loop : goal.invariant-loop
invariant-loop g l = map (λ row. row.items) l.rows.items ≡ replicate l.counter (replicate l.slots l.value)
