use Rattle.std.proofs.Common.{◌≡◌, map, take}
use Rattle.cj_case.proofs.by_slot.copies_of.Given as goal

abbrev pub invariant-loop-row : goal.invariant-loop-row
invariant-loop-row g l = map (λ row. row.items) l.copies.items ≡ map (λ row. row.items) (take l.row-index l.rows)
