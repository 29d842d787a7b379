use Rattle.std.proofs.Common.{◌≡◌, Some, map, take}
use Rattle.std.specs.Prelude.{slice_get}
use Rattle.cj_case.proofs.by_slot.list_slot.Given as goal

abbrev pub invariant-loop-row : goal.invariant-loop-row
invariant-loop-row g l = map Some l.here.items ≡ map (λ row. slice_get row.items l.slot) (take l.row-index l.rows)
