use Rattle.std.proofs.Common.{◌≡◌, ◌-◌, ◌≤◌}
use Rattle.cj_case.specs.Tables.{filled_row}
use Rattle.cj_case.proofs.by_slot.fill_row.Given as goal

abbrev pub invariant-loop-slot : goal.invariant-loop-slot
invariant-loop-slot g l = record {
  later : l.first ≤ l.slot;
  row : l.row.items ≡ filled_row l.first (l.slot - l.first) l.value l.initial.row.items;
}
