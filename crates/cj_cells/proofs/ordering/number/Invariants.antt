use Rattle.std.proofs.Common.{◌≡◌, take}
use Rattle.std.specs.List.{range_with_len}
use Rattle.cj_case.specs.Cells.{plain_cells}
use Rattle.cj_cells.specs.Cells.{root_numbers}
use Rattle.cj_cells.proofs.ordering.number.Given as goal

abbrev pub invariant-loop-at : goal.invariant-loop-at
invariant-loop-at l = record {
  kept : plain_cells l.roots ≡ plain_cells l.initial.roots;
  numbered : root_numbers (take l.at l.roots) ≡ range_with_len 0 l.at;
}
