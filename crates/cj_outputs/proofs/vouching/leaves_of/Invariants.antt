use Rattle.std.proofs.Common.{◌≡◌, map, take}
use Rattle.cj_case.specs.Leaves.{plain_leaves}
use Rattle.cj_cert.specs.Certificates.{plain_cell_line}
use Rattle.cj_outputs.proofs.vouching.leaves_of.Given as goal

abbrev pub invariant-loop-cell : goal.invariant-loop-cell
invariant-loop-cell l = plain_leaves l.leaves.items ≡ map plain_cell_line (take l.cell-index l.cells)
