use Rattle.std.proofs.Common.{◌≡◌, map, take}
use Rattle.cj_case.specs.Leaves.{plain_leaves}
use Rattle.cj_cert.specs.Certificates.{plain_cell_line}
use Rattle.cj_cert.proofs.written.cell_lines.Given as goal

abbrev pub invariant-loop-leaf : goal.invariant-loop-leaf
invariant-loop-leaf l = map plain_cell_line l.lines.items ≡ plain_leaves (take l.leaf-index l.leaves)
