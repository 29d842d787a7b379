use Rattle.std.proofs.Common.{◌+◌, ◌++◌, List, false, drop, map, ap}
use Rattle.cj_case.specs.Problems.{plain_problem}
use Rattle.cj_case.specs.Cells.{PlainCell}
use Rattle.cj_case.specs.Slots.{slot_first, slot_last}
use Rattle.cj_cert.specs.Certificates.{plain_cell_line}
use Rattle.cj_brief_checker.specs.First.{told_from}
use Rattle.cj_hermite.proofs.SlotRootLemmas.{no_roots}
use Rattle.cj_brief_checker.proofs.tiling.tile_pair.Goals as goal

pub returns-in-None-clause-tells : goal.returns-in-None-clause-tells
returns-in-None-clause-tells c line left =
    let case = plain_problem c.args.problem.now in
    ap (λ (rs : List PlainCell). told_from case (drop c.args.at (map plain_cell_line c.args.cells.now)) (line + c.args.at) false (rs ++ left))
    (no_roots case c.args.pair.a c.args.pair.b (slot_first case.first c.args.slot) (slot_last case.first case.last c.args.slot) c.in-None.ensures.none)
