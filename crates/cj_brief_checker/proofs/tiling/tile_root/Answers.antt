use Rattle.std.proofs.Common.{ℕ, ◌+◌, ◌∷◌, List, true, false, length, drop, map, sym, ap, ◌∙◌, arith}
use Rattle.std.specs.Prelude.{if◌then◌else◌}
use Rattle.cj_case.specs.Leaves.{PlainLeaf}
use Rattle.cj_formats.specs.declared.check_cause.CheckCause.TheVariants.{Untiled}
use Rattle.cj_checker.specs.First.{failed}
use Rattle.cj_cert.specs.Certificates.{plain_cell_line}
use Rattle.cj_checker.specs.Tiling.{root_from}
use Rattle.cj_checker.proofs.TilingLemmas.{drop_past}
use Rattle.cj_brief_checker.specs.First.{told_from, wants_cells}
use Rattle.cj_brief_checker.proofs.StepLemmas.{begins_there, cell_ends, cell_fails, cell_goes_on, cell_leaves, err_within, leave_tells, ok_within, told_end, wants_same}
use Rattle.cj_brief_checker.proofs.tiling.tile_root.Goals as goal

pub returns-in-Fails-clause-tells : goal.returns-in-Fails-clause-tells
returns-in-Fails-clause-tells c case of begin line left =
    let i = c.loop-at.invariant in
    i.rest case of begin line left
    ∙ cell_fails case c.args.first.micros c.args.root.now c.args.cells.now line c.loop-at.at c.loop-at.from.micros c.loop-at.begun left c.index-cells-at.result of begin i.low i.high (omega arith) c.index-cells-at.is
    c.in-Fails.cause c.in-Fails.ensures

pub returns-in-Leaves-clause-tells : goal.returns-in-Leaves-clause-tells
returns-in-Leaves-clause-tells c case of begin line left =
    let i = c.loop-at.invariant in
    let root = c.args.root.now in
    i.rest case of begin line left
    ∙ cell_leaves case c.args.first.micros root c.args.cells.now line c.loop-at.at c.loop-at.from.micros c.loop-at.begun left c.index-cells-at.result of begin i.low i.high (omega arith) c.index-cells-at.is
    c.in-Leaves.ensures
    ∙ leave_tells case line c.loop-at.at left (map plain_cell_line c.args.cells.now) (wants_cells case c.loop-at.begun (root_from root c.loop-at.from.micros))
    (wants_cells case c.loop-at.begun (root_from root root.ticks.first.micros)) c.leave_root.result (wants_same case root c.loop-at.begun c.loop-at.from.micros i.whole) (c.leave_root.ensures.tells case of)

pub returns-then-root-cell-clause-tells : goal.returns-then-root-cell-clause-tells
returns-then-root-cell-clause-tells c case of begin line left =
    let i = c.loop-at.invariant in
    i.rest case of begin line left
    ∙ cell_ends case c.args.first.micros c.args.root.now c.args.cells.now line c.loop-at.at c.loop-at.from.micros c.loop-at.begun left c.index-cells-at.result of begin i.low i.high (omega arith) c.index-cells-at.is
    c.in-Takes.ensures c.if-root-cell.true

pub loop-at-preserved : goal.loop-at-preserved
loop-at-preserved c =
    let i = c.loop-at.invariant in
    let root = c.args.root.now in
    record {
      low = let low = i.low in let first = begins_there root c.args.first.micros c.loop-at.from.micros c.index-cells-at.result c.in-Takes.ensures in omega (arith, c.index-cells-at.result.some, c.next-from.ensures);
      high = omega (arith, c.next-from.ensures);
      place = omega arith;
      whole = λ never. absurd cc;
      rest = λ case of begin line left. i.rest case of begin line left
          ∙ cell_goes_on case c.args.first.micros root c.args.cells.now line c.loop-at.at c.loop-at.from.micros c.loop-at.begun left c.index-cells-at.result of begin i.low i.high (omega arith) c.index-cells-at.is
          c.in-Takes.ensures (omega arith)
          ∙ ap (λ (n : ℕ). told_from case (drop (c.loop-at.at + 1) (map plain_cell_line c.args.cells.now)) (line + (c.loop-at.at + 1)) true (root_from root n ∷ left)) (sym c.next-from.ensures);
    }

pub returns-clause-tells : goal.returns-clause-tells
returns-clause-tells c case of begin line left =
    let i = c.loop-at.invariant in
    let root = c.args.root.now in
    let at = c.loop-at.at in
    let cells = map plain_cell_line c.args.cells.now in
    let past = drop_past plain_cell_line c.args.cells.now at (omega arith) in
    i.rest case of begin line left
    ∙ ap (λ (ss : List PlainLeaf). told_from case ss (line + at) c.loop-at.begun (root_from root c.loop-at.from.micros ∷ left)) past
    ∙ told_end case (line + at) c.loop-at.begun (root_from root c.loop-at.from.micros) left
    ∙ ap (λ (ss : List PlainLeaf). if wants_cells case c.loop-at.begun (root_from root c.loop-at.from.micros) then failed (line + at) Untiled else told_from case ss (line + at) false left) (sym past)
    ∙ leave_tells case line at left cells (wants_cells case c.loop-at.begun (root_from root c.loop-at.from.micros))
    (wants_cells case c.loop-at.begun (root_from root root.ticks.first.micros)) c.leave_root-2.result (wants_same case root c.loop-at.begun c.loop-at.from.micros i.whole) (c.leave_root-2.ensures.tells case of)

pub returns-in-Leaves-clause-ok : goal.returns-in-Leaves-clause-ok
returns-in-Leaves-clause-ok c = ok_within c.leave_root.result c.loop-at.at (length c.args.cells.now) c.loop-at.invariant.place c.leave_root.ensures.ok

pub returns-in-Leaves-clause-err : goal.returns-in-Leaves-clause-err
returns-in-Leaves-clause-err c = err_within c.leave_root.result c.loop-at.at (length c.args.cells.now) c.loop-at.invariant.place c.leave_root.ensures.err

pub returns-clause-ok : goal.returns-clause-ok
returns-clause-ok c = ok_within c.leave_root-2.result c.loop-at.at (length c.args.cells.now) c.loop-at.invariant.place c.leave_root-2.ensures.ok

pub returns-clause-err : goal.returns-clause-err
returns-clause-err c = err_within c.leave_root-2.result c.loop-at.at (length c.args.cells.now) c.loop-at.invariant.place c.leave_root-2.ensures.err
