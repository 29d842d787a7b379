use Rattle.std.proofs.Common.{◌≡◌, ℕ, ◌+◌, ◌∷◌, drop, map, sym, ap, ◌∙◌, rules, arith, None}
use Rattle.cj_cert.specs.Certificates.{plain_cell_line}
use Rattle.cj_checker.specs.First.{cells_from}
use Rattle.cj_checker.specs.Tiling.{root_from}
use Rattle.cj_checker.proofs.CauseLemmas.{cells_missing}
use Rattle.cj_checker.proofs.TilingLemmas.{begins_there, drop_past, root_fails, root_ends, root_goes_on}
use Rattle.cj_checker.proofs.tiling.tile_root.Goals as goal

pub returns-in-Some-clause-tiles : goal.returns-in-Some-clause-tiles
returns-in-Some-clause-tiles c case of line left =
    let i = c.loop-at.invariant in
    i.rest case of line left
    ∙ root_fails case c.args.root.now c.args.cells.now line c.loop-at.at c.loop-at.from.micros left c.index-cells-at.result of i.low i.high (omega arith) c.index-cells-at.is c.in-Some.cause (sym c.in-Some.ensures)

pub returns-then-root-cell-clause-tiles : goal.returns-then-root-cell-clause-tiles
returns-then-root-cell-clause-tiles c case of line left =
    let i = c.loop-at.invariant in
    let none : c.cause_of.result ≡ None = search rules in
    i.rest case of line left
    ∙ root_ends case c.args.root.now c.args.cells.now line c.loop-at.at c.loop-at.from.micros left c.index-cells-at.result of i.low i.high (omega arith) c.index-cells-at.is (sym c.cause_of.ensures ∙ none) c.if-root-cell.true

pub loop-at-preserved : goal.loop-at-preserved
loop-at-preserved c =
    let i = c.loop-at.invariant in
    let none : c.cause_of.result ≡ None = search rules in
    record {
      low = let low = i.low in let first = begins_there c.args.root.now c.loop-at.from.micros c.index-cells-at.result (sym c.cause_of.ensures ∙ none) in omega (arith, c.index-cells-at.result.some, c.next-from.ensures);
      high = omega (arith, c.next-from.ensures);
      place = omega arith;
      rest = λ case of line left. i.rest case of line left
          ∙ root_goes_on case c.args.root.now c.args.cells.now line c.loop-at.at c.loop-at.from.micros left c.index-cells-at.result of i.low i.high (omega arith) c.index-cells-at.is (sym c.cause_of.ensures ∙ none) (omega arith)
          ∙ ap (λ (n : ℕ). cells_from case (line + (c.loop-at.at + 1)) (root_from c.args.root.now n ∷ left) (drop (c.loop-at.at + 1) (map plain_cell_line c.args.cells.now))) (sym c.next-from.ensures);
    }

pub returns-clause-tiles : goal.returns-clause-tiles
returns-clause-tiles c case of line left =
    let i = c.loop-at.invariant in
    i.rest case of line left
    ∙ ap (cells_from case (line + c.loop-at.at) (root_from c.args.root.now c.loop-at.from.micros ∷ left)) (drop_past plain_cell_line c.args.cells.now c.loop-at.at (omega arith))
    ∙ cells_missing case (line + c.loop-at.at) (root_from c.args.root.now c.loop-at.from.micros) left
