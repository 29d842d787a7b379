use Rattle.std.proofs.Common.{◌∙◌, ◌++◌, [], ◌∷◌, List, map, take, ap, sym, arith}
use Rattle.std.proofs.lemmas.List.{map_more, map_push, take_all}
use Rattle.cj_case.specs.Leaves.{PlainLeaf, plain_leaf, plain_leaves}
use Rattle.cj_cert.specs.Certificates.{plain_cell_line}
use Rattle.cj_outputs.proofs.vouching.leaves_of.Goals as goal

pub loop-cell-init : goal.loop-cell-init
loop-cell-init c = ap plain_leaves c.in_ok-leaves.ensures.items

pub loop-cell-preserved : goal.loop-cell-preserved
loop-cell-preserved c =
    let i = c.loop-cell.cell-index in
    let cells = c.args.cells.now in
    let cell = c.cell-item.result in
    ap plain_leaves c.in_ok-push.ensures.items ∙ map_push plain_leaf c.loop-cell.leaves.items c.leaf_of.result
    ∙ ap (λ (ss : List PlainLeaf). ss ++ plain_leaf c.leaf_of.result ∷ []) c.loop-cell.invariant
    ∙ ap (λ (s : PlainLeaf). map plain_cell_line (take i cells) ++ s ∷ []) (c.leaf_of.ensures ∙ ap plain_cell_line c.cell-item.is)
    ∙ sym (map_more plain_cell_line cells i cell (omega arith))

pub returns : goal.returns
returns c = c.loop-cell.invariant ∙ ap (map plain_cell_line) (take_all c.loop-cell.cell-index c.args.cells.now (omega arith))
