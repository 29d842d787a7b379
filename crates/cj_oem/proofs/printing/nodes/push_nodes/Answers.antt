use Rattle.std.proofs.Common.{◌++◌, ◌∙◌, ap, map, take_all, arith, rules}
use Rattle.std.specs.Prelude.{flat_map}
use Rattle.std.proofs.lemmas.Result.{IfOk-from_err}
use Rattle.cj_oem.specs.Canonical.{row_text}
use Rattle.cj_track.specs.Tracks.{plain_node}
use Rattle.cj_oem.proofs.TextLemmas.{part_more_of}
use Rattle.cj_oem.proofs.printing.nodes.push_nodes.Goals as goal

pub loop-node-preserved : goal.loop-node-preserved
loop-node-preserved c =
    part_more_of row_text plain_node c.args.nodes.now c.loop-node.node-index c.node-item.result c.args.text.now.items c.loop-node.text.items c.push_state.new.text.items
    (omega arith) (search rules) c.loop-node.invariant c.in_ok-push_state.ensures

pub returns : goal.returns
returns c =
    let all = take_all c.loop-node.node-index c.args.nodes.now c.loop-node-test.false in
    c.loop-node.invariant ∙ ap (λ ns. c.args.text.now.items ++ flat_map row_text (map plain_node ns)) all

pub returns-in_err-push_state : goal.returns-in_err-push_state
returns-in_err-push_state c = IfOk-from_err c.from_residual.result _ c.from_residual.ensures.0
