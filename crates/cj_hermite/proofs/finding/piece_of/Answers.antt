use Rattle.std.proofs.Common.{◌+◌, ◌<◌, List, length, ap, arith}
use Rattle.cj_track.specs.declared.node.Node.{Node}
use Rattle.cj_hermite.proofs.PieceLemmas.{step_between, piece_read}
use Rattle.cj_hermite.proofs.finding.piece_of.Goals as goal

pub between-requires : goal.between-requires
between-requires c =
    let nodes = c.as_slice-nodes.result.now in
    let below : c.args.number + 1 < length nodes = omega (arith, ap (λ (xs : List Node). length xs) c.as_slice-nodes.ensures.value) in
    step_between c.args.number nodes c.index-nodes-number.result c.index-nodes-number-2.result c.as_slice-nodes.ensures.kept.steps below c.index-nodes-number.is c.index-nodes-number-2.is

pub returns-clause-value : goal.returns-clause-value
returns-clause-value c =
    let nodes = c.as_slice-nodes.result.now in
    let below : c.args.number + 1 < length nodes = omega (arith, ap (λ (xs : List Node). length xs) c.as_slice-nodes.ensures.value) in
    piece_read c.args.segment.now c.args.number nodes c.index-nodes-number.result c.index-nodes-number-2.result c.between.result c.as_slice-nodes.ensures.value below c.index-nodes-number.is
    c.index-nodes-number-2.is c.between.ensures.from c.between.ensures.to
