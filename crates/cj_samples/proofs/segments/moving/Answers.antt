use Rattle.std.proofs.Common.{◌≡◌, IfOk, subst}
use Rattle.cj_track.specs.PlainTracks.{PlainNode}
use Rattle.cj_track.specs.Tracks.{plain_node, plain_segment}
use Rattle.cj_samples.specs.Samples.{between, state}
use Rattle.cj_samples.proofs.segments.moving.Goals as goal

pub returns-clause-value : goal.returns-clause-value
returns-clause-value c =
    let start = state c.args.first c.args.from c.args.v in
    subst (λ (end : PlainNode). IfOk c.useable.result (λ s. plain_segment s ≡ between c.args.first c.args.last start end)) c.node-2.ensures.value
    (subst (λ (start : PlainNode). IfOk c.useable.result (λ s. plain_segment s ≡ between c.args.first c.args.last start (plain_node c.node-2.result)))
    c.node.ensures.value c.useable.ensures.value)
