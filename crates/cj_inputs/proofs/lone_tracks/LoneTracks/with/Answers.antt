use Rattle.std.proofs.Common.{◌≡◌, ◌+◌, ap, arith}
use Rattle.cj_case.specs.CaseLimits.{node_total}
use Rattle.cj_track.specs.Segments.{node_count}
use Rattle.cj_inputs.proofs.ReadingLemmas.{few_nodes, many_nodes, nodes_behind}
use Rattle.cj_inputs.proofs.lone_tracks.LoneTracks.with.Goals as goal

pub invariant_of-result : goal.invariant_of-result
invariant_of-result c =
    let tracks = c.args.self.tracks.items in
    record {
      counted = omega (arith, c.args.self.counted, c.node_count.ensures.value, nodes_behind tracks c.args.track, ap node_total c.in_ok-push.ensures.items);
      few = omega (arith, c.if-nodes-limits.false, c.args.limits.most_nodes);
    }

pub returns-then-nodes-limits-clause-told : goal.returns-then-nodes-limits-clause-told
returns-then-nodes-limits-clause-told c =
    let before = c.args.self in
    let is : before.nodes + c.node_count.result ≡ node_total before.tracks.items + node_count c.args.track.segments = omega (arith, before.counted, c.node_count.ensures.value) in
    many_nodes c.args.limits.nodes before.tracks.items c.args.track (before.nodes + c.node_count.result) is c.if-nodes-limits.true

pub returns-clause-told : goal.returns-clause-told
returns-clause-told c =
    let before = c.args.self in
    let is : before.nodes + c.node_count.result ≡ node_total before.tracks.items + node_count c.args.track.segments = omega (arith, before.counted, c.node_count.ensures.value) in
    few_nodes c.args.limits.nodes before.tracks.items c.args.track (before.nodes + c.node_count.result) is c.if-nodes-limits.false
