use Rattle.std.proofs.Common.{leb, rules}
use Rattle.std.proofs.lemmas.List.Sorted.{IsPartitionPoint-from_clause, IsPartitionedBy-leb}
use Rattle.cj_track.specs.declared.node.Node.{Node}
use Rattle.cj_hermite.proofs.SearchLemmas.{reached_from, nodes_rise}
use Rattle.cj_trim.proofs.needed_nodes.reached.Goals as goal

pub returns-clause-reached : goal.returns-clause-reached
returns-clause-reached c =
    let nodes = c.args.nodes.now in
    let m = c.args.at.micros in
    reached_from m c.partition_point.result nodes
    (IsPartitionPoint-from_clause (λ (node : Node). leb node.at.micros m) nodes c.partition_point.result c.partition_point.ensures.partitioned
    (IsPartitionedBy-leb (λ (node : Node). node.at.micros) nodes m (nodes_rise nodes c.requires.steps)) (λ a r f h. search rules))
