use Rattle.std.proofs.Common.{take}
use Rattle.std.specs.List.{All}
use Rattle.cj_track.specs.Nodes.{AreNodes}
use Rattle.cj_thin.proofs.laws.nodes_of.Given as goal

-- the nodes of the segments so far
abbrev pub invariant-loop-segment : goal.invariant-loop-segment
invariant-loop-segment l = All (λ segment. AreNodes segment.nodes) (take l.segment-index l.segments)
