use Rattle.std.proofs.Common.{take, All}
use Rattle.cj_track.specs.Nodes.{AreNodes}
use Rattle.cj_cert.proofs.accepting.rules_of.Given as goal

-- the nodes of the segments so far
abbrev pub invariant-loop-segment : goal.invariant-loop-segment
invariant-loop-segment l = All (λ s. AreNodes s.nodes) (take l.segment-index l.segments)
