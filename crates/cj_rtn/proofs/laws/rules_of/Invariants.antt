use Rattle.std.proofs.Common.{take}
use Rattle.std.specs.Prelude.{All}
use Rattle.cj_track.specs.Nodes.{AreNodes}
use Rattle.cj_rtn.proofs.laws.rules_of.Given as goal

abbrev pub invariant-loop-segment : goal.invariant-loop-segment
invariant-loop-segment l = All (λ s. AreNodes s.nodes) (take l.segment-index l.segments)
