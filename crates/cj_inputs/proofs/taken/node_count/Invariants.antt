use Rattle.std.proofs.Common.{◌≡◌, sum_by, take, length}
use Rattle.cj_track.specs.declared.segment.Segment.{Segment}
use Rattle.cj_inputs.proofs.taken.node_count.Given as goal

abbrev pub invariant-loop-segment : goal.invariant-loop-segment
invariant-loop-segment l = l.count ≡ sum_by (λ (segment : Segment). length segment.nodes) (take l.segment-index l.track.segments)
