use Rattle.std.proofs.Common.{◌≡◌, ◌+◌, ◌≤◌, ◌++◌, drop}
use Rattle.cj_track.specs.Segments.{node_count, starts_from}
use Rattle.cj_track.proofs.segments.starts_of.Given as goal

abbrev pub invariant-loop-segment : goal.invariant-loop-segment
invariant-loop-segment l = record {
  told : l.starts.items ++ starts_from l.start (drop l.segment-index l.segments) ≡ starts_from 0 l.segments;
  room : l.start + node_count (drop l.segment-index l.segments) ≤ node_count l.segments;
}
