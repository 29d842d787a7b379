use Rattle.std.proofs.Common.{◌≡◌, ◌++◌, map, take, drop}
use Rattle.std.specs.List.{All}
use Rattle.cj_track.specs.Nodes.{AreNodes}
use Rattle.cj_track.specs.Tracks.{plain_segment}
use Rattle.cj_trim.specs.Trimmed as spec
use Rattle.cj_trim.proofs.trimming.trim_segments.Given as goal

-- what there is so far, then what comes of those that are left, is the whole
abbrev pub invariant-loop-segment : goal.invariant-loop-segment
invariant-loop-segment l = record {
  told : map plain_segment l.trimmed.items ++ map (spec.trimmed_segment l.window.first.micros l.window.last.micros) (map plain_segment (drop l.segment-index l.segments))
      ≡ map (spec.trimmed_segment l.window.first.micros l.window.last.micros) (map plain_segment l.segments);
  nodes : All (λ segment. AreNodes segment.nodes) (take l.segment-index l.segments);
}
