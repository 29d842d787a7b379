use Rattle.std.proofs.Common.{◌≡◌, map, take}
use Rattle.cj_track.specs.Tracks.{plain_segment}
use Rattle.cj_inputs.proofs.copying.copies_of_segments.Given as goal

-- the copies so far say what the first segments say
abbrev pub invariant-loop-segment : goal.invariant-loop-segment
invariant-loop-segment l = map plain_segment l.copies.items ≡ map plain_segment (take l.segment-index l.segments)
