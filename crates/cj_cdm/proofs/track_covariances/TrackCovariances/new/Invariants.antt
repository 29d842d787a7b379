use Rattle.std.proofs.Common.{◌≡◌, map, take}
use Rattle.cj_track.specs.declared.segment.Segment.{Segment}
use Rattle.cj_cdm.proofs.track_covariances.TrackCovariances.new.Given as goal

abbrev pub invariant-loop-segment : goal.invariant-loop-segment
invariant-loop-segment l = l.segments.items ≡ map (λ (s : Segment). s.matrices) (take l.segment-index l.listed)
