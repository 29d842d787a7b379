use Rattle.std.proofs.Common.{◌≡◌, ◌++◌, map, take, All}
use Rattle.std.specs.Prelude.{flat_map}
use Rattle.cj_oem.specs.Canonical.{header_text, segment_text}
use Rattle.cj_track.specs.Tracks.{plain_segment, plain_track}
use Rattle.cj_oem.proofs.TrackAgainLemmas.{Keeps}
use Rattle.cj_oem.proofs.printing.oem_text.Given as goal

abbrev pub invariant-loop-segment : goal.invariant-loop-segment
invariant-loop-segment l = record {
  text : l.text.items ≡ header_text ++ flat_map (segment_text (plain_track l.track)) (map plain_segment (take l.segment-index l.segments));
  kept : All Keeps (take l.segment-index l.segments);
}
