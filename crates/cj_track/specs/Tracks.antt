-- What a track says.
use Rattle.std.specs.Prelude.{map}
use Rattle.cj_base.specs.Decimals.{number_of}
use Rattle.cj_track.specs.declared.node.Node.{Node}
use Rattle.cj_track.specs.declared.matrix.Matrix.{Matrix}
use Rattle.cj_track.specs.declared.segment.Segment.{Segment}
use Rattle.cj_track.specs.declared.track.Track.{Track}
use Rattle.cj_track.specs.PlainTracks.{PlainNode, PlainMatrix, PlainSegment, PlainTrack}

abbrev pub plain_node : Node → PlainNode
plain_node node = record { at = node.at.micros; p = node.p; v = node.v }

abbrev pub plain_matrix : Matrix → PlainMatrix
plain_matrix matrix = record { at = matrix.at.micros; values = map number_of matrix.values }

abbrev pub plain_segment : Segment → PlainSegment
plain_segment segment = record {
  first = segment.first.micros;
  last = segment.last.micros;
  nodes = map plain_node segment.nodes;
  covariances = map plain_matrix segment.matrices;
}

abbrev pub plain_track : Track → PlainTrack
plain_track track = record { file = track.file; name = track.name; id = track.id; frame = track.frame; segments = map plain_segment track.segments }
