-- What a reader of a file knows, as it goes from line to line.
use Rattle.std.specs.Prelude.{map}
use Rattle.std.specs.Option.{option_map}
use Rattle.cj_oem.specs.Stages as spec
use Rattle.cj_oem.specs.Drafts.{covariances_of}
use Rattle.cj_oem.specs.MetadataDrafts.{object_of, metadata_of, metadata_draft_of}
use Rattle.cj_track.specs.Tracks.{plain_segment, plain_node}
use Rattle.cj_oem.specs.declared.body.Body.{Body}
use Rattle.cj_oem.specs.declared.body.OpenSegment.{OpenSegment}
use Rattle.cj_oem.specs.declared.head.Head.{Head}
use Rattle.cj_oem.specs.declared.stage.Stage.{Stage}
use Rattle.cj_oem.specs.declared.stage.Stage.TheVariants as stages

abbrev pub head_of : Head → spec.Head
head_of h = record { date = h.date; originator = h.originator; classification = h.classification; message = h.message }

abbrev pub body_of : Body → spec.Body
body_of body = record { object = option_map object_of body.object; segments = map plain_segment body.segments }

abbrev pub open_segment_of : OpenSegment → spec.OpenSegment
open_segment_of open_segment = record { metadata = metadata_of open_segment.metadata; nodes = map plain_node open_segment.nodes }

abbrev pub stage_of : Stage → spec.Stage
stage_of stages.Start = spec.Start
stage_of (stages.Header head) = spec.Header (head_of head)
stage_of (stages.Meta body draft) = spec.Meta (body_of body) (metadata_draft_of draft)
stage_of (stages.Data body open_segment) = spec.Data (body_of body) (open_segment_of open_segment)
stage_of (stages.Cov closed covariances) = spec.Cov (body_of closed.body) (open_segment_of closed.open_segment) (covariances_of covariances)
stage_of (stages.After body) = spec.After (body_of body)
