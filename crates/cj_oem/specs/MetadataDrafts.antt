-- What the draft of a program says.
use Rattle.std.specs.Prelude.{◌≡◌, ◌⊎◌, ℕ, true, List, [], length, map, unwrap_or}
use Rattle.std.specs.Option.{option_map}
use Rattle.cj_base.specs.Bytes.{spaced}
use Rattle.cj_kvn.specs.Lines.{Form, Blank, Comment, Mark, Pair, Row}
use Rattle.cj_base.specs.PlainTicks.{micros_of}
use Rattle.cj_base.specs.declared.tick.Tick.{Tick}
use Rattle.cj_track.specs.declared.frame.Frame.{Frame}
use Rattle.cj_track.specs.Labels.{is_label}
use Rattle.cj_oem.specs.Metadata as spec
use Rattle.cj_oem.specs.declared.object.Object.{Object}
use Rattle.cj_oem.specs.declared.metadata_draft.MetadataDraft.{MetadataDraft}
use Rattle.cj_oem.specs.declared.segment_metadata.Metadata.{Metadata}

abbrev pub object_of : Object → spec.Object
object_of object = record { name = object.name; id = object.id; frame = object.frame }

abbrev pub metadata_draft_of : MetadataDraft → spec.MetadataDraft
metadata_draft_of s = record {
  name = s.name;
  id = s.id;
  center = s.center;
  frame = s.frame;
  frame_epoch = s.frame_epoch;
  time_system = s.time_system;
  start = option_map micros_of s.start;
  stop = option_map micros_of s.stop;
  useable_start = option_map micros_of s.useable_start;
  useable_stop = option_map micros_of s.useable_stop;
  hermite = s.hermite;
  cubic = s.cubic;
}

abbrev pub metadata_of : Metadata → spec.Metadata
metadata_of metadata = record { object = object_of metadata.object; first = metadata.first.micros; last = metadata.last.micros }

-- the metadata of a draft, with this frame and this useable span
abbrev pub metadata_with : spec.MetadataDraft → Frame × Tick × Tick → spec.Metadata
metadata_with s stated = record {
  object = record { name = unwrap_or s.name []; id = unwrap_or s.id []; frame = stated.0 };
  first = stated.1.micros;
  last = stated.2.micros;
}

-- a value that is not empty is a label, once its tabs are read as spaces
abbrev pub IsLabelled : List ℕ → Type 0
IsLabelled value = (length value ≡ 0) ⊎ (is_label (map spaced value) ≡ true)

-- so is the value of a line, where the line is a pair
abbrev pub HasLabel : Form → Type 0
HasLabel Blank = Unit {0}
HasLabel Comment = Unit {0}
HasLabel (Mark mark) = Unit {0}
HasLabel (Pair key value) = IsLabelled value
HasLabel (Row text) = Unit {0}
