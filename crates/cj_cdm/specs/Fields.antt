-- What the fields of a message say.
use Rattle.std.specs.Prelude.{map}
use Rattle.cj_base.specs.Decimals.{number_of}
use Rattle.cj_cdm.specs.declared.stamp.Stamp.{Stamp}
use Rattle.cj_cdm.specs.declared.fields.SideFields.{SideFields}
use Rattle.cj_cdm.specs.declared.fields.MessageFields.{MessageFields}
use Rattle.cj_cdm.specs.Fits.{IsShort}
use Rattle.cj_cdm.specs.Building.{in_square_metres}
use Rattle.cj_cdm.specs.Designators.{designator_of}
use Rattle.cj_cdm.specs.Messages.{PlainSide, PlainStamp, PlainMessage}

abbrev pub stamp_of : Stamp → PlainStamp
stamp_of stamp = record { created = stamp.created.micros; originator = stamp.originator.now; number = stamp.number }

abbrev pub side_of_fields : SideFields → PlainSide
side_of_fields side = record {
  id = side.track.now.id;
  name = side.track.now.name;
  designator = designator_of side.track.now.id;
  file = side.track.now.file;
  frame = side.track.now.frame;
  place = side.place;
  rate = side.rate;
  epoch = side.matrix.now.at.micros;
  values = map in_square_metres (map number_of side.matrix.now.values);
}

-- the coordinates of a side are below 10^36
abbrev pub AreShort : SideFields → Type 0
AreShort side = IsShort side.place × IsShort side.rate

abbrev pub message_of_fields : MessageFields → PlainMessage
message_of_fields fields = record {
  stamp = stamp_of fields.stamp;
  tca = fields.tca.micros;
  miss = fields.miss;
  start = fields.window.first.micros;
  stop = fields.window.last.micros;
  object1 = side_of_fields fields.first;
  object2 = side_of_fields fields.second;
}
