-- How readers answer.
use Rattle.std.specs.Prelude.{ℕ, List, map, Option, Result, Ok, Err}
use Rattle.std.specs.Borrow.{Bor}
use Rattle.cj_base.specs.Decimals.{number_of}
use Rattle.cj_rtn.specs.declared.relative.Rtn.{Rtn}
use Rattle.cj_cdm.specs.declared.cdm.Cdm.{Cdm}
use Rattle.cj_cdm.specs.declared.cdm.Side.{Side}
use Rattle.cj_cdm.specs.declared.reading.rest.Rest.{Rest as Left}
use Rattle.cj_cdm.specs.declared.reading.said.FrontSaid.{FrontSaid}
use Rattle.cj_cdm.specs.declared.reading.said.HeadingSaid.{HeadingSaid}
use Rattle.cj_cdm.specs.declared.reading.said.MessageSaid.{MessageSaid}
use Rattle.cj_cdm.specs.declared.reading.said.ObjectSaid.{ObjectSaid}
use Rattle.cj_cdm.specs.declared.reading.said.PeriodSaid.{PeriodSaid}
use Rattle.cj_cdm.specs.declared.reading.said.SideSaid.{SideSaid}
use Rattle.cj_cdm.specs.Fields.{stamp_of}
use Rattle.cj_cdm.specs.Messages.{PlainSide, PlainMessage}
use Rattle.cj_cdm.specs.Reading.{Fault, Front, Heading, Object, Period, Rest}

abbrev pub plain_side : Side → PlainSide
plain_side s = record {
  id = s.id;
  name = s.name;
  designator = s.designator;
  file = s.file;
  frame = s.frame;
  place = s.place;
  rate = s.rate;
  epoch = s.epoch.micros;
  values = map number_of s.values;
}

-- what a message says that was read
abbrev pub plain_cdm : Cdm → PlainMessage
plain_cdm c = record {
  stamp = record { created = c.created.micros; originator = c.originator; number = c.number };
  tca = c.tca.micros;
  miss = c.miss;
  start = c.start.micros;
  stop = c.stop.micros;
  object1 = plain_side c.first;
  object2 = plain_side c.second;
}

-- what a message says that was read with a relative state, or without one
abbrev pub plain_read : Cdm × Option Rtn → PlainMessage × Option Rtn
plain_read read = (plain_cdm read.0, read.1)

abbrev pub bytes_of : Bor (List ℕ) → List ℕ
bytes_of text = text.now

abbrev pub plain_rest : Left → Rest
plain_rest rest = record { text = rest.text.now; line = rest.line }

abbrev pub plain_object : ObjectSaid → Object
plain_object o = record { id = o.id.now; name = o.name.now; designator = o.designator.now; file = o.file.now; frame = o.frame }

abbrev pub plain_front : FrontSaid → Front
plain_front f = record { stamp = stamp_of f.stamp; tca = f.tca.micros; miss = f.miss }

abbrev pub plain_period : PeriodSaid → Period
plain_period p = record { start = p.start.micros; stop = p.stop.micros }

abbrev pub plain_heading : HeadingSaid → Heading
plain_heading h = record { stamp = stamp_of h.stamp; tca = h.tca.micros; miss = h.miss; start = h.start.micros; stop = h.stop.micros }

abbrev pub side_of_said : SideSaid → PlainSide
side_of_said s = record {
  id = s.object.id.now;
  name = s.object.name.now;
  designator = s.object.designator.now;
  file = s.object.file.now;
  frame = s.object.frame;
  place = s.place;
  rate = s.rate;
  epoch = s.epoch.micros;
  values = map number_of s.values;
}

abbrev pub message_of_said : MessageSaid → PlainMessage
message_of_said m = record {
  stamp = stamp_of m.heading.stamp;
  tca = m.heading.tca.micros;
  miss = m.heading.miss;
  start = m.heading.start.micros;
  stop = m.heading.stop.micros;
  object1 = side_of_said m.first;
  object2 = side_of_said m.second;
}

abbrev pub read_of_said : MessageSaid × Option Rtn → PlainMessage × Option Rtn
read_of_said said = (message_of_said said.0, said.1)

-- an answer in the words of the definitions
abbrev pub plain : {X Y : Type 0} → (X → Y) → Result X Fault → Result Y Fault
plain view (Ok x) = Ok (view x)
plain view (Err fault) = Err fault

-- the same with what is left behind it
abbrev pub told : {X Y : Type 0} → (X → Y) → Result X Fault → Left → Result (Y × Rest) Fault
told view (Ok x) left = Ok (view x, plain_rest left)
told view (Err fault) left = Err fault
